-- A parameter where it lies, which no public clause cites.
use Rattle.std.specs.Prelude.{◌≡◌}
use Rattle.opus_sdp.specs.Parts.{Part, part_at, name_of, value_at}
use Rattle.opus_sdp.specs.declared.written.Written.{Written}

pub record IsWritten (w : Written) (p : Part) : Type 0 where
  pub at : w.at ≡ p.at
  pub name : w.name.now ≡ name_of p.text
  pub value : part_at w.value_at w.value.now ≡ value_at p
