-- The names that were met, which no public clause cites.
use Rattle.std.specs.Prelude.{ℕ, Bool, List}
use Rattle.std.specs.List.{list_any}
use Rattle.std.specs.Str.{bytes_eq}
use Rattle.opus_sdp.specs.Table.{lowered}
use Rattle.opus_sdp.specs.declared.names.Names.{Names}

-- whether this name is among them, letters in any case
abbrev pub has_met : Names → List ℕ → Bool
has_met names name = list_any (λ key. bytes_eq key.items (lowered name)) names.lowered.keys
