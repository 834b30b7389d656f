use Rattle.std.proofs.Common.{◌≡◌, ◌==◌}
use Rattle.std.specs.List.{list_all}
use Rattle.opus_packet.specs.Canonical.{have_one_length}
use Rattle.opus_packet.proofs.lens.Lens.are_same.Given as goal

abbrev pub invariant-loop-len : goal.invariant-loop-len
invariant-loop-len l =
    (have_one_length l.self ≡ list_all (λ m. m == l.first) l.rest)
