use Rattle.std.proofs.Common.{ℕ, List}
use Rattle.opus_packet.proofs.SpelledLemmas.{LengthsSoFar}
use Rattle.opus_packet.proofs.spelled.read_lens.Given as goal

abbrev pub invariant-loop : goal.invariant-loop
invariant-loop l =
    (items : List ℕ) × LengthsSoFar l.count l.bytes l.counter items l.sum l.at
