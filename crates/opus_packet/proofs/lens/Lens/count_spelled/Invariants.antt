use Rattle.opus_packet.proofs.SpellingLemmas.{Counted}
use Rattle.opus_packet.proofs.lens.Lens.count_spelled.Given as goal

abbrev pub invariant-loop-len : goal.invariant-loop-len
invariant-loop-len l = Counted l.self l.len-iterator l.size
