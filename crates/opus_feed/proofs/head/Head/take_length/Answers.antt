use Rattle.std.proofs.Common.{arith}
use Rattle.opus_feed.proofs.GivenLemmas.{has_more, short_set}
use Rattle.opus_feed.proofs.head.Head.take_length.Goals as goal

pub next_length-requires-clause-lengths : goal.next_length-requires-clause-lengths
next_length-requires-clause-lengths c =
    let h = c.args.self.now in
    has_more h _ h.done c.args.byte c.requires.lengths (omega arith)
    (short_set h.lengths h.spelled c.args.byte (omega arith) (omega arith))
    (omega (arith, c.from.ensures)) (omega arith)
