use Rattle.std.proofs.Common.{arith, ◌+◌, ◌*◌}
use Rattle.opus_feed.proofs.GivenLemmas.{has_more, long_set}
use Rattle.opus_feed.proofs.head.Head.end_length.Goals as goal

pub next_length-requires-clause-lengths : goal.next_length-requires-clause-lengths
next_length-requires-clause-lengths c =
    let h = c.args.self.now in
    has_more h _ h.done (4 * c.args.byte + h.low) c.requires.giving.lengths (omega arith)
    (long_set h.lengths h.spelled h.low c.args.byte (omega arith) (omega arith) (omega arith))
    (omega arith) (omega arith)
