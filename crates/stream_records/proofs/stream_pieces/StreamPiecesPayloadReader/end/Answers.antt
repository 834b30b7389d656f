use Rattle.std.proofs.Common.{refl}
use Rattle.stream_records.proofs.TakenLemmas.{ended_broken, ended_last}
use Rattle.stream_records.proofs.stream_pieces.StreamPiecesPayloadReader.end.Goals as goal

pub returns-in-Ok-clause-holds : goal.returns-in-Ok-clause-holds
returns-in-Ok-clause-holds c = λ h r at own.
    let e = c.in-Ok.ensures in
    ended_last c.args.self.now _ c.args.start c.args.range c.args.at h _ refl refl refl refl refl e.framing e.padding e.ended
    e.answer at c.end_last.ensures.last r

pub returns-in-Err-clause-holds : goal.returns-in-Err-clause-holds
returns-in-Err-clause-holds c = λ h r at own.
    ended_broken c.args.self.now c.in-Err.fault c.args.start c.args.range c.args.at h _ c.in-Err.ensures.answer at
    c.refuse.ensures.shown r
