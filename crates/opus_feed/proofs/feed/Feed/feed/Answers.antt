use Rattle.std.proofs.Common.{◌+◌, ◌++◌, length, subst, sym, ap, ◌∙◌}
use Rattle.opus_packet.specs.PacketPrefix.{AreBytes}
use Rattle.opus_packet.proofs.BytesLemmas.{AreBytes-append, AreBytes-from}
use Rattle.opus_feed.specs.Answers.{Answers, Ends}
use Rattle.opus_feed.proofs.AnswerLemmas.{answers, ends_at, reading_size, reading_answers, takes_some}
use Rattle.opus_feed.proofs.feed.Feed.feed.Goals as goal

pub returns-clause-answer : goal.returns-clause-answer
returns-clause-answer c =
    λ bytes s.
    let f = c.args.self.now in
    let m = c.advance-moved in
    let all : AreBytes (bytes ++ c.args.piece.now) =
    AreBytes-append bytes c.args.piece.now s.are_bytes (AreBytes-from c.args.piece.now (λ i. (c.type_inv.piece i).fits)) in
    subst (Answers f.framing (bytes ++ c.args.piece.now)) (sym c.step.ensures)
    (answers f.framing f.padding m.result.place m.new.head m.new.body m.result.used (bytes ++ c.args.piece.now)
    m.ensures.steady all (m.ensures.stands bytes all s.at))

pub returns-clause-ends : goal.returns-clause-ends
returns-clause-ends c =
    λ bytes s reading.
    let f = c.args.self.now in
    let m = c.advance-moved in
    let all : AreBytes (bytes ++ c.args.piece.now) =
    AreBytes-append bytes c.args.piece.now s.are_bytes (AreBytes-from c.args.piece.now (λ i. (c.type_inv.piece i).fits)) in
    let size = reading_size f.framing f.padding f.place f.head f.body bytes f.steady s.at reading in
    subst (Ends (length bytes) (bytes ++ c.args.piece.now)) (sym c.step.ensures)
    (ends_at f.framing f.padding m.result.place m.new.head m.new.body m.result.used (length bytes) (bytes ++ c.args.piece.now)
    m.ensures.steady all (m.ensures.stands bytes all s.at) (λ whole. m.ensures.moved reading whole ∙ ap (λ n. n + m.result.used) (sym size)))

pub returns-clause-some : goal.returns-clause-some
returns-clause-some c =
    λ bytes s reading.
    let f = c.args.self.now in
    takes_some f.framing bytes c.args.piece.now c.step.result
    (reading_answers f.framing f.padding f.place f.head f.body bytes f.steady s.are_bytes s.at reading)
    (returns-clause-answer c bytes s) (returns-clause-ends c bytes s reading)
