use Rattle.std.proofs.Common.{refl, arith}
use Rattle.opus_packet.proofs.BytesLemmas.{AreBytes-from}
use Rattle.stream_records.proofs.TurnLemmas.{reads_on, turn_refused, reads_next}
use Rattle.stream_records.proofs.stream_pieces.StreamPieces.turn.Goals as goal

pub returns-in-More-clause-reads : goal.returns-in-More-clause-reads
returns-in-More-clause-reads c start bytes size r =
    let e = c.in-More.ensures in
    reads_on c.args.self.now _ start bytes c.args.piece.now refl refl refl refl refl e.padding e.framing e.stands e.tells
    (AreBytes-from c.args.piece.now (λ i. (c.type_inv.piece i).fits)) r

pub returns-in-Refused-clause-reads : goal.returns-in-Refused-clause-reads
returns-in-Refused-clause-reads c start bytes size r =
    turn_refused c.args.self.now _ c.in-Refused.fault start bytes c.args.piece.now refl refl refl
    (AreBytes-from c.args.piece.now (λ i. (c.type_inv.piece i).fits)) c.in-Refused.ensures.answer r

pub returns-in-Done-clause-reads : goal.returns-in-Done-clause-reads
returns-in-Done-clause-reads c start bytes size r =
    let e = c.in-Done.ensures in
    let k = c.keep.ensures in
    reads_next c.args.self.now _ c.keep.new.self c.in-Done.used start c.args.end _ bytes c.args.piece.now refl refl refl refl
    refl e.padding e.framing e.stands e.ends e.tells.1 (omega (arith, c.if-len-from.true, c.len.ensures.value, c.from.ensures))
    k.added k.begun refl size k.framing k.begins k.reading k.same
    (AreBytes-from c.args.piece.now (λ i. (c.type_inv.piece i).fits)) r
