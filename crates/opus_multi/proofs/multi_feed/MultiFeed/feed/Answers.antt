use Rattle.std.proofs.Common.{◌++◌, length, subst}
use Rattle.opus_packet.proofs.BytesLemmas.{AreBytes-append, AreBytes-from}
use Rattle.opus_multi.specs.MultiStands.{MultiStandsAt}
use Rattle.opus_multi.proofs.TakenLemmas.{taken_stands, taken_answer, failed_stands, failed_answer}
use Rattle.opus_multi.proofs.multi_feed.MultiFeed.feed.Goals as goal

pub returns-in-Reading-clause-stands : goal.returns-in-Reading-clause-stands
returns-in-Reading-clause-stands c bytes s =
    let m = c.args.self.now in
    let all = AreBytes-append bytes c.args.piece.now s.are_bytes (AreBytes-from c.args.piece.now (λ i. (c.type_inv.piece i).fits)) in
    taken_stands m c.take.new.self (bytes ++ c.args.piece.now) c.take.result all c.in-Reading.is c.take.ensures.tells
    (c.take.ensures.reads bytes (subst (λ p. MultiStandsAt p m bytes) c.in-Reading.is s.at))

pub returns-in-Reading-clause-answer : goal.returns-in-Reading-clause-answer
returns-in-Reading-clause-answer c bytes s =
    let m = c.args.self.now in
    let all = AreBytes-append bytes c.args.piece.now s.are_bytes (AreBytes-from c.args.piece.now (λ i. (c.type_inv.piece i).fits)) in
    taken_answer m c.take.new.self (bytes ++ c.args.piece.now) c.take.result all c.take.ensures.same
    (c.take.ensures.reads bytes (subst (λ p. MultiStandsAt p m bytes) c.in-Reading.is s.at))

pub returns-in-Failed-clause-stands : goal.returns-in-Failed-clause-stands
returns-in-Failed-clause-stands c bytes s =
    let m = c.args.self.now in
    let all = AreBytes-append bytes c.args.piece.now s.are_bytes (AreBytes-from c.args.piece.now (λ i. (c.type_inv.piece i).fits)) in
    failed_stands m c.in-Failed.fault bytes c.args.piece.now c.in-Failed.is all (subst (λ p. MultiStandsAt p m bytes) c.in-Failed.is s.at)

pub returns-in-Failed-clause-answer : goal.returns-in-Failed-clause-answer
returns-in-Failed-clause-answer c bytes s =
    let m = c.args.self.now in
    let all = AreBytes-append bytes c.args.piece.now s.are_bytes (AreBytes-from c.args.piece.now (λ i. (c.type_inv.piece i).fits)) in
    failed_answer m c.in-Failed.fault (length m.parts.items) bytes c.args.piece.now all (subst (λ p. MultiStandsAt p m bytes) c.in-Failed.is s.at)
