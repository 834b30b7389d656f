use Rattle.std.proofs.Common.{length, vec_len, vec_capacity, arith}
use Rattle.std.proofs.lemmas.Result.{on_ok_weaker}
use Rattle.opus_multi.specs.WrittenForms.{spelled_as}
use Rattle.opus_multi.proofs.WriteLemmas.{written, past_forms, not_below, err_says}
use Rattle.opus_multi.proofs.list.write_forms.Goals as goal

pub returns-clause-ok : goal.returns-clause-ok
returns-clause-ok g c =
    on_ok_weaker c.write.result
    (λ ends. written (spelled_as c.args.self_form) (spelled_as c.args.whole_form) (λ p. g.T.Owns.held p) c.in-Some.front.now c.in-Some.last.now c.args.parts.now
    c.args.out.now.items c.write_front.new.out.items c.write.new.out.items c.in-Some.ensures.cases.0
    (rw c.reserve.ensures.items at c.write_front.ensures.items) (rw (c.packet-2.ensures.value, c.packet-2.ensures.tail) at ends))
    c.write.ensures.ok

pub returns-in_default-front_size-clause-full : goal.returns-in_default-front_size-clause-full
returns-in_default-front_size-clause-full g c =
    past_forms (spelled_as c.args.self_form) (spelled_as c.args.whole_form) (λ p. g.T.Owns.held p) c.in-Some.front.now c.in-Some.last.now c.args.parts.now
    (vec_len c.args.out.now) (vec_capacity c.args.out.now) 18446744073709551616 c.in-Some.ensures.cases.0
    (omega (arith, c.args.out.now.small)) (omega (arith, c.in_default-front_size.ensures.none))

pub returns-in_default-checked_add-clause-full : goal.returns-in_default-checked_add-clause-full
returns-in_default-checked_add-clause-full g c =
    let last = not_below c.in-Some-front_size.size c.size.result (length (spelled_as c.args.whole_form (g.T.Owns.held c.in-Some.last.now))) 18446744073709551616
    c.in_default-checked_add.ensures (rw (c.packet.ensures.value, c.packet.ensures.tail) at c.size.ensures) in
    past_forms (spelled_as c.args.self_form) (spelled_as c.args.whole_form) (λ p. g.T.Owns.held p) c.in-Some.front.now c.in-Some.last.now c.args.parts.now
    (vec_len c.args.out.now) (vec_capacity c.args.out.now) 18446744073709551616 c.in-Some.ensures.cases.0
    (omega (arith, c.args.out.now.small)) (omega (arith, last, c.in-Some-front_size.ensures.some))

pub returns-in_err-reserve-clause-full : goal.returns-in_err-reserve-clause-full
returns-in_err-reserve-clause-full g c =
    err_says c.from_residual.result
    (past_forms (spelled_as c.args.self_form) (spelled_as c.args.whole_form) (λ p. g.T.Owns.held p) c.in-Some.front.now c.in-Some.last.now c.args.parts.now
    (vec_len c.args.out.now) (vec_capacity c.args.out.now) c.in-Some-checked_add.size c.in-Some.ensures.cases.0
    c.in_err-reserve.ensures.full
    (omega (arith, c.in-Some-checked_add.ensures.1, c.in-Some-front_size.ensures.some, rw (c.packet.ensures.value, c.packet.ensures.tail) at c.size.ensures)))
