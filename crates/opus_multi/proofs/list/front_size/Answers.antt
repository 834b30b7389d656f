use Rattle.std.proofs.Common.{length}
use Rattle.opus_multi.specs.WrittenForms.{spelled_as}
use Rattle.opus_multi.proofs.WriteLemmas.{sum_past, none_says, not_below}
use Rattle.opus_multi.proofs.list.front_size.Goals as goal

pub returns-in_err-size-clause-none : goal.returns-in_err-size-clause-none
returns-in_err-size-clause-none g c =
    none_says c.from_residual.result
    (sum_past (λ p. spelled_as c.args.form (g.T.Owns.held p)) c.args.front.now c.loop-part.part-index c.part-item.result
    c.loop-part.size 18446744073709551616 c.loop-part-test.true c.part-item.is c.loop-part.invariant
    (not_below c.loop-part.size c.size.result (length (spelled_as c.args.form (g.T.Owns.held c.part-item.result))) 18446744073709551616
    c.in_err-size.ensures (rw (c.packet.ensures.value, c.packet.ensures.tail) at c.size.ensures)))
