use Rattle.std.proofs.Common.{below_more, sym, ap, ◌∙◌, arith}
use Rattle.opus_sdp.specs.Table.{same_name}
use Rattle.opus_sdp.proofs.TableLemmas.{row_of_is, same_name_tested}
use Rattle.opus_sdp.proofs.table.row_of.Goals as goal

pub loop-row-preserved : goal.loop-row-preserved
loop-row-preserved c =
    let test = same_name_tested c.args.name.now c.at.result.name.now c.eq_ignore_ascii_case.result c.eq_ignore_ascii_case.ensures.test in
    let named = ap (λ n. same_name n c.args.name.now) c.at.ensures.name in
    below_more _ _ c.loop-row.invariant (sym named ∙ sym test ∙ c.if-eq_ignore_ascii_case.false)

pub returns-then-eq_ignore_ascii_case-clause-row : goal.returns-then-eq_ignore_ascii_case-clause-row
returns-then-eq_ignore_ascii_case-clause-row c =
    let test = same_name_tested c.args.name.now c.at.result.name.now c.eq_ignore_ascii_case.result c.eq_ignore_ascii_case.ensures.test in
    let named = ap (λ n. same_name n c.args.name.now) c.at.ensures.name in
    sym (row_of_is c.args.name.now c.loop-row.row (omega arith) c.loop-row.invariant
    (λ _. sym named ∙ sym test ∙ c.if-eq_ignore_ascii_case.true))

pub returns-clause-row : goal.returns-clause-row
returns-clause-row c =
    sym (row_of_is c.args.name.now 8 (omega arith) (λ k below. c.loop-row.invariant k (omega arith)) (λ less. absurd (omega arith)))
