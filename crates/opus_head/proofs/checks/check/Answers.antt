use Rattle.std.proofs.Common.{◌≡◌, Err, sym, ◌∙◌, rules}
use Rattle.std.specs.Option.{option_or}
use Rattle.opus_head.specs.HeadFault.{head_fault, magic_fault, front_fault, table_fault, end_fault}
use Rattle.opus_head.proofs.CheckLemmas.{outcome-found, outcome-later}
use Rattle.opus_head.proofs.checks.check.Goals as goal

pub returns-in_err-check_magic : goal.returns-in_err-check_magic
unfolding head_fault
returns-in_err-check_magic c =
    let b = c.args.bytes.now in
    let e : c.from_residual.result ≡ Err c.in_err-check_magic.field-0.0 = search rules in
    e ∙ outcome-found (magic_fault b) (option_or (front_fault b) (option_or (table_fault b) (end_fault b)))
    c.in_err-check_magic.field-0.0 c.in_err-check_magic.ensures

pub returns-in_err-check_front : goal.returns-in_err-check_front
unfolding head_fault
returns-in_err-check_front c =
    let b = c.args.bytes.now in
    let e : c.from_residual-in_err-check_front.result ≡ Err c.in_err-check_front.field-0.0 = search rules in
    e ∙ outcome-found (front_fault b) (option_or (table_fault b) (end_fault b))
    c.in_err-check_front.field-0.0 c.in_err-check_front.ensures
    ∙ sym (outcome-later (magic_fault b) (option_or (front_fault b) (option_or (table_fault b) (end_fault b))) c.in_ok-check_magic.ensures)

pub returns-in_err-check_table : goal.returns-in_err-check_table
unfolding head_fault
returns-in_err-check_table c =
    let b = c.args.bytes.now in
    let e : c.from_residual-in_err-check_table.result ≡ Err c.in_err-check_table.field-0.0 = search rules in
    e ∙ outcome-found (table_fault b) (end_fault b)
    c.in_err-check_table.field-0.0 c.in_err-check_table.ensures
    ∙ sym (outcome-later (front_fault b) (option_or (table_fault b) (end_fault b)) c.in_ok-check_front.ensures)
    ∙ sym (outcome-later (magic_fault b) (option_or (front_fault b) (option_or (table_fault b) (end_fault b))) c.in_ok-check_magic.ensures)

pub returns : goal.returns
unfolding head_fault
returns c =
    let b = c.args.bytes.now in
    c.check_end.ensures
    ∙ sym (outcome-later (table_fault b) (end_fault b) c.in_ok-check_table.ensures)
    ∙ sym (outcome-later (front_fault b) (option_or (table_fault b) (end_fault b)) c.in_ok-check_front.ensures)
    ∙ sym (outcome-later (magic_fault b) (option_or (front_fault b) (option_or (table_fault b) (end_fault b))) c.in_ok-check_magic.ensures)
