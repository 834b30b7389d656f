use Rattle.std.proofs.Common.{sym, subst, arith, Err}
use Rattle.std.specs.Str.Parse.{ParsesUnsigned}
use Rattle.text_numbers.proofs.ReadLemmas.{Parsed, none-not_utf8, some-parsed, none-parsed, none-not_parsed}
use Rattle.text_numbers.proofs.number.read_number.Goals as goal

pub returns-in_default-clause-value : goal.returns-in_default-clause-value
returns-in_default-clause-value c = sym (none-not_utf8 c.args.least c.args.most c.args.text.now c.in_default.ensures.cases.0)

pub returns-in-Ok-parse-clause-value : goal.returns-in-Ok-parse-clause-value
returns-in-Ok-parse-clause-value c =
    sym (some-parsed c.args.least c.args.most c.in-Ok-parse.number c.args.text.now (sym c.if-not-is_plain.ensures)
    (subst (λ t. Parsed t c.in-Ok-parse.number) c.in-Ok.ensures.cases.0 c.in-Ok-parse.ensures.value.0)
    (omega (arith, c.if-least-number.true)) (omega (arith, c.if-number-most.true)))

pub returns-in_default-parse-clause-value : goal.returns-in_default-parse-clause-value
returns-in_default-parse-clause-value c =
    sym (none-parsed c.args.least c.args.most c.in-Ok-parse.number c.args.text.now (sym c.if-not-is_plain.ensures)
    (subst (λ t. Parsed t c.in-Ok-parse.number) c.in-Ok.ensures.cases.0 c.in-Ok-parse.ensures.value.0)
    (λ within. omega (arith, c.if-number-most.false, within.1)))

pub returns-in_default-parse-2-clause-value : goal.returns-in_default-parse-2-clause-value
returns-in_default-parse-2-clause-value c =
    sym (none-parsed c.args.least c.args.most c.in-Ok-parse.number c.args.text.now (sym c.if-not-is_plain.ensures)
    (subst (λ t. Parsed t c.in-Ok-parse.number) c.in-Ok.ensures.cases.0 c.in-Ok-parse.ensures.value.0)
    (λ within. omega (arith, c.if-least-number.false, within.0)))

pub returns-in_default-parse-3-clause-value : goal.returns-in_default-parse-3-clause-value
returns-in_default-parse-3-clause-value c =
    sym (none-not_parsed c.in_default-parse.field-0 c.args.least c.args.most c.args.text.now (sym c.if-not-is_plain.ensures)
    (subst (λ t. ParsesUnsigned 32 10 t (Err c.in_default-parse.field-0)) c.in-Ok.ensures.cases.0 c.in_default-parse.ensures.value.0)
    (omega (arith, c.ranges.most.fits)))
