use Rattle.std.proofs.Common.{◌++◌, ◌/◌, ap, sym, ◌∙◌, length, decimal, rules, arith}
use Rattle.std.proofs.lemmas.Fmt.{decimal_digit, decimal_nonempty}
use Rattle.pack_jobs.proofs.DecimalLemmas.{length-decimal_digit, length-decimal_step, length-decimal_most, decimal-front}
use Rattle.pack_jobs.proofs.line.Line.number.Goals as goal

pub byte-requires : goal.byte-requires
byte-requires g c =
    let now = c.digits.invariant in
    let least = decimal_nonempty (c.digits.left / 10) (omega (arith, now.fits)) in
    let most = length-decimal_most c.args.n c.ranges.n.fits in
    let step = length-decimal_step c.digits.left c.digits-test.true now.fits in
    (search rules, omega (arith, now.size, c.requires))

pub digits-preserved : goal.digits-preserved
digits-preserved g c =
    let now = c.digits.invariant in
    let size = ap length c.byte.ensures in
    let step = length-decimal_step c.digits.left c.digits-test.true now.fits in
    record {
      fits = omega (arith, now.fits);
      text = ap (λ l. decimal (c.digits.left / 10) ++ l) c.byte.ensures
          ∙ decimal-front c.digits.left c.digits.self c.digits-test.true now.fits ∙ now.text;
      size = omega (arith, now.size);
    }

pub byte-requires-2 : goal.byte-requires-2
byte-requires-2 g c =
    let now = c.digits.invariant in
    let one = length-decimal_digit c.digits.left c.digits-test.false in
    let most = length-decimal_most c.args.n c.ranges.n.fits in
    (search rules, omega (arith, now.size, c.requires))

pub returns-clause-text : goal.returns-clause-text
returns-clause-text g c =
    c.byte-2.ensures
    ∙ ap (λ l. l ++ c.digits.self) (sym (decimal_digit c.digits.left c.digits-test.false))
    ∙ c.digits.invariant.text

pub returns-clause-most : goal.returns-clause-most
returns-clause-most g c =
    let one = length-decimal_digit c.digits.left c.digits-test.false in
    let most = length-decimal_most c.args.n c.ranges.n.fits in
    let size = ap length c.byte-2.ensures in
    omega (arith, c.digits.invariant.size)
