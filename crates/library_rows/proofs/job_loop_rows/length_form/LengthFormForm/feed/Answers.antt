use Rattle.std.proofs.Common.{◌≡◌, ℕ, List, length-append, ◌+◌, ◌≤◌, length, take, refl, arith, sym, ap, ◌∙◌, subst, length-take-le, rules}
use Rattle.job_loop.specs.Shown.{Shown}
use Rattle.job_loop.specs.Forms.{HasFed}
use Rattle.job_loop.specs.Samples.{LengthStands, lent_record}
use Rattle.job_loop.proofs.SampleLemmas.{fed_whole, went_on}
use Rattle.library_rows.proofs.job_loop_rows.length_form.LengthFormForm.feed.Goals as goal

pub returns-clause-fed : goal.returns-clause-fed
returns-clause-fed c = λ h rs stands size.
    let s = c.args.self.now in
    let x = c.from-need.result in
    let room : s.count ≤ length s.kept = search rules in (
      fed_whole (take s.count s.kept) c.args.piece.now h rs s.need c.args.at (x + 1) x stands size
          (omega (arith, c.if-self.false, length-take-le s.count s.kept room)) (omega arith) c.from-need.ensures
          (omega (arith, c.if-need-piece.false)),
      refl,
    )

pub returns-then-self-clause-fed : goal.returns-then-self-clause-fed
returns-then-self-clause-fed c = λ h rs stands size.
    let s = c.args.self.now in
    let new = c.go_on.new.self in
    let e = c.go_on.ensures in
    let own = take c.go_on.result.count c.args.piece.now in
    let room : s.count ≤ length s.kept = search rules in
    let taken : length own ≡ c.go_on.result.count =
    length-take-le c.go_on.result.count c.args.piece.now (omega (arith, e.count)) in
    let all : length (take new.count new.kept) ≡ new.count =
    omega (
      arith,
      ap (λ (l : List ℕ). length l) e.kept,
      length-append (take s.count s.kept) own,
      e.now,
      taken,
      length-take-le s.count s.kept room,
    ) in
    subst (λ n. HasFed (LengthStands (take new.count new.kept) new.need) (λ (r : Shown ℕ). r.item)
    (lent_record new.end new.need (take new.count new.kept) own) c.go_on.result.whole h rs own (c.args.at + n)) taken
    (went_on (take s.count s.kept) (take new.count new.kept) own h rs new.need c.args.at new.end c.go_on.result.whole
    (subst (λ need. LengthStands (take s.count s.kept) need h rs) (sym e.need) stands) size
    (omega (arith, c.if-self.true, e.need, length-take-le s.count s.kept room)) e.kept
    (λ is. (all ∙ (e.whole is).0, (e.whole is).1 ∙ ap (λ n. c.args.at + n) (sym taken)))
    (λ is. omega (arith, e.part is, all)))
