use Rattle.std.proofs.Common.{◌≡◌, ℕ, ◌+◌, ◌-◌, List, [], ◌∷◌, ◌++◌, IsTrue, length, take, sym, ap, ◌∙◌, subst, length-take-le, arith}
use Rattle.opus_sdp.specs.Text.{is_line}
use Rattle.text_jobs.specs.declared.line.Line.{Line}
use Rattle.text_jobs.specs.Lines.{ended, line_at}
use Rattle.text_jobs.specs.LineForm.{LineStands, rest_in, lent_in}
use Rattle.text_jobs.proofs.LineLemmas.{bytes_line, all_line, with_newline, without_newline, stands_line}
use Rattle.text_jobs.proofs.lines.LineFormForm.feed.Goals as goal

pub go_on-requires-clause-line : goal.go_on-requires-clause-line
go_on-requires-clause-line c = all_line c.args.piece.now c.in_default.ensures

pub close-requires : goal.close-requires
close-requires c = record {
  line = bytes_line c.in-Some.size c.args.piece.now (omega (arith, c.in-Some.ensures.0.high)) c.in-Some.ensures.0.before;
}

-- what was taken is the text of a line and its newline
taken : (c : goal.After-decide) → take (c.in-Some.size + 1) c.args.piece.now ≡ ended (take c.in-Some.size c.args.piece.now)
taken c = with_newline c.in-Some.size c.args.piece.now c.in-Some.ensures.0.high c.in-Some.ensures.1

lends : (c : goal.After-decide) → take (length (take (c.in-Some.size + 1) c.args.piece.now) - 1) (take (c.in-Some.size + 1) c.args.piece.now)
    ≡ take c.in-Some.size c.args.piece.now
lends c = ap (λ (l : List ℕ). take (length l - 1) l) (taken c) ∙ without_newline (take c.in-Some.size c.args.piece.now)

pub returns-clause-ready : goal.returns-clause-ready
returns-clause-ready c = λ whole.
    let own = take (c.in-Some.size + 1) c.args.piece.now in
    let mid = c.close.new.self in
    subst (λ m. IsTrue (is_line (lent_in m c.decide.new.self.kept.items own))) (sym c.decide.ensures.mode)
    (subst (λ (k : _). IsTrue (is_line (lent_in mid.mode k.items own))) (sym c.decide.ensures.kept)
    (c.in_ok-close.ensures.line own (lends c)))

pub returns-clause-fed : goal.returns-clause-fed
returns-clause-fed c = λ h rs stands size.
    let s = c.args.self.now in
    let mid = c.close.new.self in
    let new = c.decide.new.self in
    let n = c.in-Some.size in
    let own = take (n + 1) c.args.piece.now in
    let text = take n c.args.piece.now in
    let rest = rest_in s.mode s.kept.items in
    let place = c.args.at + (n + 1) in
    let count : length text ≡ n = length-take-le n c.args.piece.now (omega (arith, c.in-Some.ensures.0.high)) in
    let start : c.decide.new.self.line ≡ record { start = s.start; place = place } =
    c.decide.ensures.line ∙ ap (λ n. record { start = n; place = place }) c.in_ok-close.ensures.start in
    let bytes : lent_in new.mode new.kept.items own ≡ rest ++ text =
    ap (λ m. lent_in m new.kept.items own) c.decide.ensures.mode
    ∙ ap (λ (k : _). lent_in mid.mode k.items own) c.decide.ensures.kept
    ∙ c.in_ok-close.ensures.lent own (lends c) in
    let none : rest_in new.mode new.kept.items ≡ [] =
    ap (λ m. rest_in m new.kept.items) c.decide.ensures.mode
    ∙ ap (λ (k : _). rest_in mid.mode k.items) c.decide.ensures.kept ∙ c.in_ok-close.ensures.rest in
    let shown : line_at s.start place (rest ++ text) ≡ record { item = new.line; bytes = lent_in new.mode new.kept.items own } =
    ap (λ l. record { item = record { start = s.start; place = place }; bytes = l }) (sym bytes)
    ∙ ap (λ i. record { item = i; bytes = lent_in new.mode new.kept.items own }) (sym start) in
    let went = stands_line s.start rest h text rs place stands
    (bytes_line n c.args.piece.now (omega (arith, c.in-Some.ensures.0.high)) c.in-Some.ensures.0.before)
    (omega (arith, size, count)) in (
      subst (λ n. LineStands n (rest_in new.mode new.kept.items) (h ++ own)
          (rs ++ record { item = new.line; bytes = lent_in new.mode new.kept.items own } ∷ [])) (sym c.decide.ensures.start)
          (subst (λ r. LineStands place r (h ++ own)
          (rs ++ record { item = new.line; bytes = lent_in new.mode new.kept.items own } ∷ [])) (sym none)
          (subst (λ l. LineStands place [] (h ++ l)
          (rs ++ record { item = new.line; bytes = lent_in new.mode new.kept.items own } ∷ [])) (sym (taken c))
          (subst (λ r. LineStands place [] (h ++ ended text) (rs ++ r ∷ [])) shown went))),
      ap (λ (i : Line). i.place) start,
    )
