-- The laws of an input that is one record.
use Rattle.std.proofs.Common.{◌≡◌, ℕ, List, ◌++◌, Option, sym, ap, ◌∙◌}
use Rattle.job_loop.specs.Shown.{Shown}
use Rattle.job_loop.specs.Forms.{Begins}
use Rattle.opuspack.specs.declared.never.Never.{Never}
use Rattle.opuspack.specs.declared.whole.WholeInput.{WholeInput}
use Rattle.opuspack.specs.Whole.{WholeSettles, WholeEnds, WholeStands}

pub whole_settled : (kept h : List ℕ) (rs : List (Shown WholeInput)) → WholeStands kept h rs → WholeSettles h rs
whole_settled kept h rs stands = stands.settles

pub whole_grows : (h more : List ℕ) (rs ss : List (Shown WholeInput)) → WholeSettles h rs → WholeSettles (h ++ more) ss
    → Begins rs ss
whole_grows h more rs ss a b = (ss, ap (λ l. l ++ ss) (sym a.records_are))

pub whole_ends_grow : (h more : List ℕ) (rs ss : List (Shown WholeInput)) (cut : Option Never) → WholeSettles h rs
    → WholeEnds (h ++ more) ss cut → Begins rs ss
whole_ends_grow h more rs ss cut a b = (ss, ap (λ l. l ++ ss) (sym a.records_are))

pub whole_ends_once : (h : List ℕ) (rs ss : List (Shown WholeInput)) (a b : Option Never) → WholeEnds h rs a → WholeEnds h ss b
    → (rs ≡ ss) × (a ≡ b)
whole_ends_once h rs ss a b p q = (p.records_are ∙ sym q.records_are, p.cut_is ∙ sym q.cut_is)
