-- A text that is written piece by piece.
use Rattle.std.proofs.Common.{◌≡◌, ℕ, List, [], ◌++◌, Option, sym, ap, ◌∙◌, subst, append-nil, append_assoc}
use Rattle.std.specs.Io.KnownBytes.{Appends}
use Rattle.std.proofs.KnownBytes.{Appends-trans}
use Rattle.job_loop.specs.Telling.{Front}
use Rattle.job_loop.proofs.RunLemmas.{Front-behind, Front-longer}

-- of the whole text the rest is left
pub record SoFar (whole rest : List ℕ) (old new : Option (List ℕ)) : Type 0 where
  pub text : List ℕ
  pub appended : Appends old new text
  pub parts : whole ≡ text ++ rest

-- one piece more
pub SoFar-more : (whole left piece rest : List ℕ) (old mid new : Option (List ℕ)) → left ≡ piece ++ rest
    → SoFar whole left old mid → Appends mid new piece → SoFar whole rest old new
SoFar-more whole left piece rest old mid new is w more = record {
  text = w.text ++ piece;
  appended = Appends-trans old mid new w.text piece w.appended more;
  parts = w.parts ∙ ap (λ l. w.text ++ l) is ∙ sym (append_assoc w.text piece rest);
}

-- a stop within a piece
pub SoFar-front : (whole left piece rest : List ℕ) (old mid new : Option (List ℕ)) → left ≡ piece ++ rest
    → SoFar whole left old mid → Front piece mid new → Front whole old new
SoFar-front whole left piece rest old mid new is w front =
    subst (λ l. Front l old new) (sym (w.parts ∙ ap (λ l. w.text ++ l) is))
    (Front-behind w.text (piece ++ rest) old mid new w.appended (Front-longer piece rest mid new front))

-- nothing is left
pub SoFar-all : (whole rest : List ℕ) (old new : Option (List ℕ)) → rest ≡ [] → SoFar whole rest old new
    → Appends old new whole
SoFar-all whole rest old new none w =
    subst (Appends old new) (sym (w.parts ∙ ap (λ l. w.text ++ l) none ∙ append-nil w.text)) w.appended
