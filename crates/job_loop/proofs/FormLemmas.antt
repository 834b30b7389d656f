-- What a form's machine says, where it is known whether a record stands.
use Rattle.std.proofs.Common.{◌≡◌, ℕ, Bool, true, false, List, [], ◌∷◌, ◌++◌, subst}
use Rattle.std.specs.declared.option.Option.{Option}
use Rattle.job_loop.specs.Forms.{HasEnded}

module _ {R C : Type 0} (Ends : List ℕ → List R → Option C → Type 0) (current : R) (cut : Option C)
    (h : List ℕ) (rs : List R) where
  pub ended_whole : (whole : Bool) → whole ≡ true → HasEnded Ends current whole cut h rs
      → Ends h (rs ++ current ∷ []) cut
  ended_whole whole is ended = subst (λ b. HasEnded Ends current b cut h rs) is ended

  pub ended_bare : (whole : Bool) → whole ≡ false → HasEnded Ends current whole cut h rs → Ends h rs cut
  ended_bare whole is ended = subst (λ b. HasEnded Ends current b cut h rs) is ended
