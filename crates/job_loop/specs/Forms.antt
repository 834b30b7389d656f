-- What a form's machine did with bytes that it was fed, and with the end of the input.
use Rattle.std.specs.Prelude.{◌≡◌, ℕ, List, [], ◌∷◌, ◌++◌, Bool, true, false, Option}

-- Fed `own` behind h, where the records rs stood: it stands for all of it, and where it says so one more record
-- stands, which was decided at the place where it stopped.
abbrev pub HasFed : {R : Type 0} → (List ℕ → List R → Type 0) → (R → ℕ) → R → Bool
    → List ℕ → List R → List ℕ → ℕ → Type 0
HasFed Stands place current true h rs own at = Stands (h ++ own) (rs ++ current ∷ []) × (place current ≡ at)
HasFed Stands place current false h rs own at = Stands (h ++ own) rs

-- The input ends behind h, where the records rs stood: with this cut if there is one, and where it says so with one
-- more record, which the end decides.
abbrev pub HasEnded : {R C : Type 0} → (List ℕ → List R → Option C → Type 0) → R → Bool → Option C
    → List ℕ → List R → Type 0
HasEnded Ends current true cut h rs = Ends h (rs ++ current ∷ []) cut
HasEnded Ends current false cut h rs = Ends h rs cut

-- a list begins with another one
abbrev pub Begins : {R : Type 0} → List R → List R → Type 0
Begins {R} rs ss = (more : List R) × (ss ≡ rs ++ more)
