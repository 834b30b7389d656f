-- Texts of fronts of an input.
use Rattle.std.proofs.Common.{◌≡◌, ℕ, List, [], ◌∷◌, ◌++◌, sym, ap, ◌∙◌, subst, append_assoc, append-nil}
use Rattle.job_loop.specs.Meaning.{Meaning, Run, going, broke, run_text, onward, runs, opened}
use Rattle.job_loop.specs.Forms.{Begins}
use Rattle.job_loop.specs.Reading.{IsSettled, IsRefused}
use Rattle.job_loop.proofs.RunLemmas.{runs-append, runs-broke, adds_text}
use Rattle.job_loop.proofs.JudgeLemmas.{both}

-- more records add text at its end
onward_text : {R K C F : Type 0} → (m : Meaning R K C F) (run : Run K F) (r : R)
    → (c : List ℕ) × (run_text (onward m run r) ≡ run_text run ++ c)
onward_text m (going text kept) r = (_, adds_text text (m.step kept r))
onward_text m (broke text f) r = ([], sym (append-nil text))

pub runs_text : {R K C F : Type 0} → (m : Meaning R K C F) (run : Run K F) (rs : List R)
    → (c : List ℕ) × (run_text (runs m run rs) ≡ run_text run ++ c)
runs_text m run [] = ([], sym (append-nil (run_text run)))
runs_text m run (r ∷ rs) =
    let first = onward_text m run r in
    let rest = runs_text m (onward m run r) rs in
    (first.0 ++ rest.0, rest.1 ∙ ap (λ l. l ++ rest.0) first.1 ∙ append_assoc (run_text run) first.0 rest.0)

abbrev is_going : {K F : Type 0} → Run K F → Type 0
is_going (going text kept) = Unit {0}
is_going (broke text f) = ⊥

abbrev refusal_in : {K F : Type 0} → F → Run K F → F
refusal_in other (going text kept) = other
refusal_in other (broke text f) = f

module _ {R K C F : Type 0} (m : Meaning R K C F) (Settles : List ℕ → List R → Type 0)
    (grows : (h more : List ℕ) (rs ss : List R) → Settles h rs → Settles (h ++ more) ss → Begins rs ss) where
  pub longer_text : (h more a b : List ℕ) → IsSettled m Settles h a → IsSettled m Settles (h ++ more) b
      → (c : List ℕ) × (b ≡ a ++ c)
  longer_text h more a b p q =
      let begins = grows h more p.records q.records p.settled q.settled in
      let text = runs_text m (runs m (opened m) p.records) begins.0 in (
        text.0,
        sym (ap run_text q.run) ∙ ap (λ rs. run_text (runs m (opened m) rs)) begins.1
            ∙ ap run_text (runs-append m (opened m) p.records begins.0) ∙ text.1
            ∙ ap (λ run. run_text run ++ text.0) p.run,
      )

  pub one_text : (h a b : List ℕ) → IsSettled m Settles h a → IsSettled m Settles h b → a ≡ b
  one_text h a b p q =
      both (longer_text h [] a b p (subst (λ h. IsSettled m Settles h b) (sym (append-nil h)) q))
      (longer_text h [] b a q (subst (λ h. IsSettled m Settles h a) (sym (append-nil h)) p))

  -- what a longer front makes of its records is broken alike
  pub refused_more : (h more a : List ℕ) (f : F) (ss : List R) → IsRefused m Settles h a f → Settles (h ++ more) ss
      → runs m (opened m) ss ≡ broke a f
  refused_more h more a f ss p settled =
      let begins = grows h more p.records ss p.settled settled in
      ap (runs m (opened m)) begins.1 ∙ runs-append m (opened m) p.records begins.0
      ∙ ap (λ run. runs m run begins.0) p.run ∙ runs-broke m a f begins.0

  pub refused_alike : (h more a b : List ℕ) (f g : F) → IsRefused m Settles h a f
      → IsRefused m Settles (h ++ more) b g → (b ≡ a) × (g ≡ f)
  refused_alike h more a b f g p q =
      let same = sym q.run ∙ refused_more h more a f q.records p q.settled in
      (ap run_text same, ap (refusal_in f) same)

  pub refused_for_good : (h more a b : List ℕ) (f : F) → IsRefused m Settles h a f
      → IsSettled m Settles (h ++ more) b → ⊥
  refused_for_good h more a b f p q =
      subst is_going (sym q.run ∙ refused_more h more a f q.records p q.settled) tt
