-- Runs over lists of records, and their texts.
use Rattle.std.proofs.Common.{◌≡◌, ℕ, zero, suc, ◌+◌, List, [], ◌∷◌, ◌++◌, Option, take, length, refl, sym, ap, ◌∙◌, subst, append-nil}
use Rattle.std.proofs.Math.Seq.{take-append-add}
use Rattle.std.specs.Io.KnownBytes.{Appends}
use Rattle.std.proofs.KnownBytes.{Appends-trans}
use Rattle.job_loop.specs.declared.input_end.InputEnd.{InputEnd}
use Rattle.job_loop.specs.Meaning.{Meaning, Step, goes, stops, step_text, Run, going, broke, run_text, adds, onward, runs, opened, closes}
use Rattle.job_loop.specs.Telling.{Front}

pub runs-append : {R K C F : Type 0} → (m : Meaning R K C F) (run : Run K F) (rs ss : List R)
    → runs m run (rs ++ ss) ≡ runs m (runs m run rs) ss
runs-append m run [] ss = refl
runs-append m run (r ∷ rs) ss = runs-append m (onward m run r) rs ss

-- a run that broke stays as it is
pub runs-broke : {R K C F : Type 0} → (m : Meaning R K C F) (text : List ℕ) (f : F) (rs : List R)
    → runs m (broke text f) rs ≡ broke text f
runs-broke m text f [] = refl
runs-broke m text f (r ∷ rs) = runs-broke m text f rs

-- one record behind those over which the run goes on
pub runs-on : {R K C F : Type 0} → (m : Meaning R K C F) (rs : List R) (r : R) (text : List ℕ) (kept : K)
    → runs m (opened m) rs ≡ going text kept → runs m (opened m) (rs ++ r ∷ []) ≡ adds text (m.step kept r)
runs-on m rs r text kept run =
    runs-append m (opened m) rs (r ∷ []) ∙ ap (λ run. onward m run r) run

pub adds_text : {K F : Type 0} → (text : List ℕ) (step : Step K F) → run_text (adds text step) ≡ text ++ step_text step
adds_text text (goes more kept) = refl
adds_text text (stops more f) = refl

-- the end adds text behind that of the records
pub closes_text : {R K C F : Type 0} → (m : Meaning R K C F) (end : InputEnd C) (run : Run K F)
    → (more : List ℕ) × (run_text (closes m end run) ≡ run_text run ++ more)
closes_text m end (going text kept) = (step_text (m.finish kept end), adds_text text (m.finish kept end))
closes_text m end (broke text f) = ([], sym (append-nil text))

-- a front of what comes behind a text that was written
pub Front-behind : (text more : List ℕ) (a b c : Option (List ℕ)) → Appends a b text → Front more b c
    → Front (text ++ more) a c
Front-behind text more a b c all front = record {
  count = length text + front.count;
  written = subst (λ t. Appends a c t) (sym (take-append-add text more front.count))
      (Appends-trans a b c text (take front.count more) all front.written);
}

take_longer : (n : ℕ) (text more : List ℕ) → (k : ℕ) × (take n text ≡ take k (text ++ more))
take_longer zero text more = (0, refl)
take_longer (suc n) [] more = (0, refl)
take_longer (suc n) (x ∷ text) more =
    let rest = take_longer n text more in
    (suc rest.0, ap (λ t. x ∷ t) rest.1)

-- a front of a text is one of a longer text
pub Front-longer : (text more : List ℕ) (a b : Option (List ℕ)) → Front text a b → Front (text ++ more) a b
Front-longer text more a b front =
    let longer = take_longer front.count text more in record {
      count = longer.0;
      written = subst (λ t. Appends a b t) longer.1 front.written;
    }

-- the same job, the same record, the same end
pub meant : {R K C F : Type 0} → (m m' : Meaning R K C F) (P : Step K F → Type 0) (k : K) (r r' : R) → m ≡ m'
    → r ≡ r' → P (m.step k r) → P (m'.step k r')
meant m m' P k r r' same is holds =
    subst (λ r. P (m'.step k r)) is (subst (λ m. P (m.step k r)) same holds)

pub meant_end : {R K C F : Type 0} → (m m' : Meaning R K C F) (P : InputEnd C → Step (Unit {0}) F → Type 0) (k : K)
    (end end' : InputEnd C) → m ≡ m' → end ≡ end' → P end (m.finish k end) → P end' (m'.finish k end')
meant_end m m' P k end end' same is holds =
    subst (λ end. P end (m'.finish k end)) is (subst (λ m. P end (m.finish k end)) same holds)
