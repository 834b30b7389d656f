-- What the job check makes of records.
use Rattle.std.proofs.Common.{◌≡◌, ◌≢◌, ℕ, ◌+◌, List, [], ◌∷◌, ◌++◌, length, Option, None, Some, refl, sym, ap, ◌∙◌, append_assoc, append-nil, arith}
use Rattle.job_loop.specs.Shown.{Shown}
use Rattle.job_loop.specs.Meaning.{Run, going, broke, adds, onward, runs, closes, outcome, run_text}
use Rattle.job_loop.specs.declared.input_end.InputEnd.{InputEnd}
use Rattle.job_loop.specs.declared.input_end.InputEnd.TheVariants as ends
use Rattle.opus_packet.specs.declared.fault.Fault.{Fault}
use Rattle.opus_words.specs.declared.form.Form.{Form}
use Rattle.opus_words.specs.declared.form.Form.TheVariants.{Raw, Demo, SelfDelimited}
use Rattle.pack_records.specs.declared.cut.Cut.{Cut}
use Rattle.pack_records.specs.declared.item.Found.{Found}
use Rattle.pack_records.specs.declared.item.Found.TheVariants.{Packet, Lost, Bad}
use Rattle.pack_records.specs.declared.item.Item.{Item}
use Rattle.pack_jobs.specs.declared.refusal.Why.TheVariants.{StoreCut}
use Rattle.pack_jobs.specs.Refusal.{refusal_at, Refusal}
use Rattle.job_ends.specs.Refusal.{told, refusal_of}
use Rattle.pack_jobs.specs.Check.{CheckKept, kept_of, check_line, found_text, first_then, check_found, check_end, check}
use Rattle.pack_jobs.specs.Written.{IsGood, AreGood, FirstBad, lines_from}
use Rattle.job_loop.proofs.RunLemmas.{runs-broke}

abbrev line_at : ℕ → Shown Item → List ℕ
line_at k r = check_line (told k) (found_text r.item.found)

-- the forms in which check goes on behind a bad record
abbrev pub GoesOn : Form → Type 0
GoesOn Raw = Unit {0}
GoesOn Demo = Unit {0}
GoesOn SelfDelimited = ⊥

-- a step

on_step : (form : Form) → GoesOn form → (text : List ℕ) (k : ℕ) (first : Option Refusal) (r : Shown Item)
    → onward (check form) (going text (kept_of k first)) r
    ≡ going (text ++ line_at k r) (kept_of (k + 1) (first_then (kept_of k first) r.item r.item.found))
on_step Raw on text k first r = refl
on_step Demo on text k first r = refl
on_step SelfDelimited on text k first r = absurd on

good_found : (form : Form) (text : List ℕ) (k : ℕ) (first : Option Refusal) (item : Item) (found : Found)
    → IsGood found
    → adds text (check_found form (kept_of k first) item found)
    ≡ going (text ++ check_line (told k) (found_text found)) (kept_of (k + 1) first)
good_found Raw text k first item (Packet framing shape size) good = refl
good_found Raw text k first item Lost good = refl
good_found Raw text k first item (Bad fault) good = absurd good
good_found Demo text k first item (Packet framing shape size) good = refl
good_found Demo text k first item Lost good = refl
good_found Demo text k first item (Bad fault) good = absurd good
good_found SelfDelimited text k first item (Packet framing shape size) good = refl
good_found SelfDelimited text k first item Lost good = refl
good_found SelfDelimited text k first item (Bad fault) good = absurd good

good_step : (form : Form) (text : List ℕ) (k : ℕ) (first : Option Refusal) (r : Shown Item)
    → IsGood r.item.found
    → onward (check form) (going text (kept_of k first)) r ≡ going (text ++ line_at k r) (kept_of (k + 1) first)
good_step form text k first r good = good_found form text k first r.item r.item.found good

stop_found : (text : List ℕ) (k : ℕ) (r : Shown Item) (f : Fault) (found : Found) → found ≡ Bad f
    → adds text (check_found SelfDelimited (kept_of k None) r.item found)
    ≡ broke (text ++ check_line (told k) (found_text found)) (refusal_at (told k) r.item f)
stop_found text k r f (Packet framing shape size) e = absurd (cc)
stop_found text k r f Lost e = absurd (cc)
stop_found text k r f (Bad fault) e =
    ap (λ g. broke (text ++ check_line (told k) (found_text (Bad fault))) (refusal_at (told k) r.item g)) (same_fault e)
  where
    same_fault : {a b : Fault} → Bad a ≡ Bad b → a ≡ b
    same_fault e = cc

-- what is kept behind records

abbrev pub first_after : ℕ → Option Refusal → List (Shown Item) → Option Refusal
first_after k first [] = first
first_after k first (r ∷ rs) = first_after (k + 1) (first_then (kept_of k first) r.item r.item.found) rs

kept_some : (k : ℕ) (f : Refusal) (item : Item) (found : Found) → first_then (kept_of k (Some f)) item found ≡ Some f
kept_some k f item (Packet framing shape size) = refl
kept_some k f item Lost = refl
kept_some k f item (Bad fault) = refl

stays_some : (k : ℕ) (f : Refusal) (rs : List (Shown Item)) → first_after k (Some f) rs ≡ Some f
stays_some k f [] = refl
stays_some k f (r ∷ rs) =
    ap (λ o. first_after (k + 1) o rs) (kept_some k f r.item r.item.found) ∙ stays_some (k + 1) f rs

kept_good : (k : ℕ) (first : Option Refusal) (item : Item) (found : Found) → IsGood found
    → first_then (kept_of k first) item found ≡ first
kept_good k first item (Packet framing shape size) good = refl
kept_good k first item Lost good = refl
kept_good k first item (Bad fault) good = absurd good

first_bad : (k n : ℕ) (before : List (Shown Item)) (r : Shown Item) (after : List (Shown Item)) (f : Fault)
    → AreGood before → r.item.found ≡ Bad f → n ≡ k + length before
    → first_after k None (before ++ r ∷ after) ≡ Some (refusal_at (told n) r.item f)
first_bad k n [] r after f good holds count =
    ap (λ found. first_after (k + 1) (first_then (kept_of k None) r.item found) after) holds
    ∙ stays_some (k + 1) (refusal_at (told k) r.item f) after
    ∙ ap (λ m. Some (refusal_at (told m) r.item f)) (omega (arith, count))
first_bad k n (s ∷ before) r after f good holds count =
    ap (λ o. first_after (k + 1) o (before ++ r ∷ after)) (kept_good k None s.item s.item.found good.0)
    ∙ first_bad (k + 1) n before r after f good.1 holds (omega (arith, count))

-- runs

pub on_runs : (form : Form) → GoesOn form → (text : List ℕ) (k : ℕ) (first : Option Refusal) (rs : List (Shown Item))
    → runs (check form) (going text (kept_of k first)) rs
    ≡ going (text ++ lines_from k rs) (kept_of (k + length rs) (first_after k first rs))
on_runs form on text k first [] =
    ap (λ l. going l (kept_of k first)) (sym (append-nil text))
    ∙ ap (λ n. going (text ++ []) (kept_of n first)) (omega arith)
on_runs form on text k first (r ∷ rs) =
    let next = first_then (kept_of k first) r.item r.item.found in
    ap (λ run. runs (check form) run rs) (on_step form on text k first r)
    ∙ on_runs form on (text ++ line_at k r) (k + 1) next rs
    ∙ ap (λ l. going l (kept_of ((k + 1) + length rs) (first_after (k + 1) next rs)))
    (append_assoc text (line_at k r) (lines_from (k + 1) rs))
    ∙ ap (λ n. going (text ++ (line_at k r ++ lines_from (k + 1) rs)) (kept_of n (first_after (k + 1) next rs))) (omega arith)

good_runs : (form : Form) (text : List ℕ) (k : ℕ) (first : Option Refusal) (rs : List (Shown Item)) → AreGood rs
    → runs (check form) (going text (kept_of k first)) rs
    ≡ going (text ++ lines_from k rs) (kept_of (k + length rs) first)
good_runs form text k first [] good =
    ap (λ l. going l (kept_of k first)) (sym (append-nil text))
    ∙ ap (λ n. going (text ++ []) (kept_of n first)) (omega arith)
good_runs form text k first (r ∷ rs) good =
    ap (λ run. runs (check form) run rs) (good_step form text k first r good.0)
    ∙ good_runs form (text ++ line_at k r) (k + 1) first rs good.1
    ∙ ap (λ l. going l (kept_of ((k + 1) + length rs) first))
    (append_assoc text (line_at k r) (lines_from (k + 1) rs))
    ∙ ap (λ n. going (text ++ (line_at k r ++ lines_from (k + 1) rs)) (kept_of n first)) (omega arith)

stop_runs : (text : List ℕ) (k n : ℕ) (before : List (Shown Item)) (r : Shown Item) (after : List (Shown Item))
    (f : Fault) → AreGood before → r.item.found ≡ Bad f → n ≡ k + length before
    → runs (check SelfDelimited) (going text (kept_of k None)) (before ++ r ∷ after)
    ≡ broke (text ++ lines_from k (before ++ r ∷ [])) (refusal_at (told n) r.item f)
stop_runs text k n [] r after f good holds count =
    ap (λ run. runs (check SelfDelimited) run after) (stop_found text k r f r.item.found holds)
    ∙ runs-broke (check SelfDelimited) (text ++ line_at k r) (refusal_at (told k) r.item f) after
    ∙ ap (λ l. broke (text ++ l) (refusal_at (told k) r.item f)) (sym (append-nil (line_at k r)))
    ∙ ap (λ m. broke (text ++ (line_at k r ++ [])) (refusal_at (told m) r.item f)) (omega (arith, count))
stop_runs text k n (s ∷ before) r after f good holds count =
    ap (λ run. runs (check SelfDelimited) run (before ++ r ∷ after))
    (good_step SelfDelimited text k None s good.0)
    ∙ stop_runs (text ++ line_at k s) (k + 1) n before r after f good.1 holds (omega (arith, count))
    ∙ ap (λ l. broke l (refusal_at (told n) r.item f))
    (append_assoc text (line_at k s) (lines_from (k + 1) (before ++ r ∷ [])))

-- outcomes

closing : (form : Form) (end : InputEnd Cut) (rs : List (Shown Item)) (run : Run CheckKept Refusal)
    → runs (check form) (going [] (kept_of 0 None)) rs ≡ run
    → outcome (check form) rs end ≡ closes (check form) end run
closing form end rs run e = ap (closes (check form) end) e

on_outcome : (form : Form) → GoesOn form → (rs : List (Shown Item)) (end : InputEnd Cut)
    → outcome (check form) rs end
    ≡ adds (lines_from 0 rs) (check_end (kept_of (length rs) (first_after 0 None rs)) end)
on_outcome form on rs end =
    closing form end rs (going (lines_from 0 rs) (kept_of (0 + length rs) (first_after 0 None rs)))
    (on_runs form on [] 0 None rs)
    ∙ ap (λ n. adds (lines_from 0 rs) (check_end (kept_of n (first_after 0 None rs)) end)) (omega arith)

good_outcome : (form : Form) (rs : List (Shown Item)) (end : InputEnd Cut) → AreGood rs
    → outcome (check form) rs end ≡ adds (lines_from 0 rs) (check_end (kept_of (length rs) None) end)
good_outcome form rs end good =
    closing form end rs (going (lines_from 0 rs) (kept_of (0 + length rs) None)) (good_runs form [] 0 None rs good)
    ∙ ap (λ n. adds (lines_from 0 rs) (check_end (kept_of n None) end)) (omega arith)

pub stop_outcome : (rs : List (Shown Item)) (end : InputEnd Cut) (f : Refusal) (at : FirstBad rs f)
    → outcome (check SelfDelimited) rs end ≡ broke (lines_from 0 (at.before ++ at.first ∷ [])) f
stop_outcome rs end f at =
    ap (λ l. outcome (check SelfDelimited) l end) at.parts
    ∙ closing SelfDelimited end (at.before ++ at.first ∷ at.after)
    (broke (lines_from 0 (at.before ++ at.first ∷ [])) (refusal_at (told (length at.before)) at.first.item at.fault))
    (stop_runs [] 0 (length at.before) at.before at.first at.after at.fault at.good at.holds (omega arith))
    ∙ ap (broke (lines_from 0 (at.before ++ at.first ∷ []))) (sym at.refusal_is)

-- lines

text_at : (text : List ℕ) (k : ℕ) (first : Option Refusal) (end : InputEnd Cut)
    → run_text (adds text (check_end (kept_of k first) end)) ≡ text
text_at text k None ends.Closed = append-nil text
text_at text k (Some f) ends.Closed = append-nil text
text_at text k first (ends.Cut c) = append-nil text
text_at text k first ends.Past = append-nil text

goes_on : (form : Form) → form ≢ SelfDelimited → GoesOn form
goes_on Raw other = tt
goes_on Demo other = tt
goes_on SelfDelimited other = other refl

pub all_lines : (form : Form) (rs : List (Shown Item)) (end : InputEnd Cut) → form ≢ SelfDelimited
    → run_text (outcome (check form) rs end) ≡ lines_from 0 rs
all_lines form rs end other =
    ap run_text (on_outcome form (goes_on form other) rs end)
    ∙ text_at (lines_from 0 rs) (length rs) (first_after 0 None rs) end

pub good_lines : (form : Form) (rs : List (Shown Item)) (end : InputEnd Cut) → AreGood rs
    → run_text (outcome (check form) rs end) ≡ lines_from 0 rs
good_lines form rs end good =
    ap run_text (good_outcome form rs end good) ∙ text_at (lines_from 0 rs) (length rs) None end

-- refusals

abbrev IsRefused : List ℕ → ℕ → Option Refusal → InputEnd Cut → Refusal → Type 0
IsRefused text k first end f = (all : List ℕ) × (adds text (check_end (kept_of k first) end) ≡ broke all f)

some_refused : (text : List ℕ) (k : ℕ) (f : Refusal) (end : InputEnd Cut) → end ≢ ends.Past
    → IsRefused text k (Some f) end f
some_refused text k f ends.Closed within = (text ++ [], refl)
some_refused text k f (ends.Cut c) within = (text ++ [], refl)
some_refused text k f ends.Past within = absurd (within refl)

first_is : (rs : List (Shown Item)) (f : Refusal) → FirstBad rs f → first_after 0 None rs ≡ Some f
first_is rs f at =
    ap (first_after 0 None) at.parts
    ∙ first_bad 0 (length at.before) at.before at.first at.after at.fault at.good at.holds (omega arith)
    ∙ ap Some (sym at.refusal_is)

on_bad : (form : Form) → GoesOn form → (rs : List (Shown Item)) (end : InputEnd Cut) (f : Refusal) → FirstBad rs f
    → end ≢ ends.Past → (text : List ℕ) × (outcome (check form) rs end ≡ broke text f)
on_bad form on rs end f at within =
    let refused = some_refused (lines_from 0 rs) (length rs) f end within in (
      refused.0,
      on_outcome form on rs end
          ∙ ap (λ o. adds (lines_from 0 rs) (check_end (kept_of (length rs) o) end)) (first_is rs f at)
          ∙ refused.1,
    )

pub bad_refused : (form : Form) (rs : List (Shown Item)) (end : InputEnd Cut) (f : Refusal) → FirstBad rs f
    → end ≢ ends.Past → (text : List ℕ) × (outcome (check form) rs end ≡ broke text f)
bad_refused Raw rs end f at within = on_bad Raw tt rs end f at within
bad_refused Demo rs end f at within = on_bad Demo tt rs end f at within
bad_refused SelfDelimited rs end f at within =
    (lines_from 0 (at.before ++ at.first ∷ []), stop_outcome rs end f at)

pub cut_refused : (form : Form) (rs : List (Shown Item)) (c : Cut) → AreGood rs
    → outcome (check form) rs (ends.Cut c)
    ≡ broke (lines_from 0 rs) (refusal_of (told (length rs)) c.place StoreCut)
cut_refused form rs c good =
    good_outcome form rs (ends.Cut c) good
    ∙ ap (λ l. broke l (refusal_of (told (length rs)) c.place StoreCut)) (append-nil (lines_from 0 rs))

pub good_closed : (form : Form) (rs : List (Shown Item)) → AreGood rs
    → outcome (check form) rs ends.Closed ≡ going (lines_from 0 rs) tt
good_closed form rs good =
    good_outcome form rs ends.Closed good ∙ ap (λ l. going l tt) (append-nil (lines_from 0 rs))

pub on_past : (form : Form) (rs : List (Shown Item)) → form ≢ SelfDelimited
    → outcome (check form) rs ends.Past ≡ going (lines_from 0 rs) tt
on_past form rs other =
    on_outcome form (goes_on form other) rs ends.Past ∙ ap (λ l. going l tt) (append-nil (lines_from 0 rs))
