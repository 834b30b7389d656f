-- What show makes of records.
use Rattle.std.proofs.Common.{◌≡◌, ◌↔◌, ℕ, ◌+◌, List, [], ◌∷◌, ◌++◌, length, refl, sym, ap, ◌∙◌, subst}
use Rattle.job_loop.specs.Shown.{Shown}
use Rattle.job_loop.specs.Meaning.{going, broke, outcome}
use Rattle.job_loop.specs.declared.input_end.InputEnd.{InputEnd}
use Rattle.job_loop.specs.declared.input_end.InputEnd.TheVariants as ends
use Rattle.pack_records.specs.declared.cut.Cut.{Cut}
use Rattle.pack_records.specs.declared.item.Found.{Found}
use Rattle.pack_records.specs.declared.item.Found.TheVariants.{Packet, Lost, Bad}
use Rattle.pack_records.specs.declared.item.Item.{Item}
use Rattle.pack_jobs.specs.declared.refusal.Why.{Why}
use Rattle.pack_jobs.specs.declared.refusal.Why.TheVariants.{StoreCut}
use Rattle.pack_jobs.specs.Refusal.{Refusal, cut_refusal}
use Rattle.job_ends.specs.Refusal.{told, refusal_of}
use Rattle.pack_jobs.specs.Written.{IsGood, AreGood, FirstBad}
use Rattle.job_ends.specs.Each.{IsUncut, Made, IsWritten, AreWritten, RefusesWith, texts_from}
use Rattle.pack_jobs.specs.Show.{show_found, show, record_lines, shown_from}
use Rattle.job_ends.proofs.EachLemmas.{each_written, each_refused, each_cut, all_written, written_all}

abbrev made : ℕ → Shown Item → Made Why
made number r = show_found (told number) r r.item.found

good_is : (number : ℕ) (r : Shown Item) (found : Found) → IsGood found → IsWritten (show_found number r found)
good_is number r (Packet framing shape size) good = tt
good_is number r Lost good = tt
good_is number r (Bad fault) good = absurd good

written_is : (number : ℕ) (r : Shown Item) (found : Found) → IsWritten (show_found number r found) → IsGood found
written_is number r (Packet framing shape size) written = tt
written_is number r Lost written = tt
written_is number r (Bad fault) written = absurd written

good_are : (number : ℕ) (rs : List (Shown Item)) → AreGood rs → AreWritten made number rs
good_are = all_written made (λ (r : Shown Item). IsGood r.item.found) (λ number r. good_is (told number) r r.item.found)

written_are : (number : ℕ) (rs : List (Shown Item)) → AreWritten made number rs → AreGood rs
written_are = written_all made (λ (r : Shown Item). IsGood r.item.found) (λ number r. written_is (told number) r r.item.found)

texts_are : (number : ℕ) (rs : List (Shown Item)) → texts_from made number rs ≡ shown_from number rs
texts_are number [] = refl
texts_are number (r ∷ rs) = ap (λ l. record_lines (told number) r ++ l) (texts_are (number + 1) rs)

pub show_written : (rs : List (Shown Item)) (end : InputEnd Cut) (text : List ℕ)
    → (outcome show rs end ≡ going text tt) ↔ (AreGood rs × IsUncut end × (text ≡ shown_from 0 rs))
show_written rs end text =
    let each = each_written cut_refusal made rs end text in
    let same = texts_are 0 rs in (
      λ is. (let d = each.0 is in (written_are 0 rs d.0, d.1, d.2 ∙ same)),
      λ d. each.1 (good_are 0 rs d.0, d.1, d.2 ∙ sym same),
    )

pub show_refused : (rs : List (Shown Item)) (end : InputEnd Cut) (f : Refusal) (at : FirstBad rs f)
    → outcome show rs end ≡ broke (shown_from 0 at.before) f
show_refused rs end f at =
    each_refused cut_refusal made rs end f (record {
      before = at.before;
      first = at.first;
      after = at.after;
      parts = at.parts;
      written = good_are 0 at.before at.good;
      refused = subst (λ found. RefusesWith (show_found (told (length at.before)) at.first found) (length at.before) f)
          (sym at.holds) at.refusal_is;
    })
    ∙ ap (λ l. broke l f) (texts_are 0 at.before)

pub show_cut : (rs : List (Shown Item)) (c : Cut) → AreGood rs
    → outcome show rs (ends.Cut c) ≡ broke (shown_from 0 rs) (refusal_of (told (length rs)) c.place StoreCut)
show_cut rs c good =
    each_cut cut_refusal made rs c (good_are 0 rs good)
    ∙ ap (λ l. broke l (refusal_of (told (length rs)) c.place StoreCut)) (texts_are 0 rs)
