-- How far a run over made records has come.
use Rattle.std.proofs.Common.{◌≡◌, ℕ, ◌+◌, ◌<◌, ◌≤◌, List, [], ◌∷◌, ◌++◌, Option, drop, refl, sym, ap, ◌∙◌, subst, take-append-drop, arith}
use Rattle.std.specs.Io.KnownBytes.{Appends}
use Rattle.std.proofs.KnownBytes.{Appends-nil, Appends-trans}
use Rattle.std.proofs.lemmas.List.FromFn.{map-range_with_len_more, take-map-range_with_len}
use Rattle.job_loop.specs.Shown.{Shown}
use Rattle.job_loop.specs.Meaning.{Meaning, Step, step_text, run_text, adds, runs, opened}
use Rattle.job_loop.specs.Telling.{Front, Goes, Stops}
use Rattle.job_loop.specs.declared.job.JobStop.{JobStop}
use Rattle.job_loop.specs.declared.job.JobStop.TheVariants.{Refused, Sink}
use Rattle.job_loop.proofs.RunLemmas.{runs-append, runs-on, adds_text, Front-behind, Front-longer}
use Rattle.job_loop.proofs.LawLemmas.{runs_text}
use Rattle.opuspack.specs.declared.made.MadeRecord.{MadeRecord}
use Rattle.opuspack.specs.declared.never.Never.{Never}
use Rattle.opuspack.specs.Made.{made_bytes, made_shown, made_records}
use Rattle.opuspack.specs.RunGenerated.{HasTaken}

made_records-more : (seed number : ℕ) → made_records seed (number + 1) ≡ made_records seed number ++ made_shown seed number ∷ []
made_records-more seed number = map-range_with_len_more (made_shown seed) 0 number number (omega arith)

-- a record that is lent is the one of its number
pub shown_is : (seed number seed' number' : ℕ) (item : MadeRecord) (r : Shown MadeRecord) (bytes : List ℕ) → r.item ≡ item
    → r.bytes ≡ bytes → bytes ≡ made_bytes seed' number' → item.seed ≡ seed → seed' ≡ seed → item.number ≡ number'
    → number' ≡ number → r ≡ made_shown seed number
shown_is seed number seed' number' item r bytes item_is bytes_is made s s' n n' =
    let made_is : r.bytes ≡ made_bytes seed number =
    bytes_is ∙ made ∙ ap (λ x. made_bytes x number') s' ∙ ap (made_bytes seed) n' in
    let this : MadeRecord = record { seed = seed; number = number } in
    let same : r.item ≡ this =
    item_is ∙ ap (λ x. record { seed = x; number = item.number }) s ∙ ap (λ x. record { seed = seed; number = x }) (n ∙ n') in
    ap (λ x. record { item = x; bytes = r.bytes }) same ∙ ap (λ x. record { item = this; bytes = x }) made_is

-- more records begin with fewer
made_records-front : (seed number count : ℕ) → number ≤ count
    → (rest : List (Shown MadeRecord)) × (made_records seed count ≡ made_records seed number ++ rest)
made_records-front seed number count within = (
  drop number (made_records seed count),
  sym (take-append-drop number (made_records seed count))
      ∙ ap (λ rs. rs ++ drop number (made_records seed count)) (take-map-range_with_len (made_shown seed) 0 count number within),
)

-- made records aren't refused, so a sink stopped the job
pub stopped_front : {K : Type 0} → (e : JobStop Never) (step : Step K Never) (b c : Option (List ℕ)) → Stops e step b c
    → Front (step_text step) b c
stopped_front (Refused never) step b c stops = elim never [ ]
stopped_front (Sink stop) step b c stops = stops

module _ {K : Type 0} (m : Meaning (Shown MadeRecord) K Never Never) (Job Job' : K → Type 0) (seed : ℕ) where
  pub taken_none : (a : Option (List ℕ)) → m.opening ≡ [] → Job m.start → HasTaken m Job seed 0 a a
  taken_none a none stands = record {
    text = m.opening;
    kept = m.start;
    run = refl;
    job = stands;
    written = subst (λ t. Appends a a t) (sym none) (Appends-nil a);
  }

  pub taken_more : (number : ℕ) (a b c : Option (List ℕ)) (r : Shown MadeRecord) → r ≡ made_shown seed number
      → (p : HasTaken m Job seed number a b) → Goes (m.step p.kept r) Job' b c → HasTaken m Job' seed (number + 1) a c
  taken_more number a b c r is p went = record {
    text = p.text ++ went.text;
    kept = went.kept;
    run = ap (runs m (opened m)) (made_records-more seed number)
        ∙ runs-on m (made_records seed number) (made_shown seed number) p.text p.kept p.run
        ∙ ap (λ s. adds p.text (m.step p.kept s)) (sym is) ∙ ap (adds p.text) went.step_is;
    job = went.stands;
    written = Appends-trans a b c p.text went.text p.written went.written;
  }

  pub taken_front : (number count : ℕ) (a b c : Option (List ℕ)) (r : Shown MadeRecord) (e : JobStop Never) → number < count
      → r ≡ made_shown seed number → (p : HasTaken m Job seed number a b) → Stops e (m.step p.kept r) b c
      → Front (run_text (runs m (opened m) (made_records seed count))) a c
  taken_front number count a b c r e within is p stops =
      let step = m.step p.kept r in
      let front = made_records-front seed (number + 1) count (omega arith) in
      let so_far : runs m (opened m) (made_records seed (number + 1)) ≡ adds p.text step =
      ap (runs m (opened m)) (made_records-more seed number)
      ∙ runs-on m (made_records seed number) (made_shown seed number) p.text p.kept p.run
      ∙ ap (λ s. adds p.text (m.step p.kept s)) (sym is) in
      let rest = runs_text m (adds p.text step) front.0 in
      let all : run_text (runs m (opened m) (made_records seed count)) ≡ (p.text ++ step_text step) ++ rest.0 =
      ap (λ rs. run_text (runs m (opened m) rs)) front.1
      ∙ ap run_text (runs-append m (opened m) (made_records seed (number + 1)) front.0)
      ∙ ap (λ run. run_text (runs m run front.0)) so_far ∙ rest.1 ∙ ap (λ t. t ++ rest.0) (adds_text p.text step) in
      subst (λ t. Front t a c) (sym all)
      (Front-longer (p.text ++ step_text step) rest.0 a c
      (Front-behind p.text (step_text step) a b c p.written (stopped_front e step b c stops)))
