-- The end of a run over made records.
use Rattle.std.proofs.Common.{◌≡◌, ℕ, List, ◌++◌, Option, sym, ap, ◌∙◌, subst}
use Rattle.std.specs.Io.KnownBytes.{Appends, Keeps}
use Rattle.std.proofs.KnownBytes.{Appends-trans}
use Rattle.job_loop.specs.Shown.{Shown}
use Rattle.job_loop.specs.Meaning.{Meaning, step_text, run_text, runs, opened, closes, outcome}
use Rattle.job_loop.specs.Telling.{Front, Goes, Stops}
use Rattle.job_loop.specs.declared.input_end.InputEnd.TheVariants.{Closed}
use Rattle.job_loop.specs.declared.job.JobStop.{JobStop}
use Rattle.job_loop.proofs.RunLemmas.{adds_text, closes_text, Front-behind, Front-longer}
use Rattle.job_loop.proofs.StepLemmas.{Front-all, Front-kept}
use Rattle.opuspack.specs.declared.made.MadeRecord.{MadeRecord}
use Rattle.opuspack.specs.declared.never.Never.{Never}
use Rattle.opuspack.specs.Made.{made_records}
use Rattle.opuspack.specs.RunGenerated.{HasTaken}
use Rattle.opuspack.proofs.MadeReached.{stopped_front}

module _ {K : Type 0} (m : Meaning (Shown MadeRecord) K Never Never) (Job : K → Type 0) (seed count : ℕ) where
  -- what the job makes of the records and of their end
  abbrev all : List ℕ
  all = run_text (outcome m (made_records seed count) Closed)

  pub records_front : (a b : Option (List ℕ)) → Front (run_text (runs m (opened m) (made_records seed count))) a b → Front all a b
  records_front a b front =
      let run = runs m (opened m) (made_records seed count) in
      let rest = closes_text m Closed run in
      subst (λ t. Front t a b) (sym rest.1) (Front-longer (run_text run) rest.0 a b front)

  all_is : (a b : Option (List ℕ)) (p : HasTaken m Job seed count a b) → all ≡ p.text ++ step_text (m.finish p.kept Closed)
  all_is a b p = ap (λ run. run_text (closes m Closed run)) p.run ∙ adds_text p.text (m.finish p.kept Closed)

  pub finish_front : (a b c : Option (List ℕ)) (p : HasTaken m Job seed count a b) (e : JobStop Never)
      → Stops e (m.finish p.kept Closed) b c → Front all a c
  finish_front a b c p e stops =
      let step = m.finish p.kept Closed in
      subst (λ t. Front t a c) (sym (all_is a b p))
      (Front-behind p.text (step_text step) a b c p.written (stopped_front e step b c stops))

  pub finish_written : (a b c : Option (List ℕ)) (p : HasTaken m Job seed count a b)
      → Goes (m.finish p.kept Closed) (λ _. Unit {0}) b c → Appends a c all
  finish_written a b c p went =
      let text : step_text (m.finish p.kept Closed) ≡ went.text = ap step_text went.step_is in
      subst (λ t. Appends a c t) (sym (all_is a b p ∙ ap (λ t. p.text ++ t) text))
      (Appends-trans a b c p.text went.text p.written went.written)

  pub flush_front : (a b c d : Option (List ℕ)) (p : HasTaken m Job seed count a b)
      → Goes (m.finish p.kept Closed) (λ _. Unit {0}) b c → Keeps c d → Front all a d
  flush_front a b c d p went kept = Front-kept all a c d (Front-all all a c (finish_written a b c p went)) kept
