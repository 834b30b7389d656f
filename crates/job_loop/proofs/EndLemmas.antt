-- What a run says where it ends.
use Rattle.std.proofs.Common.{◌≡◌, ℕ, Bool, true, false, List, [], ◌∷◌, ◌++◌, Option, None, Some, length, inl, inr, refl, sym, ap, ◌∙◌, subst}
use Rattle.std.proofs.lemmas.Bool.{false≢true}
use Rattle.std.specs.Io.KnownBytes.{Appends, Keeps}
use Rattle.std.proofs.KnownBytes.{Appends-trans, Appends-kept}
use Rattle.opus_io.specs.declared.sink.SinkStop.{SinkStop}
use Rattle.opus_io.specs.declared.sink.SinkStop.TheVariants.{Failed, NoMemory}
use Rattle.job_loop.specs.declared.input_end.InputEnd.{InputEnd}
use Rattle.job_loop.specs.declared.input_end.InputEnd.TheVariants.{Closed, Cut, Past}
use Rattle.job_loop.specs.declared.ending.Ending.{Ending}
use Rattle.job_loop.specs.declared.ending.Ending.TheVariants as endings
use Rattle.job_loop.specs.Meaning.{Meaning, Step, going, step_text, run_text, adds, runs, opened, closes, outcome, end_of}
use Rattle.job_loop.specs.Telling.{Front, Halts, Closes, ending_of}
use Rattle.job_loop.specs.Ran.{Taken, TakenAll, TakenPast, Ran}
use Rattle.job_loop.proofs.RunLemmas.{runs-on, adds_text, closes_text, Front-behind, Front-longer}
use Rattle.job_loop.proofs.StepLemmas.{Front-all}

abbrev is_past : {C : Type 0} → InputEnd C → Bool
is_past Closed = false
is_past (Cut c) = false
is_past Past = true

pub end_within : {C : Type 0} → (cut : Option C) → end_of cut ≡ Past → ⊥
end_within None is = false≢true (ap is_past is)
end_within (Some c) is = false≢true (ap is_past is)

-- what the bytes themselves decide refuses nothing
pub record Clear {R K C F : Type 0} (m : Meaning R K C F) (Settles : List ℕ → List R → Type 0) (input : List ℕ) : Type 0 where
  pub decided : List R
  pub before : List ℕ
  pub kept : K
  pub settled : Settles input decided
  pub went : runs m (opened m) decided ≡ going before kept

module _ {R K C F : Type 0} (m : Meaning R K C F) (Settles : List ℕ → List R → Type 0)
    (Ends : List ℕ → List R → Option C → Type 0) (place : R → ℕ) (limit : ℕ)
    (left left' before now new : Option (List ℕ)) (held : List ℕ) where
  -- the text of a step behind that of the records before it
  step_front : (text : List ℕ) (K' : Type 0) (step : Step K' F) → Appends before now text
      → Front (step_text step) now new → Front (run_text (adds text step)) before new
  step_front text K' step written front = subst (λ t. Front t before new) (sym (adds_text text step))
      (Front-behind text (step_text step) before now new written front)

  module _ (records : List R) (text : List ℕ) (kept : K) (run : runs m (opened m) records ≡ going text kept)
      (written : Appends before now text) where
    at_end : (end : InputEnd C) → outcome m records end ≡ adds text (m.finish kept end)
    at_end end = ap (closes m end) run

    -- the end of the input is told to the job
    pub closed_at_end : (input : List ℕ) (cut : Option C) → TakenAll limit left left' input → Ends input records cut
        → Clear m Settles input → (e : Ending F) → Closes e (end_of cut) (m.finish kept (end_of cut)) now new held
        → Ran m Settles Ends place limit left left' before new held e
    closed_at_end input cut taken ends clear endings.Ok how = record {
      input = input;
      records = records;
      cut = cut;
      text = text ++ how.0.text;
      taken = taken;
      ends = ends;
      closed = at_end (end_of cut) ∙ ap (adds text) how.0.step_is;
      written = Appends-trans before now new text how.0.text written how.0.written;
      handed_on = how.0.handed_on;
    }
    closed_at_end input cut taken ends clear (endings.Refused f) how = inr (inl (record {
      input = input;
      decided = clear.decided;
      before = clear.before;
      kept = clear.kept;
      records = records;
      cut = cut;
      text = text ++ how.0.text;
      taken = taken;
      settled = clear.settled;
      went = clear.went;
      ends = ends;
      closed = at_end (end_of cut) ∙ ap (adds text) how.0.step_is;
      written = Appends-trans before now new text how.0.text written how.0.written;
      handed_on = how.1;
    }))
    closed_at_end input cut taken ends clear endings.ReadFault how = absurd how
    closed_at_end input cut taken ends clear endings.WriteFault how = inr (inl (record {
      input = input;
      records = records;
      cut = cut;
      taken = taken;
      ends = ends;
      written = subst (λ run. Front (run_text run) before new) (sym (at_end (end_of cut)))
          (step_front text (Unit {0}) (m.finish kept (end_of cut)) written how);
    }))
    closed_at_end input cut taken ends clear endings.InputLimit how = absurd (end_within cut how.1)
    closed_at_end input cut taken ends clear endings.NoMemory how = inr (inl (record {
      input = input;
      records = records;
      cut = cut;
      taken = taken;
      ends = ends;
      written = subst (λ run. Front (run_text run) before new) (sym (at_end (end_of cut)))
          (step_front text (Unit {0}) (m.finish kept (end_of cut)) written how);
    }))

    -- the job is told that the input goes on past the limit
    pub closed_past : (front behind : List ℕ) → TakenPast limit left left' front behind → Settles front records
        → (e : Ending F) → Closes {C = C} e Past (m.finish kept Past) now new held
        → Ran m Settles Ends place limit left left' before new held e
    closed_past front behind taken settled endings.Ok how = absurd (how.1 refl)
    closed_past front behind taken settled (endings.Refused f) how = inr (inr (record {
      front = front;
      behind = behind;
      records = records;
      before = text;
      kept = kept;
      text = text ++ how.0.text;
      taken = taken;
      settled = settled;
      went = run;
      closed = at_end Past ∙ ap (adds text) how.0.step_is;
      written = Appends-trans before now new text how.0.text written how.0.written;
      handed_on = how.1;
    }))
    closed_past front behind taken settled endings.ReadFault how = absurd how
    closed_past front behind taken settled endings.WriteFault how = inr (inr (record {
      front = front;
      behind = behind;
      records = records;
      taken = taken;
      settled = settled;
      written = subst (λ run. Front (run_text run) before new) (sym (at_end Past))
          (step_front text (Unit {0}) (m.finish kept Past) written how);
    }))
    closed_past front behind taken settled endings.InputLimit how = record {
      front = front;
      behind = behind;
      records = records;
      text = text ++ how.0.text;
      taken = taken;
      settled = settled;
      closed = at_end Past ∙ ap (adds text) how.0.step_is;
      written = Appends-trans before now new text how.0.text written how.0.written;
      handed_on = how.0.handed_on;
    }
    closed_past front behind taken settled endings.NoMemory how = inr (inr (record {
      front = front;
      behind = behind;
      records = records;
      taken = taken;
      settled = settled;
      written = subst (λ run. Front (run_text run) before new) (sym (at_end Past))
          (step_front text (Unit {0}) (m.finish kept Past) written how);
    }))

    -- a record ends the run
    pub halted_at : (front behind : List ℕ) (last : R) → Taken limit left left' front behind
        → place last ≡ length front → Settles front (records ++ last ∷ []) → (e : Ending F)
        → Halts e (m.step kept last) now new held → Ran m Settles Ends place limit left left' before new held e
    halted_at front behind last taken placed settled endings.Ok how = absurd how
    halted_at front behind last taken placed settled (endings.Refused f) how = inl (record {
      front = front;
      behind = behind;
      records = records;
      last = last;
      before = text;
      kept = kept;
      text = text ++ how.0.text;
      taken = taken;
      placed = placed;
      settled = settled;
      went = run;
      run = runs-on m records last text kept run ∙ ap (adds text) how.0.step_is;
      written = Appends-trans before now new text how.0.text written how.0.written;
      handed_on = how.1;
    })
    halted_at front behind last taken placed settled endings.ReadFault how = absurd how
    halted_at front behind last taken placed settled endings.WriteFault how = inl (record {
      front = front;
      behind = behind;
      records = records ++ last ∷ [];
      taken = taken;
      settled = settled;
      written = subst (λ run. Front (run_text run) before new) (sym (runs-on m records last text kept run))
          (step_front text K (m.step kept last) written how);
    })
    halted_at front behind last taken placed settled endings.InputLimit how = absurd how
    halted_at front behind last taken placed settled endings.NoMemory how = inl (record {
      front = front;
      behind = behind;
      records = records ++ last ∷ [];
      taken = taken;
      settled = settled;
      written = subst (λ run. Front (run_text run) before new) (sym (runs-on m records last text kept run))
          (step_front text K (m.step kept last) written how);
    })

    last_text : (last : R) (end : InputEnd C) → Front (step_text (m.step kept last)) now new
        → Front (run_text (outcome m (records ++ last ∷ []) end)) before new
    last_text last end front =
        let all = closes_text m end (runs m (opened m) (records ++ last ∷ [])) in
        subst (λ t. Front t before new) (sym all.1)
        (Front-longer (run_text (runs m (opened m) (records ++ last ∷ []))) all.0 before new
        (subst (λ run. Front (run_text run) before new) (sym (runs-on m records last text kept run))
        (step_front text K (m.step kept last) written front)))

    -- a record that the end of the input decides ends the run
    pub halted_at_end : (input : List ℕ) (cut : Option C) (last : R) → TakenAll limit left left' input
        → Settles input records → Ends input (records ++ last ∷ []) cut → (e : Ending F)
        → Halts e (m.step kept last) now new held
        → Ran m Settles Ends place limit left left' before new held e
    halted_at_end input cut last taken settled ends endings.Ok how = absurd how
    halted_at_end input cut last taken settled ends (endings.Refused f) how = inr (inl (record {
      input = input;
      decided = records;
      before = text;
      kept = kept;
      records = records ++ last ∷ [];
      cut = cut;
      text = text ++ how.0.text;
      taken = taken;
      settled = settled;
      went = run;
      ends = ends;
      closed = ap (closes m (end_of cut))
          (runs-on m records last text kept run ∙ ap (adds text) how.0.step_is);
      written = Appends-trans before now new text how.0.text written how.0.written;
      handed_on = how.1;
    }))
    halted_at_end input cut last taken settled ends endings.ReadFault how = absurd how
    halted_at_end input cut last taken settled ends endings.WriteFault how = inr (inl (record {
      input = input;
      records = records ++ last ∷ [];
      cut = cut;
      taken = taken;
      ends = ends;
      written = last_text last (end_of cut) how;
    }))
    halted_at_end input cut last taken settled ends endings.InputLimit how = absurd how
    halted_at_end input cut last taken settled ends endings.NoMemory how = inr (inl (record {
      input = input;
      records = records ++ last ∷ [];
      cut = cut;
      taken = taken;
      ends = ends;
      written = last_text last (end_of cut) how;
    }))

    -- what was written can't be handed on before a read
    pub stopped_at : (front behind : List ℕ) → Taken limit left left' front behind → Settles front records
        → Keeps now new → (stop : SinkStop) → Ran m Settles Ends place limit left left' before new held (ending_of stop)
    stopped_at front behind taken settled keeps Failed = inl (record {
      front = front;
      behind = behind;
      records = records;
      taken = taken;
      settled = settled;
      written = subst (λ run. Front (run_text run) before new) (sym run)
          (Front-all text before new (Appends-kept before now new text written keeps));
    })
    stopped_at front behind taken settled keeps NoMemory = inl (record {
      front = front;
      behind = behind;
      records = records;
      taken = taken;
      settled = settled;
      written = subst (λ run. Front (run_text run) before new) (sym run)
          (Front-all text before new (Appends-kept before now new text written keeps));
    })
