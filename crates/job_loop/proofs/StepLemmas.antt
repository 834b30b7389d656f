-- What was written for a step of a job.
use Rattle.std.proofs.Common.{ℕ, List, take, length, sym, subst}
use Rattle.std.proofs.Math.Seq.{take-length}
use Rattle.std.specs.declared.option.Option.{Option}
use Rattle.std.specs.Io.KnownBytes.{Appends, Keeps}
use Rattle.std.proofs.KnownBytes.{Appends-kept}
use Rattle.opus_io.specs.declared.sink.SinkStop.{SinkStop}
use Rattle.opus_io.specs.declared.sink.SinkStop.TheVariants.{Failed, NoMemory}
use Rattle.job_loop.specs.declared.input_end.InputEnd.{InputEnd}
use Rattle.job_loop.specs.declared.ending.Ending.{Ending}
use Rattle.job_loop.specs.declared.ending.Ending.TheVariants as endings
use Rattle.job_loop.specs.Meaning.{Step, step_text}
use Rattle.job_loop.specs.Telling.{Front, Goes, Refuses, Halts, Refusing, Closes, ending_of}

pub Front-all : (text : List ℕ) (a b : Option (List ℕ)) → Appends a b text → Front text a b
Front-all text a b all = record {
  count = length text;
  written = subst (λ t. Appends a b t) (sym (take-length text)) all;
}

pub Front-kept : (text : List ℕ) (a b c : Option (List ℕ)) → Front text a b → Keeps b c → Front text a c
Front-kept text a b c front kept = record {
  count = front.count;
  written = Appends-kept a b c (take front.count text) front.written kept;
}

module _ {K F : Type 0} (step : Step K F) (old mid new : Option (List ℕ)) (keeps : Keeps mid new) where
  pub refused_kept : (f : F) → Refuses f step old mid → Refuses f step old new
  refused_kept f r = record {
    text = r.text;
    step_is = r.step_is;
    written = Appends-kept old mid new r.text r.written keeps;
  }

  pub refused_front : (f : F) → Refuses f step old mid → Front (step_text step) old new
  refused_front f r = Front-all (step_text step) old new
      (subst (λ (s : Step K F). Appends old new (step_text s)) (sym r.step_is)
      (Appends-kept old mid new r.text r.written keeps))

  pub goes_front : (Stands : K → Type 0) → Goes step Stands old mid → Front (step_text step) old new
  goes_front Stands p = Front-all (step_text step) old new
      (subst (λ (s : Step K F). Appends old new (step_text s)) (sym p.step_is)
      (Appends-kept old mid new p.text p.written keeps))

  -- what was written before a refusal was handed on, or that failed
  pub refused_halts : (e : Ending F) (f : F) (held : List ℕ) → Refuses f step old mid → Refusing f e held
      → Halts e step old new held
  refused_halts endings.Ok f held r how = how
  refused_halts (endings.Refused g) f held r how =
      (subst (λ h. Refuses h step old new) (sym how.0) (refused_kept f r), how.1)
  refused_halts endings.ReadFault f held r how = how
  refused_halts endings.WriteFault f held r how = refused_front f r
  refused_halts endings.InputLimit f held r how = absurd how
  refused_halts endings.NoMemory f held r how = refused_front f r

-- the same at the end of the input
pub refused_closes : {C F : Type 0} → (step : Step (Unit {0}) F) (old mid new : Option (List ℕ)) → Keeps mid new
    → (e : Ending F) (end : InputEnd C) (f : F) (held : List ℕ) → Refuses f step old mid → Refusing f e held
    → Closes e end step old new held
refused_closes step old mid new keeps endings.Ok end f held r how = absurd how
refused_closes step old mid new keeps (endings.Refused g) end f held r how =
    (subst (λ h. Refuses h step old new) (sym how.0) (refused_kept step old mid new keeps f r), how.1)
refused_closes step old mid new keeps endings.ReadFault end f held r how = how
refused_closes step old mid new keeps endings.WriteFault end f held r how = refused_front step old mid new keeps f r
refused_closes step old mid new keeps endings.InputLimit end f held r how = absurd how
refused_closes step old mid new keeps endings.NoMemory end f held r how = refused_front step old mid new keeps f r

pub stopped_closes : {C F : Type 0} → (stop : SinkStop) (end : InputEnd C) (step : Step (Unit {0}) F)
    (old new : Option (List ℕ)) (held : List ℕ) → Front (step_text step) old new
    → Closes (ending_of stop) end step old new held
stopped_closes Failed end step old new held front = front
stopped_closes NoMemory end step old new held front = front
