-- What the object of recv and replay stands for behind one record more, and when it is closed.
use Rattle.std.proofs.Common.{◌≡◌, ℕ, ◌+◌, ◌≤◌, ◌^◌, List, [], ◌∷◌, ◌++◌, length, drop, Option, None, Some, unwrap_or, refl, sym, ap, ◌∙◌, arith}
use Rattle.std.proofs.lemmas.List.{drop_at, drop_all}
use Rattle.std.proofs.lemmas.List.Sums.{sum_by-append}
use Rattle.rtp_ends.specs.declared.event.Event.{Event}
use Rattle.rtp_ends.specs.declared.event.Arrival.{Arrival}
use Rattle.rtp_ends.specs.Numbers.{Heard}
use Rattle.rtp_ends.specs.Report.{arrival_report, certain_events}
use Rattle.rtp_ends.specs.Receives.{GivesOut, HasArrived}
use Rattle.job_ends.specs.Refusal.{told}
use Rattle.net_jobs.specs.declared.receive.ReceiveJob.{ReceiveJob}
use Rattle.net_jobs.specs.declared.stream.Stream.{Stream}
use Rattle.net_jobs.specs.Arrive.{arrives}
use Rattle.net_jobs.specs.Tell.{missing_of, missing_in}
use Rattle.net_jobs.specs.Receive.{Reception, after, chosen_by, counted_arrival, behind}
use Rattle.net_jobs.proofs.MissingLemmas.{missing_most}
use Rattle.net_jobs.specs.ReceiveStands.{ReceiveStands, TookRecord, HasClosed}

-- ---- what stands behind

pub behind-given : (was now events : List Event) → GivesOut was now [] events → events ≡ behind was now
behind-given was now events g =
    g.out_is ∙ sym (ap (drop (length was)) g.more ∙ drop_at was g.gained (length was) refl)

behind-none : (events : List Event) → behind events events ≡ []
behind-none events = drop_all (length events) events (omega arith)

pub missing-given : (was now events : List Event) (missing : ℕ) → GivesOut was now [] events → missing ≡ told (missing_in was)
    → told (missing + missing_in events) ≡ told (missing_in now)
missing-given was now events missing g is =
    let all = ap missing_in g.more ∙ sum_by-append missing_of was g.gained in
    let more = ap missing_in g.out_is in
    omega (arith, is, all, more)

-- ---- one record more

-- a record that doesn't arrive
pub passed : (new : ReceiveJob) (k now : Reception) → ReceiveStands new now → now.heard ≡ k.heard → new.events.items ≡ []
    → TookRecord new k now
passed new k now is same none = record {
  stands = is;
  events = none
      ∙ sym (ap (λ (h : List Heard). behind (certain_events k.heard) (certain_events h)) same ∙ behind-none (certain_events k.heard));
}

chosen_first : (chosen : Option Stream) (s : Stream) (x : Heard) → Some (unwrap_or chosen s) ≡ chosen_by chosen (arrives s x)
chosen_first None s x = refl
chosen_first (Some c) s x = refl

-- a packet that arrives
pub arrived : (old new : ReceiveJob) (k : Reception) (s : Stream) (x : Heard) (answer : Arrival) → ReceiveStands old k
    → HasArrived new.receiver k.heard x answer [] new.events.items → new.counts ≡ counted_arrival old.counts answer
    → new.chosen ≡ Some (unwrap_or old.chosen s) → new.missing ≡ told (old.missing + missing_in new.events.items)
    → TookRecord new k (after k (arrives s x))
arrived old new k s x answer is has counts chosen missing = record {
  stands = record {
    counts = counts ∙ ap (λ c. counted_arrival c answer) is.counts ∙ ap (counted_arrival k.counts) has.answer_is;
    chosen = chosen ∙ ap (λ c. Some (unwrap_or c s)) is.chosen ∙ chosen_first k.chosen s x;
    receiver = has.stands;
    missing = missing
        ∙ missing-given (certain_events k.heard) (certain_events (k.heard ++ x ∷ [])) new.events.items old.missing has.gives is.missing;
  };
  events = behind-given (certain_events k.heard) (certain_events (k.heard ++ x ∷ [])) new.events.items has.gives;
}

-- ---- the end

-- an object took 2^40 records at most
few_arrived : (old : ReceiveJob) (k : Reception) → ReceiveStands old k → length k.heard ≤ 2 ^ 40
few_arrived old k is =
    let count = is.receiver.1.count in
    omega (arith, old.sum, old.most, old.few, count)

whole : (heard : List Heard) → length heard ≤ 2 ^ 40 → told (missing_in (arrival_report heard)) ≡ missing_in (arrival_report heard)
whole heard few = let most = missing_most heard in omega (arith, most, few)

-- what is missing is told whole: so many arrivals leave no more numbers between them
pub closed : (old new : ReceiveJob) (k : Reception) → ReceiveStands old k
    → GivesOut (certain_events k.heard) (arrival_report k.heard) [] new.events.items → new.counts ≡ old.counts
    → new.missing ≡ told (old.missing + missing_in new.events.items) → HasClosed new k
closed old new k is gives counts missing = record {
  counts = counts ∙ is.counts;
  events = behind-given (certain_events k.heard) (arrival_report k.heard) new.events.items gives;
  missing = missing
      ∙ missing-given (certain_events k.heard) (arrival_report k.heard) new.events.items old.missing gives is.missing
      ∙ whole k.heard (few_arrived old k is);
}
