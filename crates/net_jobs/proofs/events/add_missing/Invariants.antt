use Rattle.std.proofs.Common.{◌≡◌, ◌+◌, ◌<◌, ◌^◌, drop}
use Rattle.job_ends.specs.Refusal.{told}
use Rattle.net_jobs.specs.Tell.{missing_in}
use Rattle.net_jobs.proofs.events.add_missing.Given as goal

abbrev pub invariant-loop-event : goal.invariant-loop-event
invariant-loop-event l = record {
  fits : l.sum < 2 ^ 64;
  left : told (l.sum + missing_in (drop l.event-index l.events)) ≡ told (l.initial.missing + missing_in l.events);
}
