use Rattle.std.proofs.Common.{List, ◌+◌, ◌∙◌, ap, subst, refl}
use Rattle.rtp_ends.specs.declared.event.Event.{Event}
use Rattle.rtp_ends.specs.Report.{arrival_report, certain_events}
use Rattle.rtp_ends.specs.Receives.{GivesOut}
use Rattle.job_ends.specs.Refusal.{told}
use Rattle.net_jobs.specs.Tell.{missing_in}
use Rattle.net_jobs.proofs.ReceiveLemmas.{closed}
use Rattle.net_jobs.proofs.receive.ReceiveJob.close.Goals as goal

pub returns-clause-closed : goal.returns-clause-closed
returns-clause-closed c = λ k is.
    let s = c.args.self.now in
    closed s _ k is
    (subst (λ (es : List Event). GivesOut (certain_events k.heard) (arrival_report k.heard) es c.close.new.out.items)
    c.clear.ensures.items (c.in_ok-close.ensures.ok k.heard is.receiver))
    refl
    (c.add_missing-self.ensures ∙ ap (λ (es : List Event). told (s.missing + missing_in es)) c.deref.ensures.value)
