use Rattle.std.proofs.Common.{List, Some, ◌+◌, ◌∙◌, ap, subst}
use Rattle.std.specs.Option.{unwrap_or}
use Rattle.rtp_ends.specs.declared.event.Event.{Event}
use Rattle.rtp_ends.specs.Receives.{HasArrived}
use Rattle.rtp_packet.specs.RtpRead.{rtp_value}
use Rattle.job_ends.specs.Refusal.{told}
use Rattle.net_jobs.specs.Arrive.{stream_of, heard_of}
use Rattle.net_jobs.specs.Tell.{missing_in}
use Rattle.net_jobs.proofs.ReceiveLemmas.{arrived}
use Rattle.net_jobs.proofs.receive.ReceiveJob.arrive.Goals as goal

pub returns-clause-took : goal.returns-clause-took
returns-clause-took c = λ k is.
    let s = c.args.self.now in
    let x = heard_of (rtp_value c.args.packet) in
    arrived s _ k (stream_of (rtp_value c.args.packet)) x c.in_ok-answer.answer is
    (subst (λ (es : List Event). HasArrived c.arrive.new.self k.heard x c.in_ok-answer.answer es c.arrive.new.out.items)
    c.requires.none (c.in_ok-answer.ensures.ok k.heard is.receiver))
    c.add_arrival.ensures.is
    (ap Some (c.unwrap_or.ensures ∙ ap (unwrap_or s.chosen) c.stream_of.ensures))
    (c.add_missing-self.ensures ∙ ap (λ (es : List Event). told (s.missing + missing_in es)) c.deref.ensures.value)
