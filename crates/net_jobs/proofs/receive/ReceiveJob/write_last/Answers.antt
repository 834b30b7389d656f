use Rattle.std.proofs.Common.{List, ◌∙◌, sym, subst, ap}
use Rattle.std.specs.Io.KnownBytes.{Appends}
use Rattle.opus_io.proofs.Onward.{Onward-trans}
use Rattle.job_loop.specs.Telling.{Front}
use Rattle.job_loop.proofs.RunLemmas.{Front-longer}
use Rattle.rtp_ends.specs.declared.event.Event.{Event}
use Rattle.net_jobs.specs.Tell.{events_text, counts_text}
use Rattle.net_jobs.proofs.TellLemmas.{front_then, front_if}
use Rattle.net_jobs.proofs.receive.ReceiveJob.write_last.Goals as goal

pub returns-in-Err-clause-front : goal.returns-in-Err-clause-front
returns-in-Err-clause-front g c =
    let s = c.args.self.now in
    Front-longer (events_text s.telling s.events.items) (counts_text s.telling s.counts s.missing)
    (g.O.Sink.contents c.args.out.now) (g.O.Sink.contents c.write_events.new.out)
    (subst (λ (es : List Event). Front (events_text s.telling es) (g.O.Sink.contents c.args.out.now) (g.O.Sink.contents c.write_events.new.out))
    c.deref.ensures.value c.in-Err.ensures.front)

pub returns-in-Lines-clause-front : goal.returns-in-Lines-clause-front
returns-in-Lines-clause-front g c =
    let s = c.args.self.now in
    let text = counts_text s.telling s.counts s.missing in
    let mid = g.O.Sink.contents c.write_events.new.out in
    let new = g.O.Sink.contents c.write_all.new.sink in
    front_then (events_text s.telling s.events.items) text (g.O.Sink.contents c.args.out.now) mid new c.write_all.result
    (subst (λ (es : List Event). Appends (g.O.Sink.contents c.args.out.now) mid (events_text s.telling es))
    c.deref.ensures.value c.in_default.ensures.ok)
    (front_if c.write_all.result c.as_bytes.result.now text mid new
    (c.as_bytes.ensures.value ∙ c.as_str.ensures.value ∙ c.line.ensures
    ∙ sym (ap (λ t. counts_text t s.counts s.missing) c.in-Lines.is))
    c.write_all.ensures.front)

pub returns-in-Lines-clause-onward : goal.returns-in-Lines-clause-onward
returns-in-Lines-clause-onward g c =
    Onward-trans _ _ _ _ _ _ c.in_default.ensures.onward c.write_all.ensures.onward
