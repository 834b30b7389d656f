use Rattle.std.proofs.Common.{◌≡◌, ℕ, List, sym, ◌∙◌, subst, rules}
use Rattle.job_loop.specs.Gathered.{held_in, inner_sink}
use Rattle.job_loop.specs.Meaning.{run_text, outcome}
use Rattle.job_loop.specs.declared.input_end.InputEnd.TheVariants.{Closed}
use Rattle.opuspack.specs.Made.{made_records}
use Rattle.opuspack.specs.RunGenerated.{stopped_ending}
use Rattle.opuspack.specs.WritesText.{WritesText}
use Rattle.opuspack.proofs.InnerText.{written_inner, causes_ended}
use Rattle.opuspack.proofs.run_generated.run_generated.Goals as goal

pub returns : goal.returns
returns g c =
    let first = c.over-gathered.result in
    let last = c.run_to_end-stopped.new.out in
    let stopped = c.run_to_end-stopped.result in
    let e = c.run_to_end-stopped.ensures in
    let T = λ (seed : ℕ). run_text (outcome (g.J.RecordJob.meaning c.args.job.now) (made_records seed c.args.count) Closed) in
    let text = T c.in-Ok.records.item.seed in
    let content = g.O.Sink.contents in
    let faults = g.O.Sink.faults in
    let refusals = g.O.Sink.refusals in
    let name = sym (c.into_inner.ensures.name ∙ e.onward.same ∙ c.over-gathered.ensures.name) in
    let same : inner_sink last ≡ c.out-1.given.0 = search rules in
    let U = c.out-1.given.0 ≡ c.args.out.now in
    let W = λ (t : List ℕ) (o p : g.row.O.Denot). WritesText t (content o) (content p) (faults o) (faults p) (refusals o) (refusals p) U in
    let inner : W text (inner_sink first) (inner_sink last) (stopped_ending stopped) = record {
      written = written_inner text (content (inner_sink first)) (content (inner_sink last)) (held_in first) (held_in last)
          c.over-gathered.ensures.held e.onward.grew stopped e.ok e.held e.front;
      cause = causes_ended stopped (g.J.RecordJob.lacks c.args.job.now) U _ _ _ _ c.requires.spared e.cause;
    } in
    subst (W (T c.args.seed) c.args.out.now c.out-1.given.0) (sym c.stopped_ending.ensures)
    (subst (λ (seed : ℕ). W (T seed) c.args.out.now c.out-1.given.0 (stopped_ending stopped)) c.in-Ok.ensures.seed
    (subst (λ (o : g.row.O.Denot). W text o c.out-1.given.0 (stopped_ending stopped)) c.over-gathered.ensures.inner
    (subst (λ (o : g.row.O.Denot). W text (inner_sink first) o (stopped_ending stopped)) same inner)))
