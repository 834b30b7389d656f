use Rattle.std.proofs.Common.{◌≡◌, sym, ap, ◌∙◌}
use Rattle.opus_words.specs.declared.kind.JobKind.TheVariants as kinds
use Rattle.job_ends.specs.Choices.{padding_in, stream_count}
use Rattle.stream_jobs.specs.declared.norm.Norm.{Norm}
use Rattle.stream_jobs.specs.Each.{each}
use Rattle.stream_jobs.specs.StreamsJob.{streams_job}
use Rattle.stream_jobs.specs.Norm.{norm_makes, norm}
use Rattle.stream_jobs.specs.Show.{show}
use Rattle.stream_jobs.specs.Apart.{apart}
use Rattle.stream_jobs.specs.Extract.{extract}
use Rattle.stream_jobs.specs.StreamEnds.{form_of, stream_of}
use Rattle.stream_jobs.proofs.StreamLemmas.{of_kind}
use Rattle.stream_jobs.proofs.stream.stream_job.Goals as goal

pub returns-in-Norm : goal.returns-in-Norm
returns-in-Norm g c =
    let job = c.args.task.job.now in
    let n = c.norm_of.result in
    let e = c.norm_of.ensures in
    let makes = norm_makes n.form n.streams n.padding in
    let made : streams_job (λ (n : Norm). norm_makes n.form n.streams n.padding) c.each.result
    ≡ norm (form_of job) (stream_count job) (padding_in job) =
    rw (sym e.form, sym e.padding, sym e.streams)
    (c.each.ensures.job ∙ ap (λ streams. each streams makes) (c.stream_count-streams.ensures.is ∙ sym e.streams)) in
    of_kind kinds.Norm job c.args.task.limit _ _ _ c.run_in_form.result c.in-Norm.is
    (c.run_in_form.ensures (norm (form_of job) (stream_count job) (padding_in job)) made)

pub returns-in-Show : goal.returns-in-Show
returns-in-Show g c =
    let job = c.args.task.job.now in
    of_kind kinds.Show job c.args.task.limit _ _ _ c.run_in_form-in-Show.result c.in-Show.is
    (c.run_in_form-in-Show.ensures (show (stream_count job))
    (c.each-in-Show.ensures.job ∙ ap show c.stream_count-streams.ensures.is))

pub returns-in-Apart : goal.returns-in-Apart
returns-in-Apart g c =
    let job = c.args.task.job.now in
    of_kind kinds.Apart job c.args.task.limit _ _ _ c.run_in_form-in-Apart.result c.in-Apart.is
    (c.run_in_form-in-Apart.ensures (apart (stream_count job))
    (c.each-in-Apart.ensures.job ∙ ap apart c.stream_count-streams.ensures.is))

pub returns-in-Extract : goal.returns-in-Extract
returns-in-Extract g c =
    let job = c.args.task.job.now in
    let stream = c.stream_of-stream.result in
    of_kind kinds.Extract job c.args.task.limit _ _ _ c.run_in_form-in-Extract.result c.in-Extract.is
    (c.run_in_form-in-Extract.ensures (extract (stream_count job) (stream_of job))
    (c.each-extract.ensures.job ∙ ap (λ streams. extract streams stream) c.stream_count-streams.ensures.is
    ∙ ap (extract (stream_count job)) c.stream_of-stream.ensures))
