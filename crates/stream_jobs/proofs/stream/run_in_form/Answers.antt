use Rattle.std.proofs.Common.{refl, sym, ◌∙◌}
use Rattle.opus_words.specs.declared.form.Form.TheVariants.{Raw, Demo}
use Rattle.stream_records.specs.Holds.{Choices}
use Rattle.stream_jobs.specs.StreamEnds.{place_of}
use Rattle.stream_jobs.proofs.StreamLemmas.{by_form, choices_are, none_settled}
use Rattle.stream_jobs.proofs.stream.run_in_form.Goals as goal

pub returns-in-Raw : goal.returns-in-Raw
returns-in-Raw g c = λ m is.
    let streams = c.stream_count-streams.result in
    let padding = c.padding_in-padding.result in
    let choices : Choices = record { streams = streams; padding = padding } in
    by_form c.args.task.job.now m c.args.task.limit _ _ _ c.run_over.result Raw choices (sym c.in-Raw.is ∙ c.form_of.ensures)
    (choices_are c.args.task.job.now streams padding c.stream_count-streams.ensures.is c.padding_in-padding.ensures)
    (c.run_over.ensures m is choices c.new-records.ensures.choices (none_settled Raw choices tt) place_of refl)

pub returns-in-Demo : goal.returns-in-Demo
returns-in-Demo g c = λ m is.
    let streams = c.stream_count-streams.result in
    let padding = c.padding_in-padding.result in
    let choices : Choices = record { streams = streams; padding = padding } in
    by_form c.args.task.job.now m c.args.task.limit _ _ _ c.run_over-in-Demo.result Demo choices
    (sym c.in-Demo.is ∙ c.form_of.ensures)
    (choices_are c.args.task.job.now streams padding c.stream_count-streams.ensures.is c.padding_in-padding.ensures)
    (c.run_over-in-Demo.ensures m is choices c.new-records-in-Demo.ensures.choices (none_settled Demo choices tt) place_of refl)
