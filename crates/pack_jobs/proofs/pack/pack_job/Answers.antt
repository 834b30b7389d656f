use Rattle.std.proofs.Common.{sym, ◌∙◌}
use Rattle.opus_words.specs.declared.form.Form.TheVariants.{Demo, SelfDelimited}
use Rattle.pack_jobs.proofs.PackLemmas.{by_form, none_settled}
use Rattle.pack_jobs.proofs.pack.pack_job.Goals as goal

pub returns-in-Demo : goal.returns-in-Demo
returns-in-Demo g c =
    let padding = c.padding_in-padding.result in
    by_form c.args.task.job.now c.args.task.limit _ _ _ c.run_kind-in-Demo.result Demo padding
    (sym c.in-Demo.is ∙ c.form_in.ensures) c.padding_in-padding.ensures
    (c.run_kind-in-Demo.ensures padding c.new-in-Demo.ensures.padding (none_settled Demo padding))

pub returns-in-SelfDelimited : goal.returns-in-SelfDelimited
returns-in-SelfDelimited g c =
    let padding = c.padding_in-padding.result in
    by_form c.args.task.job.now c.args.task.limit _ _ _ c.run_kind-in-SelfDelimited.result SelfDelimited padding
    (sym c.in-SelfDelimited.is ∙ c.form_in.ensures) c.padding_in-padding.ensures
    (c.run_kind-in-SelfDelimited.ensures padding c.new-in-SelfDelimited.ensures.padding
    (none_settled SelfDelimited padding))
