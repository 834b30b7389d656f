use Rattle.std.proofs.Common.{rules, ◌≡◌, ap, ◌∙◌}
use Rattle.std.proofs.lemmas.Result.{IfOk-weaker}
use Rattle.clap.specs.Words.{App, app_of, with_rule}
use Rattle.opus_words.specs.CommandLine.{command_app, job_app, job_rule}
use Rattle.opus_words.specs.Options.{options}
use Rattle.opus_words.proofs.CommandLineLemmas.{with_options-same}
use Rattle.opus_words.proofs.command.command.Goals as goal

pub returns : goal.returns
unfolding command_app
returns c =
    let job_is : app_of c.in_ok-command.command ≡ job_app =
    c.in_ok-command.ensures ∙ ap (λ (a : App). with_rule a job_rule) c.new.ensures.app in
    let all_are : c.as_slice.result.now ≡ options = search rules in
    IfOk-weaker c.with_options.result _ _
    (λ _ h. with_options-same _ _ _ _ _ job_is all_are h) c.with_options.ensures
