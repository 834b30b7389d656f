use Rattle.std.proofs.Common.{◌++◌, ap, ◌∙◌}
use Rattle.std.proofs.lemmas.Result.{on_ok_weaker, on_err_weaker}
use Rattle.opus_multi.proofs.WriteLemmas.{forms_canonical}
use Rattle.opus_multi.proofs.list.write_canonical.Goals as goal

pub returns-clause-ok : goal.returns-clause-ok
returns-clause-ok g c =
    on_ok_weaker c.write_forms.result
    (λ ends. ends ∙ ap (λ l. c.args.out.now.items ++ l) (forms_canonical (λ p. g.T.Owns.held p) c.args.parts.now))
    c.write_forms.ensures.ok

pub returns-clause-full : goal.returns-clause-full
returns-clause-full g c =
    on_err_weaker c.write_forms.result
    (λ past. rw (forms_canonical (λ p. g.T.Owns.held p) c.args.parts.now) at past)
    c.write_forms.ensures.full
