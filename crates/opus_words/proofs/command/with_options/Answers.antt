use Rattle.opus_words.proofs.CommandLineLemmas.{with_options-more}
use Rattle.opus_words.proofs.command.with_options.Goals as goal

pub loop-opt-preserved : goal.loop-opt-preserved
loop-opt-preserved c = with_options-more _ _ _ c.args.options.now c.loop-opt.opt-index _
    c.loop-opt-test.true c.loop-opt.invariant c.name.ensures c.in_ok-command.ensures
