use Rattle.std.proofs.Common.{◌≡◌, take}
use Rattle.clap.specs.Words.{app_of}
use Rattle.opus_words.specs.CommandLine.{with_options}
use Rattle.opus_words.proofs.command.with_options.Given as goal

abbrev pub invariant-loop-opt : goal.invariant-loop-opt
invariant-loop-opt l =
    app_of l.command ≡ with_options (app_of l.initial.command) (take l.opt-index l.options)
