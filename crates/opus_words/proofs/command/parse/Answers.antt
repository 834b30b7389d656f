use Rattle.opus_words.proofs.CommandLineLemmas.{job_of_line-refused, job_of_line-taken}
use Rattle.std.proofs.Common.{map}
use Rattle.clap.specs.Words.{found_of, kind_of, rows_of}
use Rattle.opus_words.proofs.command.parse.Goals as goal

pub returns-in-Ok-clause-ok : goal.returns-in-Ok-clause-ok
returns-in-Ok-clause-ok c = job_of_line-taken _ (map (λ s. s.now) c.args.line.now)
    (rows_of (found_of c.in-Ok.matches)) c.in_ok-command.ensures c.in-Ok.ensures.kinds
    (λ simple. (c.in-Ok.ensures.matches simple).0)

pub returns-in-Err-clause-usage : goal.returns-in-Err-clause-usage
returns-in-Err-clause-usage c = job_of_line-refused _ (map (λ s. s.now) c.args.line.now)
    (kind_of c.in-Err.error) c.refusal.result c.in_ok-command.ensures c.in-Err.ensures.kinds
    c.refusal.ensures
