use Rattle.clap.specs.Words.{found_of, rows_of}
use Rattle.opus_words.proofs.FitLemmas.{job_of_rows-fits}
use Rattle.opus_words.proofs.words.job_of.Goals as goal

pub returns-in-Ok-clause-fit : goal.returns-in-Ok-clause-fit
returns-in-Ok-clause-fit c = job_of_rows-fits (rows_of (found_of c.in_ok-matches.matches))
    c.in-Ok.job c.job_of_matches.result c.job_of_matches.ensures c.in-Ok.is
