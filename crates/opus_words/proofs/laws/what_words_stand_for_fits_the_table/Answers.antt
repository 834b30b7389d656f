use Rattle.opus_words.proofs.FitLemmas.{job_of_words-fits}
use Rattle.opus_words.proofs.laws.what_words_stand_for_fits_the_table.Goals as goal

pub returns : goal.returns
returns c = job_of_words-fits
