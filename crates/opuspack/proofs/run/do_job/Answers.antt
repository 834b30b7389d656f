use Rattle.std.proofs.Common.{map}
use Rattle.std.specs.Prelude.{string_bytes}
use Rattle.opus_words.specs.Words.{job_of_words}
use Rattle.opus_words.proofs.FitLemmas.{job_of_words-fits}
use Rattle.opuspack.proofs.RunLemmas.{meant_no_memory}
use Rattle.opuspack.proofs.run.do_job.Goals as goal

pub returns-in-Err-NoMemory : goal.returns-in-Err-NoMemory
returns-in-Err-NoMemory g c =
    let words = map string_bytes c.args.words.now in
    meant_no_memory (job_of_words words) c.args.limit _ c.args.source.now c.args.out.now (job_of_words-fits words)
