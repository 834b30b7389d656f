use Rattle.std.proofs.Common.{refl}
use Rattle.opus_feed.specs.declared.padding.Padding.TheVariants.{Drop}
use Rattle.opus_words.specs.declared.form.Form.TheVariants.{Demo}
use Rattle.pack_jobs.specs.PackEnds.{place_of}
use Rattle.pack_jobs.proofs.PackLemmas.{none_settled}
use Rattle.stream_jobs.specs.Join.{join}
use Rattle.stream_jobs.proofs.join.join_job.Goals as goal

pub returns : goal.returns
returns g c =
    c.run_over.ensures (join c.args.streams) c.new.ensures.job Drop c.new-records.ensures.padding (none_settled Demo Drop)
    place_of refl
