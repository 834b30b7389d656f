use Rattle.std.proofs.Common.{◌∙◌, sym}
use Rattle.opuspack.proofs.RunLemmas.{is_pack_job, is_many_job}
use Rattle.opuspack.proofs.run.packet_job.Goals as goal

pub stream_job-requires : goal.stream_job-requires
stream_job-requires g c =
    is_many_job c.args.task.job.now c.requires.fit c.requires.kind (sym c.is_several.ensures ∙ c.if-is_several.true)

pub pack_job-requires : goal.pack_job-requires
pack_job-requires g c =
    is_pack_job c.args.task.job.now c.requires.fit c.requires.kind (sym c.is_several.ensures ∙ c.if-is_several.false)
