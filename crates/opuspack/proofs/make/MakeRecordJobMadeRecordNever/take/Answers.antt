use Rattle.std.proofs.Common.{length, ap, ◌∙◌, arith}
use Rattle.opuspack.proofs.MadeSizes.{made_bytes-fits}
use Rattle.opuspack.proofs.make.MakeRecordJobMadeRecordNever.take.Goals as goal

pub overflow_cast-payload : goal.overflow_cast-payload
overflow_cast-payload g c =
    let r = c.args.item.now.item in
    omega (arith, ap length (c.bytes-payload.ensures ∙ c.requires.fits), made_bytes-fits r.seed r.number)
