use Rattle.std.proofs.Common.{◌+◌, ◌-◌, ◌∙◌, take, drop, ap, arith}
use Rattle.opus_make.specs.Ramp.{ramp_bytes}
use Rattle.opus_make.proofs.FrameLemmas.{frame_bytes-cut}
use Rattle.opus_make.proofs.written.cut.Goals as goal

pub returns : goal.returns
returns c =
    let j = c.args.number in
    let size = c.args.size in
    ap (λ l. take (j + size - j) (drop j l)) c.requires.ramp
    ∙ ap (λ n. take n (drop j ramp_bytes)) (omega arith)
    ∙ frame_bytes-cut j size c.requires.within
