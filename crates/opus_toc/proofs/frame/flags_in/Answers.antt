use Rattle.std.proofs.Common.{◌≡◌, if◌then◌else◌, arith}
use Rattle.opus_toc.proofs.FlagLemmas.{ChannelBits, one_frame, two_frames, three_frames, flags_in-made}
use Rattle.opus_toc.proofs.frame.flags_in.Goals as goal
use Rattle.opus_toc.proofs.frame.flags_in.Goals.{in-1, in-2, in_default, then-stereo, else-stereo}

pub returns : goal.returns
returns c =
    let n = c.args.silk_frames in
    let first = c.args.first in
    let mid = c.match-silk_frames.mid in
    let bits : ChannelBits n first mid.0 mid.1 =
    elim c.match-silk_frames.branch [
      | in-1 w ↦ rw (w.in-1.is, w.mid-is) (one_frame first c.ranges.first.fits)
      | in-2 w ↦ rw (w.in-2.is, w.mid-is) (two_frames first c.ranges.first.fits)
      | in_default w ↦ let three : n ≡ 3 = omega arith in
          rw (three, w.mid-is) (three_frames first c.ranges.first.fits)
    ] in
    let side : c.if-stereo.side ≡ (if c.args.stereo then mid.1 else 0) =
    elim c.if-stereo.branch [
      | then-stereo w ↦ rw w.if-stereo.true w.side-is
      | else-stereo w ↦ rw w.if-stereo.false w.side-is
    ] in
    flags_in-made n first mid.0 mid.1 c.if-stereo.side c.args.stereo bits side
