use Rattle.std.proofs.Common.{◌≡◌, ◌+◌, ◌≤◌, length, take}
use Rattle.std.specs.List.{suffix_len}
use Rattle.opus_sdp.specs.Text.{is_blank}
use Rattle.opus_sdp.proofs.text.trim_end.Given as goal

abbrev pub invariant-loop-size : goal.invariant-loop-size
invariant-loop-size l = (l.size ≤ length l.text)
    × (l.size + suffix_len is_blank l.text ≡ length l.text + suffix_len is_blank (take l.size l.text))

abbrev pub decreases-loop-size : goal.decreases-loop-size
decreases-loop-size l = l.size
