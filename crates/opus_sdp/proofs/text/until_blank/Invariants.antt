use Rattle.std.proofs.Common.{◌≡◌, ◌+◌, ◌-◌, ◌≤◌, length, drop}
use Rattle.std.specs.List.{position_or_len}
use Rattle.opus_sdp.specs.Text.{is_blank}
use Rattle.opus_sdp.proofs.text.until_blank.Given as goal

abbrev pub invariant-loop-count : goal.invariant-loop-count
invariant-loop-count l = (l.count ≤ length l.text)
    × (position_or_len is_blank l.text ≡ l.count + position_or_len is_blank (drop l.count l.text))

abbrev pub decreases-loop-count : goal.decreases-loop-count
decreases-loop-count l = length l.initial.text - l.count
