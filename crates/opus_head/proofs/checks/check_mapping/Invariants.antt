use Rattle.std.proofs.Common.{◌≡◌, ◌<◌, ℕ, true, slice_index}
use Rattle.opus_head.specs.HeadValue.{is_map_byte}
use Rattle.opus_head.proofs.checks.check_mapping.Given as goal

abbrev pub invariant-loop-channel : goal.invariant-loop-channel
invariant-loop-channel l =
    (k : ℕ) → k < l.channel → is_map_byte l.decoded (slice_index l.byte-items k) ≡ true
