use Rattle.std.proofs.Common.{ℕ, ◌≡◌, ◌++◌, map, length}
use Rattle.opus_packet.proofs.held.Held.copy_with.Given as goal

abbrev pub invariant-loop-len : goal.invariant-loop-len
invariant-loop-len l =
    l.lens.items ++ l.len-iterator ≡ map (length {A = ℕ}) l.packet.value.frames
