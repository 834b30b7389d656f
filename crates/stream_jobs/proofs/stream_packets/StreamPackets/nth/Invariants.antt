use Rattle.std.proofs.Common.{◌≡◌, ◌-◌, slice_get}
use Rattle.stream_jobs.proofs.stream_packets.StreamPackets.nth.Given as goal

-- the stream is as far from here as there is to go
abbrev pub invariant-passed : goal.invariant-passed
invariant-passed l = slice_get l.self (l.stream - l.counter) ≡ slice_get l.initial.self l.stream
