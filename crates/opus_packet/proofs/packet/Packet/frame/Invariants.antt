use Rattle.std.proofs.Common.{◌≡◌, drop}
use Rattle.opus_packet.proofs.packet.Packet.frame.Given as goal

abbrev pub invariant-loop : goal.invariant-loop
invariant-loop l = l.frames ≡ drop l.counter l.self.value.frames
