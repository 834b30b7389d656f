use Rattle.std.proofs.Common.{◌≡◌, ◌+◌, ◌≤◌, length}
use Rattle.opus_io.specs.Sink.{Onward}
use Rattle.pack_jobs.proofs.PacketLineLemmas.{HasLines}
use Rattle.pack_jobs.proofs.packet_lines.write_frame_lines.Given as goal

abbrev pub invariant-frames : goal.invariant-frames
invariant-frames g l = record {
  left : length l.frames + l.index ≡ length l.packet.value.frames;
  written : HasLines l.number l.stream l.packet.value l.index l.frames (g.O.Sink.contents l.initial.out) (g.O.Sink.contents l.out);
  faults : g.O.Sink.faults l.out ≡ g.O.Sink.faults l.initial.out;
  onward : Onward (g.O.Sink.onto l.initial.out) (g.O.Sink.onto l.out) (g.O.Sink.handed l.initial.out) (g.O.Sink.handed l.out);
  refusals : g.O.Sink.refusals l.initial.out ≤ g.O.Sink.refusals l.out;
}
