use Rattle.std.proofs.Common.{ap, ◌∙◌, arith}
use Rattle.opus_io.proofs.Onward.{Onward-trans}
use Rattle.pack_jobs.proofs.PieceLemmas.{on_stop}
use Rattle.stream_jobs.specs.StreamsIn.{streams_in}
use Rattle.stream_jobs.specs.Apart.{stream_record, stream_records}
use Rattle.stream_jobs.proofs.SoFar.{SoFar-more, SoFar-front}
use Rattle.stream_jobs.proofs.apart.write_streams.Goals as goal

pub packets-preserved : goal.packets-preserved
packets-preserved g c =
    let now = c.packets.invariant in
    let e = c.in_ok-write_packet.ensures in
    record {
      written = SoFar-more (stream_records (streams_in c.args.streams c.args.bytes.now)) (stream_records c.packets.packets)
          (stream_record c.in-Some.packet.value) (stream_records c.next.new.self) (g.O.Sink.contents c.args.out.now)
          (g.O.Sink.contents c.packets.out) (g.O.Sink.contents c.write_packet.new.out)
          (ap stream_records c.in-Some.ensures.next) now.written e.ok;
      faults = e.cause.still ∙ now.faults;
      onward = Onward-trans _ _ _ _ _ _ now.onward e.onward;
      refusals = omega (arith, now.refusals, e.cause.later_refused);
    }

pub returns-in_err-write_packet-clause-front : goal.returns-in_err-write_packet-clause-front
returns-in_err-write_packet-clause-front g c =
    on_stop c.from_residual.result _
    (SoFar-front (stream_records (streams_in c.args.streams c.args.bytes.now)) (stream_records c.packets.packets)
    (stream_record c.in-Some.packet.value) (stream_records c.next.new.self) (g.O.Sink.contents c.args.out.now)
    (g.O.Sink.contents c.packets.out) (g.O.Sink.contents c.write_packet.new.out)
    (ap stream_records c.in-Some.ensures.next) c.packets.invariant.written c.in_err-write_packet.ensures.front)

pub returns-in_err-write_packet-clause-onward : goal.returns-in_err-write_packet-clause-onward
returns-in_err-write_packet-clause-onward g c =
    Onward-trans _ _ _ _ _ _ c.packets.invariant.onward c.write_packet.ensures.onward
