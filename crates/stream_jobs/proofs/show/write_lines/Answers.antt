use Rattle.std.proofs.Common.{drop, ◌+◌, ◌∙◌, refl, arith}
use Rattle.opus_io.proofs.Onward.{Onward-trans}
use Rattle.pack_jobs.proofs.PieceLemmas.{on_stop}
use Rattle.stream_jobs.specs.Show.{stream_lines}
use Rattle.stream_jobs.proofs.ShowLemmas.{lines-next, lines-none}
use Rattle.stream_jobs.proofs.SoFar.{SoFar-more, SoFar-front, SoFar-all}
use Rattle.stream_jobs.proofs.show.write_lines.Goals as goal

pub returns-in_default-clause-ok : goal.returns-in_default-clause-ok
returns-in_default-clause-ok g c =
    let at = c.spellings.stream in
    let left = drop at c.args.spellings.now in
    SoFar-all (stream_lines c.args.number 0 c.args.spellings.now c.args.packets)
    (stream_lines c.args.number at left c.spellings.packets) (g.O.Sink.contents c.args.out.now)
    (g.O.Sink.contents c.spellings.out)
    (lines-none c.args.number at left c.spellings.packets (c.in_default.ensures.none refl))
    c.spellings.invariant.written

pub spellings-preserved : goal.spellings-preserved
spellings-preserved g c =
    let now = c.spellings.invariant in
    let e = c.in_ok-write_packet_lines.ensures in
    let at = c.spellings.stream in
    let ss = c.args.spellings.now in
    record {
      written = SoFar-more (stream_lines c.args.number 0 ss c.args.packets)
          (stream_lines c.args.number at (drop at ss) c.spellings.packets) _
          (stream_lines c.args.number (at + 1) (drop (at + 1) ss) c.next.new.self) (g.O.Sink.contents c.args.out.now)
          (g.O.Sink.contents c.spellings.out) (g.O.Sink.contents c.write_packet_lines.new.out)
          (lines-next c.args.number at ss _ c.spellings.packets c.next.new.self c.in-Some.packet.value
          c.spellings-test.true c.in-Some.ensures.next) now.written e.ok;
      faults = e.cause.still ∙ now.faults;
      onward = Onward-trans _ _ _ _ _ _ now.onward e.onward;
      refusals = omega (arith, now.refusals, e.cause.later_refused);
    }

pub returns-in_err-write_packet_lines-clause-front : goal.returns-in_err-write_packet_lines-clause-front
returns-in_err-write_packet_lines-clause-front g c =
    let at = c.spellings.stream in
    let ss = c.args.spellings.now in
    on_stop c.from_residual.result _
    (SoFar-front (stream_lines c.args.number 0 ss c.args.packets)
    (stream_lines c.args.number at (drop at ss) c.spellings.packets) _
    (stream_lines c.args.number (at + 1) (drop (at + 1) ss) c.next.new.self) (g.O.Sink.contents c.args.out.now)
    (g.O.Sink.contents c.spellings.out) (g.O.Sink.contents c.write_packet_lines.new.out)
    (lines-next c.args.number at ss _ c.spellings.packets c.next.new.self c.in-Some.packet.value
    c.spellings-test.true c.in-Some.ensures.next) c.spellings.invariant.written
    c.in_err-write_packet_lines.ensures.front)

pub returns-in_err-write_packet_lines-clause-onward : goal.returns-in_err-write_packet_lines-clause-onward
returns-in_err-write_packet_lines-clause-onward g c =
    Onward-trans _ _ _ _ _ _ c.spellings.invariant.onward c.write_packet_lines.ensures.onward
