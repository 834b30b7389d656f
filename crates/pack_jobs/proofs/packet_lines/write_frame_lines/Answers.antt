use Rattle.std.proofs.Common.{ap, length, ◌∙◌, arith}
use Rattle.opus_io.proofs.Onward.{Onward-trans}
use Rattle.pack_jobs.proofs.PieceLemmas.{on_stop}
use Rattle.pack_jobs.proofs.PacketLineLemmas.{HasLines-more, HasLines-front}
use Rattle.pack_jobs.proofs.packet_lines.write_frame_lines.Goals as goal
use Rattle.pack_jobs.proofs.packet_lines.write_frame_lines.Goals.{in-Some+in_ok-write_frame_line, in_default}

pub returns-in_err-write_frame_line-clause-front : goal.returns-in_err-write_frame_line-clause-front
returns-in_err-write_frame_line-clause-front g c =
    let a = c.args in
    on_stop c.from_residual.result _
    (HasLines-front a.number a.stream a.packet.now.value c.frames.index c.frames.frames c.next.new.self c.in-Some.frame.now
    c.toc-toc.result.config c.toc-toc.result.stereo (g.O.Sink.contents a.out.now) (g.O.Sink.contents c.frames.out)
    (g.O.Sink.contents c.write_frame_line.new.out) c.toc-toc.ensures.config c.toc-toc.ensures.stereo
    c.in-Some.ensures.steps c.frames.invariant.written c.in_err-write_frame_line.ensures.front)

pub returns-in_err-write_frame_line-clause-onward : goal.returns-in_err-write_frame_line-clause-onward
returns-in_err-write_frame_line-clause-onward g c =
    Onward-trans _ _ _ _ _ _ c.frames.invariant.onward c.write_frame_line.ensures.onward

pub frames-preserved : goal.frames-preserved
frames-preserved g c =
    let a = c.args in
    let now = c.frames.invariant in
    let toc = c.toc-toc in
    elim c.match-next.branch [
      | in-Some+in_ok-write_frame_line w ↦
          let e = w.in_ok-write_frame_line.ensures in
          let first = w.in-Some.ensures.steps in
          rw w.out-is (record {
            left = omega (arith, now.left, ap length first);
            written = HasLines-more a.number a.stream a.packet.now.value c.frames.index c.frames.frames c.next.new.self
                w.in-Some.frame.now toc.result.config toc.result.stereo (g.O.Sink.contents a.out.now)
                (g.O.Sink.contents c.frames.out) (g.O.Sink.contents w.write_frame_line.new.out) toc.ensures.config
                toc.ensures.stereo first now.written e.ok;
            faults = e.cause.still ∙ now.faults;
            onward = Onward-trans _ _ _ _ _ _ now.onward e.onward;
            refusals = omega (arith, now.refusals, e.cause.later_refused);
          })
      | in_default w ↦
          absurd (omega (arith, now.left, c.frames-test.true, c.count-index-end.ensures.count, ap length w.in_default.ensures.steps.0))
    ]
