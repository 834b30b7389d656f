use Rattle.std.proofs.Common.{subst, ◌∙◌}
use Rattle.std.specs.Io.KnownBytes.{Appends}
use Rattle.opus_io.proofs.Onward.{Onward-trans}
use Rattle.job_loop.specs.Telling.{Front}
use Rattle.pack_jobs.specs.PacketLines.{packet_line, frame_lines}
use Rattle.pack_jobs.proofs.MergeLemmas.{first_front, second_front}
use Rattle.pack_jobs.proofs.packet_lines.write_packet_lines.Goals as goal

pub returns-in_err-write_all-clause-front : goal.returns-in_err-write_all-clause-front
returns-in_err-write_all-clause-front g c =
    let a = c.args in
    let v = a.packet.now.value in
    let written = c.in_err-write_all.ensures.front in
    let front : Front c.as_slice.result.now (g.O.Sink.contents a.out.now) (g.O.Sink.contents c.write_all.new.sink) =
    record { count = written.0; written = written.2 } in
    first_front c.from_residual.result (packet_line a.number a.stream a.shape a.size v)
    (frame_lines a.number a.stream 0 v.config v.stereo v.frames) (g.O.Sink.contents a.out.now)
    (g.O.Sink.contents c.write_all.new.sink)
    (subst (λ l. Front l (g.O.Sink.contents a.out.now) (g.O.Sink.contents c.write_all.new.sink))
    (c.as_slice.ensures ∙ c.push_packet.ensures) front)

pub returns-clause-front : goal.returns-clause-front
returns-clause-front g c =
    let a = c.args in
    let v = a.packet.now.value in
    second_front c.write_frame_lines.result (packet_line a.number a.stream a.shape a.size v)
    (frame_lines a.number a.stream 0 v.config v.stereo v.frames) (g.O.Sink.contents a.out.now)
    (g.O.Sink.contents c.write_all.new.sink) (g.O.Sink.contents c.write_frame_lines.new.out)
    (subst (λ l. Appends (g.O.Sink.contents a.out.now) (g.O.Sink.contents c.write_all.new.sink) l)
    (c.as_slice.ensures ∙ c.push_packet.ensures) c.in_ok-write_all.ensures.ok) c.write_frame_lines.ensures.front

pub returns-clause-onward : goal.returns-clause-onward
returns-clause-onward g c = Onward-trans _ _ _ _ _ _ c.write_all.ensures.onward c.write_frame_lines.ensures.onward
