use Rattle.std.proofs.Common.{◌+◌, ◌-◌, min, refl, ap, ◌∙◌, subst, arith}
use Rattle.std.specs.Io.KnownBytes.{Appends}
use Rattle.opus_io.proofs.Onward.{Onward-trans}
use Rattle.job_loop.specs.Telling.{Front}
use Rattle.pack_jobs.proofs.PieceLemmas.{HasWritten-more, HasWritten-front, held_alone, held_count, held_record, on_stop}
use Rattle.pack_jobs.proofs.split.Split.write_pieces.Goals as goal

pub returns-in_err-write_packet-clause-front : goal.returns-in_err-write_packet-clause-front
returns-in_err-write_packet-clause-front g c =
    let self = c.args.self.now in
    let v = c.args.packet.now.value in
    let from = c.pieces.from in
    let to = from + c.min.result in
    let held = held_alone c.cat.result c.unwrap.result c.clear.new.self c.cat.new.self v c.clear.ensures c.unwrap.ensures
    c.cat.ensures.ok in
    let count = held_count c.cat.new.self v c.count-all.result held c.count-all.ensures.count in
    let is = held_record self.form c.args.range c.range_to.result from to c.count-all.result c.cat.new.self v
    c.part-piece.result.value held count c.range_to.ensures c.part-piece.ensures.value in
    on_stop c.from_residual.result _
    (HasWritten-front self.form c.args.range self.most v from to (g.O.Sink.contents c.args.out.now)
    (g.O.Sink.contents c.pieces.out) (g.O.Sink.contents c.write_packet.new.out) self.some
    (omega (arith, count, c.pieces-test.true)) (ap (λ n. from + n) c.min.ensures ∙ ap (λ n. from + min self.most (n - from)) count)
    c.pieces.invariant.written
    (subst (λ l. Front l (g.O.Sink.contents c.pieces.out) (g.O.Sink.contents c.write_packet.new.out)) is
    c.in_err-write_packet.ensures.front))

pub returns-in_err-write_packet-clause-onward : goal.returns-in_err-write_packet-clause-onward
returns-in_err-write_packet-clause-onward g c =
    Onward-trans _ _ _ _ _ _ c.pieces.invariant.onward c.write_packet.ensures.onward

pub pieces-preserved : goal.pieces-preserved
pieces-preserved g c =
    let self = c.args.self.now in
    let v = c.args.packet.now.value in
    let from = c.pieces.from in
    let to = from + c.min.result in
    let held = held_alone c.cat.result c.unwrap.result c.clear.new.self c.cat.new.self v c.clear.ensures c.unwrap.ensures
    c.cat.ensures.ok in
    let count = held_count c.cat.new.self v c.count-all.result held c.count-all.ensures.count in
    let is = held_record self.form c.args.range c.range_to.result from to c.count-all.result c.cat.new.self v
    c.part-piece.result.value held count c.range_to.ensures c.part-piece.ensures.value in
    let e = c.in_ok-write_packet.ensures in
    let now = c.pieces.invariant in
    record {
      in_range = omega (arith, c.min.ensures, c.pieces-test.true);
      form = refl;
      most = refl;
      frames = refl;
      written = HasWritten-more self.form c.args.range self.most v from to (g.O.Sink.contents c.args.out.now)
          (g.O.Sink.contents c.pieces.out) (g.O.Sink.contents c.write_packet.new.out) self.some
          (omega (arith, count, c.pieces-test.true))
          (ap (λ n. from + n) c.min.ensures ∙ ap (λ n. from + min self.most (n - from)) count) now.written
          (subst (Appends (g.O.Sink.contents c.pieces.out) (g.O.Sink.contents c.write_packet.new.out)) is e.ok);
      faults = e.cause.still ∙ now.faults;
      onward = Onward-trans _ _ _ _ _ _ now.onward e.onward;
      refusals = omega (arith, now.refusals, e.cause.later_refused);
    }
