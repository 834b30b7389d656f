use Rattle.std.proofs.Common.{◌≡◌, ◌+◌, ap, ◌∙◌, refl, arith}
use Rattle.opus_io.proofs.Onward.{Onward-still, Onward-trans}
use Rattle.job_loop.specs.Telling.{Goes, Stops}
use Rattle.job_loop.proofs.RunLemmas.{meant}
use Rattle.opuspack.specs.Made.{made_shown}
use Rattle.opuspack.proofs.MadeReached.{shown_is, taken_none, taken_more, taken_front}
use Rattle.opuspack.proofs.run_generated.take_records.Goals as goal

pub loop-init : goal.loop-init
loop-init g c = record {
  meaning = refl;
  spared = λ l. l;
  seed = refl;
  number = c.requires.first;
  writes = refl;
  refusals = omega arith;
  onward = Onward-still _ _;
  taken = taken_none (g.J.RecordJob.meaning c.args.job.now) (g.J.RecordJob.stands c.args.job.now) (g.J.RecordJob.stands c.args.job.now)
      c.args.records.now.item.seed (g.O.Sink.contents c.args.out.now) c.requires.fresh.0 c.requires.fresh.1;
}

pub next-requires : goal.next-requires
next-requires g c = omega (arith, c.loop.invariant.number, c.loop-test.true, c.ranges.count.fits)

pub returns-in-Err-clause-front : goal.returns-in-Err-clause-front
returns-in-Err-clause-front g c =
    let i = c.loop.invariant in
    let m = g.J.RecordJob.meaning c.args.job.now in
    let now = g.O.Sink.contents c.loop.out in
    let new = g.O.Sink.contents c.take.new.out in
    let r = c.record.result in
    let is : r ≡ made_shown c.args.records.now.item.seed c.loop.counter =
    shown_is c.args.records.now.item.seed c.loop.counter c.loop.records.item.seed c.loop.records.count c.next.new.self.item r
    c.next.new.self.payload.items c.record.ensures.item c.record.ensures.bytes c.next.ensures.payload
    (c.next.ensures.seed ∙ i.seed) i.seed c.next.ensures.number i.number in
    taken_front m (g.J.RecordJob.stands c.loop.job) (g.J.RecordJob.stands c.loop.job) c.args.records.now.item.seed
    c.loop.counter c.args.count (g.O.Sink.contents c.args.out.now) now new r c.in-Err.stop c.loop-test.true is i.taken
    (meant (g.J.RecordJob.meaning c.loop.job) m (λ s. Stops c.in-Err.stop s now new) i.taken.kept r r i.meaning refl
    (c.in-Err.ensures.stop i.taken.kept i.taken.job))

pub returns-in-Err-clause-onward : goal.returns-in-Err-clause-onward
returns-in-Err-clause-onward g c =
    Onward-trans _ _ _ _ _ _ c.loop.invariant.onward c.in-Err.ensures.onward

pub loop-preserved : goal.loop-preserved
loop-preserved g c =
    let i = c.loop.invariant in
    let e = c.in_default.ensures in
    let m = g.J.RecordJob.meaning c.args.job.now in
    let now = g.O.Sink.contents c.loop.out in
    let new = g.O.Sink.contents c.take.new.out in
    let stands = g.J.RecordJob.stands c.take.new.self in
    let r = c.record.result in
    let is : r ≡ made_shown c.args.records.now.item.seed c.loop.counter =
    shown_is c.args.records.now.item.seed c.loop.counter c.loop.records.item.seed c.loop.records.count c.next.new.self.item r
    c.next.new.self.payload.items c.record.ensures.item c.record.ensures.bytes c.next.ensures.payload
    (c.next.ensures.seed ∙ i.seed) i.seed c.next.ensures.number i.number in
    record {
      meaning = e.same ∙ i.meaning;
      spared = λ l. i.spared (e.spared l);
      seed = c.next.ensures.seed ∙ i.seed;
      number = c.next.ensures.count ∙ ap (λ n. n + 1) i.number;
      writes = e.cause.written ∙ i.writes;
      refusals = omega (arith, i.refusals, e.cause.later);
      onward = Onward-trans _ _ _ _ _ _ i.onward e.onward;
      taken = taken_more m (g.J.RecordJob.stands c.loop.job) stands c.args.records.now.item.seed c.loop.counter
          (g.O.Sink.contents c.args.out.now) now new r is i.taken
          (meant (g.J.RecordJob.meaning c.loop.job) m (λ s. Goes s stands now new) i.taken.kept r r i.meaning refl
          (e.ok i.taken.kept i.taken.job));
    }
