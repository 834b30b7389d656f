use Rattle.std.proofs.Common.{◌≡◌, ℕ, ◌<◌, List, [], ◌∷◌, ◌++◌, length, refl, sym, ap, ◌∙◌, subst, arith, rules}
use Rattle.std.specs.Io.KnownBytes.{Keeps}
use Rattle.opus_io.specs.Reader.{ReaderState, coming}
use Rattle.std.proofs.KnownBytes.{Keeps-refl}
use Rattle.opus_io.specs.declared.sink.SinkStop.TheVariants.{NoMemory}
use Rattle.opus_io.proofs.Onward.{Onward-trans}
use Rattle.job_loop.specs.declared.ending.Ending.TheVariants as endings
use Rattle.job_loop.specs.Telling.{Goes}
use Rattle.job_loop.specs.Turns.{still}
use Rattle.job_loop.proofs.Reached.{reached_start, reached_part, reached_record, reached_read, within_moved, still_moved, still_read}
use Rattle.job_loop.proofs.RunLemmas.{meant}
use Rattle.job_loop.proofs.TurnLemmas.{turn_unwritten, turn_unread, turn_past, turn_halted, turn_ended, turn_halted_last, turn_ended_last}
use Rattle.job_loop.proofs.run.run_records.Goals as goal

pub records-init : goal.records-init
records-init g c =
    let k = c.args.records.now.reader in
    let q = c.requires in
    let size = ap (λ (l : List ℕ). length l) q.bytes in
    record {
      meaning = refl;
      spared = λ l. l;
      layout = refl;
      limit = refl;
      within = record { near = omega (arith, size); in_limit = omega (arith, q.passed); one_past = omega (arith, size, q.passed) };
      end = search rules;
      reads = refl;
      writes = c.in_default.ensures.cause.still;
      refusals = omega (arith, c.write_all.ensures.cause.later_refused);
      onward = c.write_all.ensures.onward;
      reached = reached_start (g.J.RecordJob.meaning c.args.job.now) (g.F.Form.stands c.args.records.now.form)
          (g.J.RecordJob.stands c.args.job.now) k _ _ _ q.bytes q.passed q.form q.start (search rules);
    }

pub records-preserved-in-Part : goal.records-preserved-in-Part
records-preserved-in-Part g c =
    let i = c.records.invariant in
    let e = c.in-Part.ensures in
    record {
      meaning = i.meaning;
      spared = i.spared;
      layout = e.same ∙ i.layout;
      limit = e.moves.limit ∙ i.limit;
      within = within_moved c.records.records.reader c.next.new.self.reader i.within e.moves;
      end = λ is. i.end (sym e.over ∙ is);
      reads = i.reads;
      writes = i.writes;
      refusals = i.refusals;
      onward = i.onward;
      reached =
          let p = i.reached in
          reached_part (g.J.RecordJob.meaning c.args.job.now) (g.F.Form.stands c.records.records.form)
          (g.F.Form.stands c.next.new.self.form) (g.J.RecordJob.stands c.records.job) (g.J.RecordJob.stands c.records.job)
          (g.S.Source.left c.args.source.now) (g.O.Sink.contents c.args.out.now) (g.O.Sink.contents c.records.out) (g.O.Sink.contents c.records.out)
          c.records.records.reader c.next.new.self.reader (g.S.Source.left c.records.source) p e.moves
          (e.turn p.front p.records p.stands p.size);
    }

pub records-smaller-in-Part : goal.records-smaller-in-Part
records-smaller-in-Part g c =
    let old = c.records.records.reader in
    let new = c.next.new.self.reader in
    let e = c.in-Part.ensures in
    subst (λ b. still new b < still old c.records.records.over) (sym e.over)
    (still_moved c.records.records.over old new c.records.invariant.within e.moves)

pub returns-in-Err-hand-clause-ran : goal.returns-in-Err-hand-clause-ran
returns-in-Err-hand-clause-ran g c =
    let i = c.records.invariant in
    let e = c.in-Record.ensures in
    let l = g.F.Form.layout c.args.records.now.form in
    let new = c.next.new.self.reader in
    let r = g.F.Form.current c.next.new.self.form new.last in
    let p = i.reached in
    let turn = e.turn p.front p.records p.stands p.size in
    turn_halted (g.F.Form.settles l) (g.F.Form.ends l) g.F.Form.place c.args.records.now.reader.limit
    (g.S.Source.left c.records.source) c.records.records.reader new i.within i.limit p
    (g.J.RecordJob.meaning c.records.job) i.meaning (g.O.Sink.contents c.hand.new.out) (g.O.Gather.held c.hand.new.out)
    c.record.result r c.record.ensures.is c.in-Err-hand.ending (c.in-Err-hand.ensures.halt p.kept p.job) e.moves turn.1
    (subst (λ l. g.F.Form.settles l (p.front ++ new.last) (p.records ++ r ∷ [])) (e.same ∙ i.layout)
    (g.met.F.Form.settled c.next.new.self.form (p.front ++ new.last) (p.records ++ r ∷ []) turn.0))

pub records-preserved-in_default-hand : goal.records-preserved-in_default-hand
records-preserved-in_default-hand g c =
    let i = c.records.invariant in
    let e = c.in-Record.ensures in
    let h = c.in_default-hand.ensures in
    let old = c.records.records.reader in
    let new = c.next.new.self.reader in
    let m = g.J.RecordJob.meaning c.args.job.now in
    let J' = g.J.RecordJob.stands c.hand.new.job in
    let now = g.O.Sink.contents c.records.out in
    let after = g.O.Sink.contents c.hand.new.out in
    let r = g.F.Form.current c.next.new.self.form new.last in
    record {
      meaning = h.same ∙ i.meaning;
      spared = λ l. i.spared (h.spared l);
      layout = e.same ∙ i.layout;
      limit = e.moves.limit ∙ i.limit;
      within = within_moved old new i.within e.moves;
      end = λ is. i.end (sym e.over ∙ is);
      reads = i.reads;
      writes = h.cause.written ∙ i.writes;
      refusals = omega (arith, i.refusals, h.cause.later);
      onward = Onward-trans _ _ _ _ _ _ i.onward h.onward;
      reached =
          let p = i.reached in
          let turn = e.turn p.front p.records p.stands p.size in
          reached_record m (g.F.Form.stands c.records.records.form) (g.F.Form.stands c.next.new.self.form)
          (g.J.RecordJob.stands c.records.job) J' (g.S.Source.left c.args.source.now) (g.O.Sink.contents c.args.out.now) now after old new
          (g.S.Source.left c.records.source) p e.moves r turn.0
          (meant (g.J.RecordJob.meaning c.records.job) m (λ s. Goes s J' now after) p.kept c.record.result r
          i.meaning c.record.ensures.is (h.ok p.kept p.job));
    }

pub records-smaller-in_default-hand : goal.records-smaller-in_default-hand
records-smaller-in_default-hand g c =
    let old = c.records.records.reader in
    let new = c.next.new.self.reader in
    let e = c.in-Record.ensures in
    subst (λ b. still new b < still old c.records.records.over) (sym e.over)
    (still_moved c.records.records.over old new c.records.invariant.within e.moves)

pub returns-in-Err-flush-clause-ran : goal.returns-in-Err-flush-clause-ran
returns-in-Err-flush-clause-ran g c =
    let i = c.records.invariant in
    let e = c.in-Needs.ensures in
    let l = g.F.Form.layout c.args.records.now.form in
    let p = i.reached in
    turn_unwritten (g.F.Form.settles l) (g.F.Form.ends l) g.F.Form.place c.args.records.now.reader.limit
    (g.S.Source.left c.records.source) c.records.records.reader c.next.new.self.reader i.within i.limit p
    (g.J.RecordJob.meaning c.records.job) i.meaning (g.O.Sink.contents c.flush.new.self) (g.O.Gather.held c.flush.new.self)
    (subst (λ l. g.F.Form.settles l p.front p.records) (e.same ∙ i.layout)
    (g.met.F.Form.settled c.next.new.self.form p.front p.records (e.turn p.front p.records p.stands p.size)))
    c.in-Err-flush.ensures.keeps c.in-Err-flush.stop c.stopped-in-Err-flush.result c.stopped-in-Err-flush.ensures

pub returns-in-Err-read-clause-ran : goal.returns-in-Err-read-clause-ran
returns-in-Err-read-clause-ran g c =
    let i = c.records.invariant in
    let e = c.in-Needs.ensures in
    let f = c.in_default-flush.ensures in
    let r = c.in-Err-read.ensures in
    let l = g.F.Form.layout c.args.records.now.form in
    let p = i.reached in
    turn_unread (g.F.Form.settles l) (g.F.Form.ends l) g.F.Form.place c.args.records.now.reader.limit
    (g.S.Source.left c.records.source) c.records.records.reader c.next.new.self.reader i.within i.limit p
    (g.J.RecordJob.meaning c.records.job) i.meaning (g.O.Sink.contents c.flush.new.self) (g.O.Gather.held c.flush.new.self)
    e.moves.0 c.read.new.self.reader (g.S.Source.left c.read.new.source) r.stays.coming r.failed
    (subst (λ l. g.F.Form.settles l p.front p.records) (e.same ∙ i.layout)
    (g.met.F.Form.settled c.next.new.self.form p.front p.records (e.turn p.front p.records p.stands p.size))) f.keeps f.empty

pub records-preserved : goal.records-preserved
records-preserved g c =
    let i = c.records.invariant in
    let e = c.in-Needs.ensures in
    let f = c.in_default-flush.ensures in
    let r = c.in_default-read.ensures in
    let old = c.records.records.reader in
    let new = c.read.new.self.reader in
    let left = g.S.Source.left c.args.source.now in
    let source = g.S.Source.left c.records.source in
    let source' = g.S.Source.left c.read.new.source in
    let same = e.moves.0.same in
    record {
      meaning = i.meaning;
      spared = i.spared;
      layout = ap g.F.Form.layout r.form ∙ e.same ∙ i.layout;
      limit = r.stays.limit ∙ ap (λ (k : ReaderState). k.limit) same ∙ i.limit;
      within = record { near = r.stays.in_buffer; in_limit = r.stays.in_limit; one_past = r.stays.one_past };
      end = λ is. (r.end is).1;
      reads = r.cause.still ∙ i.reads;
      writes = f.cause.still ∙ i.writes;
      refusals = omega (arith, i.refusals, f.cause.later_refused);
      onward = Onward-trans _ _ _ _ _ _ i.onward f.onward;
      reached =
          let p = i.reached in
          reached_read (g.J.RecordJob.meaning c.args.job.now) (g.F.Form.stands c.records.records.form)
          (g.F.Form.stands c.read.new.self.form) (g.J.RecordJob.stands c.records.job) (g.J.RecordJob.stands c.records.job)
          left (g.O.Sink.contents c.args.out.now) (g.O.Sink.contents c.records.out) (g.O.Sink.contents c.flush.new.self) old new source source' p
          (subst (λ f. g.F.Form.stands f p.front p.records) (sym r.form) (e.turn p.front p.records p.stands p.size)) f.keeps
          (subst (λ (k : ReaderState). Keeps (coming k source) (coming new source')) same r.stays.coming)
          (r.stays.passed ∙ ap (λ (k : ReaderState). k.passed) same);
    }

pub records-smaller : goal.records-smaller
records-smaller g c =
    let e = c.in-Needs.ensures in
    let r = c.in_default-read.ensures in
    let old = c.records.records.reader in
    let new = c.read.new.self.reader in
    let same = e.moves.0.same in
    subst (λ b. still new c.read.new.self.over < still old b) (sym e.moves.1)
    (still_read c.read.new.self.over old new
    (record { near = r.stays.in_buffer; in_limit = r.stays.in_limit; one_past = r.stays.one_past })
    (subst (λ (k : ReaderState). k.bytes ≡ []) same e.moves.0.none)
    (r.stays.passed ∙ ap (λ (k : ReaderState). k.passed) same)
    (r.stays.limit ∙ ap (λ (k : ReaderState). k.limit) same) r.filled (λ is. (r.end is).0))

pub returns-in-Past-clause-ran : goal.returns-in-Past-clause-ran
returns-in-Past-clause-ran g c =
    let i = c.records.invariant in
    let e = c.in-Past.ensures in
    let l = g.F.Form.layout c.args.records.now.form in
    let p = i.reached in
    turn_past (g.F.Form.settles l) (g.F.Form.ends l) g.F.Form.place c.args.records.now.reader.limit
    (g.S.Source.left c.records.source) c.records.records.reader c.next.new.self.reader i.within i.limit p
    (g.J.RecordJob.meaning c.records.job) i.meaning (g.O.Sink.contents c.close.new.out) (g.O.Gather.held c.close.new.out)
    e.moves (subst (λ l. g.F.Form.settles l p.front p.records) (e.same ∙ i.layout)
    (g.met.F.Form.settled c.next.new.self.form p.front p.records (e.turn p.front p.records p.stands p.size)))
    c.close.result (c.close.ensures.closes p.kept p.job)

pub returns-in-NoMemory-clause-ran : goal.returns-in-NoMemory-clause-ran
returns-in-NoMemory-clause-ran g c =
    let i = c.records.invariant in
    let l = g.F.Form.layout c.args.records.now.form in
    let p = i.reached in
    turn_unwritten (g.F.Form.settles l) (g.F.Form.ends l) g.F.Form.place c.args.records.now.reader.limit
    (g.S.Source.left c.records.source) c.records.records.reader c.next.new.self.reader i.within i.limit p
    (g.J.RecordJob.meaning c.records.job) i.meaning (g.O.Sink.contents c.records.out) (g.O.Gather.held c.records.out)
    (subst (λ l. g.F.Form.settles l p.front p.records) i.layout
    (g.met.F.Form.settled c.records.records.form p.front p.records p.stands)) (Keeps-refl _) NoMemory endings.NoMemory refl

pub returns-in-End-clause-ran : goal.returns-in-End-clause-ran
returns-in-End-clause-ran g c =
    let i = c.records.invariant in
    let e = c.in-End.ensures in
    let l = g.F.Form.layout c.args.records.now.form in
    let close = c.close-in-End in
    let p = i.reached in
    turn_ended (g.F.Form.settles l) (g.F.Form.ends l) g.F.Form.place c.args.records.now.reader.limit
    (g.S.Source.left c.records.source) c.records.records.reader c.next.new.self.reader i.within i.limit p
    (g.J.RecordJob.meaning c.records.job) i.meaning (g.O.Sink.contents close.new.out) (g.O.Gather.held close.new.out)
    e.moves.0 (i.end e.moves.1) (subst (λ l. g.F.Form.settles l p.front p.records) i.layout
    (g.met.F.Form.settled c.records.records.form p.front p.records p.stands)) c.in-End.cut
    (subst (λ l. g.F.Form.ends l p.front p.records c.in-End.cut) i.layout (e.turn p.front p.records p.stands p.size))
    c.end_of.result c.end_of.ensures close.result (close.ensures.closes p.kept p.job)

pub returns-in-Err-hand-2-clause-ran : goal.returns-in-Err-hand-2-clause-ran
returns-in-Err-hand-2-clause-ran g c =
    let i = c.records.invariant in
    let e = c.in-Last.ensures in
    let l = g.F.Form.layout c.args.records.now.form in
    let hand = c.hand-in-Last in
    let r = g.F.Form.current c.next.new.self.form c.next.new.self.reader.last in
    let p = i.reached in
    turn_halted_last (g.F.Form.settles l) (g.F.Form.ends l) g.F.Form.place c.args.records.now.reader.limit
    (g.S.Source.left c.records.source) c.records.records.reader c.next.new.self.reader i.within i.limit p
    (g.J.RecordJob.meaning c.records.job) i.meaning (g.O.Sink.contents hand.new.out) (g.O.Gather.held hand.new.out)
    e.moves.0 (i.end e.moves.1) (subst (λ l. g.F.Form.settles l p.front p.records) i.layout
    (g.met.F.Form.settled c.records.records.form p.front p.records p.stands)) c.in-Last.cut c.record-in-Last.result r
    c.record-in-Last.ensures.is c.in-Err-hand-2.ending (c.in-Err-hand-2.ensures.halt p.kept p.job)
    (subst (λ l. g.F.Form.ends l p.front (p.records ++ r ∷ []) c.in-Last.cut) i.layout
    (e.turn p.front p.records p.stands p.size))

pub returns-in-Last-clause-ran : goal.returns-in-Last-clause-ran
returns-in-Last-clause-ran g c =
    let i = c.records.invariant in
    let e = c.in-Last.ensures in
    let h = c.in_default-hand-2.ensures in
    let l = g.F.Form.layout c.args.records.now.form in
    let hand = c.hand-in-Last in
    let close = c.close-in-Last in
    let r = g.F.Form.current c.next.new.self.form c.next.new.self.reader.last in
    let p = i.reached in
    let went = h.ok p.kept p.job in
    turn_ended_last (g.F.Form.settles l) (g.F.Form.ends l) g.F.Form.place c.args.records.now.reader.limit
    (g.S.Source.left c.records.source) c.records.records.reader c.next.new.self.reader i.within i.limit p
    (g.J.RecordJob.meaning c.records.job) i.meaning (g.O.Sink.contents close.new.out) (g.O.Gather.held close.new.out)
    e.moves.0 (i.end e.moves.1) (subst (λ l. g.F.Form.settles l p.front p.records) i.layout
    (g.met.F.Form.settled c.records.records.form p.front p.records p.stands)) c.in-Last.cut (g.O.Sink.contents hand.new.out)
    (g.J.RecordJob.stands hand.new.job) c.record-in-Last.result r c.record-in-Last.ensures.is went
    (subst (λ l. g.F.Form.ends l p.front (p.records ++ r ∷ []) c.in-Last.cut) i.layout
    (e.turn p.front p.records p.stands p.size))
    (g.J.RecordJob.meaning hand.new.job) h.same c.end_of-in-Last.result c.end_of-in-Last.ensures close.result
    (close.ensures.closes went.kept went.stands)

pub returns-in-Err-hand-clause-onward : goal.returns-in-Err-hand-clause-onward
returns-in-Err-hand-clause-onward g c = Onward-trans _ _ _ _ _ _ c.records.invariant.onward c.hand.ensures.onward

pub returns-in-Err-flush-clause-onward : goal.returns-in-Err-flush-clause-onward
returns-in-Err-flush-clause-onward g c = Onward-trans _ _ _ _ _ _ c.records.invariant.onward c.flush.ensures.onward

pub returns-in-Err-read-clause-onward : goal.returns-in-Err-read-clause-onward
returns-in-Err-read-clause-onward g c = Onward-trans _ _ _ _ _ _ c.records.invariant.onward c.flush.ensures.onward

pub returns-in-Past-clause-onward : goal.returns-in-Past-clause-onward
returns-in-Past-clause-onward g c = Onward-trans _ _ _ _ _ _ c.records.invariant.onward c.close.ensures.onward

pub returns-in-End-clause-onward : goal.returns-in-End-clause-onward
returns-in-End-clause-onward g c = Onward-trans _ _ _ _ _ _ c.records.invariant.onward c.close-in-End.ensures.onward

pub returns-in-Err-hand-2-clause-onward : goal.returns-in-Err-hand-2-clause-onward
returns-in-Err-hand-2-clause-onward g c = Onward-trans _ _ _ _ _ _ c.records.invariant.onward c.hand-in-Last.ensures.onward

pub returns-in-Last-clause-onward : goal.returns-in-Last-clause-onward
returns-in-Last-clause-onward g c =
    let handed = Onward-trans _ _ _ _ _ _ c.records.invariant.onward c.hand-in-Last.ensures.onward in
    Onward-trans _ _ _ _ _ _ handed c.close-in-Last.ensures.onward
