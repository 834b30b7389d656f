use Rattle.std.proofs.Common.{◌≡◌, ◌≤◌, true}
use Rattle.std.specs.Io.KnownBytes.{IsAtEnd}
use Rattle.opus_io.specs.Reader.{coming}
use Rattle.opus_io.specs.Sink.{Onward}
use Rattle.job_loop.specs.Turns.{Within, still}
use Rattle.job_loop.proofs.Reached.{Reached}
use Rattle.job_loop.proofs.run.run_records.Given as goal

abbrev pub invariant-records : goal.invariant-records
invariant-records g l = record {
  meaning : g.J.RecordJob.meaning l.job ≡ g.J.RecordJob.meaning l.initial.job;
  spared : g.J.RecordJob.lacks l.job → g.J.RecordJob.lacks l.initial.job;
  layout : g.F.Form.layout l.records.form ≡ g.F.Form.layout l.initial.records.form;
  limit : l.records.reader.limit ≡ l.initial.records.reader.limit;
  within : Within l.records.reader;
  end : l.records.over ≡ true → IsAtEnd (g.S.Source.left l.source);
  reads : g.S.Source.faults l.source ≡ g.S.Source.faults l.initial.source;
  writes : g.O.Sink.faults l.out ≡ g.O.Sink.faults l.fn.out;
  refusals : g.O.Sink.refusals l.fn.out ≤ g.O.Sink.refusals l.out;
  onward : Onward (g.O.Sink.onto l.fn.out) (g.O.Sink.onto l.out) (g.O.Sink.handed l.fn.out) (g.O.Sink.handed l.out);
  reached : Reached (g.J.RecordJob.meaning l.initial.job) (g.F.Form.stands l.records.form) (g.J.RecordJob.stands l.job)
      (g.S.Source.left l.initial.source) (coming l.records.reader (g.S.Source.left l.source)) (g.O.Sink.contents l.fn.out)
      (g.O.Sink.contents l.out) l.records.reader.passed;
}

abbrev pub decreases-records : goal.decreases-records
decreases-records g l = still l.records.reader l.records.over
