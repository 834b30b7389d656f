use Rattle.std.proofs.Common.{◌≡◌, ◌≤◌}
use Rattle.opus_io.specs.Sink.{Onward}
use Rattle.opuspack.specs.RunGenerated.{HasTaken}
use Rattle.opuspack.proofs.run_generated.take_records.Given as goal

abbrev pub invariant-loop : goal.invariant-loop
invariant-loop g l = record {
  meaning : g.J.RecordJob.meaning l.job ≡ g.J.RecordJob.meaning l.initial.job;
  spared : g.J.RecordJob.lacks l.job → g.J.RecordJob.lacks l.initial.job;
  seed : l.records.item.seed ≡ l.initial.records.item.seed;
  number : l.records.count ≡ l.counter;
  writes : g.O.Sink.faults l.out ≡ g.O.Sink.faults l.initial.out;
  refusals : g.O.Sink.refusals l.initial.out ≤ g.O.Sink.refusals l.out;
  onward : Onward (g.O.Sink.onto l.initial.out) (g.O.Sink.onto l.out) (g.O.Sink.handed l.initial.out) (g.O.Sink.handed l.out);
  taken : HasTaken (g.J.RecordJob.meaning l.initial.job) (g.J.RecordJob.stands l.job) l.initial.records.item.seed l.counter
      (g.O.Sink.contents l.initial.out) (g.O.Sink.contents l.out);
}
