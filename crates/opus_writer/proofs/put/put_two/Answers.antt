use Rattle.opus_io.proofs.Onward.{Onward-trans}
use Rattle.opus_writer.proofs.PutsLemmas.{Puts-then}
use Rattle.opus_writer.proofs.put.put_two.Goals as goal

pub returns-clause-bytes : goal.returns-clause-bytes
returns-clause-bytes g c =
    Puts-then (g.O.Sink.contents c.args.sink.now) (g.O.Sink.contents c.write_all.new.sink) (g.O.Sink.contents c.write_all-2.new.sink) c.args.first.now c.args.second.now c.write_all-2.result c.in_ok-write_all.ensures.ok
    (record { ok = c.write_all-2.ensures.ok; front = c.write_all-2.ensures.front })

pub returns-clause-onward : goal.returns-clause-onward
returns-clause-onward g c = Onward-trans _ _ _ _ _ _ c.write_all.ensures.onward c.write_all-2.ensures.onward
