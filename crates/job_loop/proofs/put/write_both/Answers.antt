use Rattle.opus_io.proofs.Onward.{Onward-trans}
use Rattle.job_loop.proofs.PutLemmas.{front_of}
use Rattle.job_loop.proofs.put.write_both.Goals as goal

pub returns-clause-front : goal.returns-clause-front
returns-clause-front g c =
    front_of c.args.first.now c.args.second.now (g.O.Sink.contents c.args.out.now) (g.O.Sink.contents c.write_all.new.sink)
    (g.O.Sink.contents c.write_all-2.new.sink) c.write_all-2.result c.in_default.ensures.ok c.write_all-2.ensures.front

pub returns-clause-onward : goal.returns-clause-onward
returns-clause-onward g c = Onward-trans _ _ _ _ _ _ c.write_all.ensures.onward c.write_all-2.ensures.onward
