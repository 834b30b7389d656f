use Rattle.std.proofs.Common.{◌*◌, replicate, take, refl, subst, arith}
use Rattle.std.specs.Result.{OnOk}
use Rattle.std.specs.Io.KnownBytes.{Appends}
use Rattle.net_jobs.specs.Tell.{lost_records}
use Rattle.net_jobs.proofs.TellLemmas.{lost_piece, front_if}
use Rattle.net_jobs.proofs.events.write_some_lost.Goals as goal

pub returns-clause-ok : goal.returns-clause-ok
returns-clause-ok g c =
    subst (λ l. OnOk c.write_all.result (Appends (g.O.Sink.contents c.args.out.now) (g.O.Sink.contents c.write_all.new.sink) l))
    (lost_piece (replicate 512 0) 512 c.args.count refl (omega (arith, c.requires))) c.write_all.ensures.ok

pub returns-clause-front : goal.returns-clause-front
returns-clause-front g c =
    front_if c.write_all.result (take (8 * c.args.count) (replicate 512 0)) (lost_records c.args.count)
    (g.O.Sink.contents c.args.out.now) (g.O.Sink.contents c.write_all.new.sink)
    (lost_piece (replicate 512 0) 512 c.args.count refl (omega (arith, c.requires))) c.write_all.ensures.front
