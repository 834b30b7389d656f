use Rattle.std.proofs.Common.{arith, rules}
use Rattle.std.proofs.lemmas.List.{with_items_is, places}
use Rattle.job_loop.proofs.RangeLemmas.{range_grown}
use Rattle.job_loop.proofs.gathered.Gathered.keep.Goals as goal

pub returns-clause-held : goal.returns-clause-held
returns-clause-held g c =
    let s = c.args.self.now in
    rw (with_items_is s.buffer c.put_at.new.buffer (search (rules, places)))
    (range_grown s.buffer.items c.put_at.new.buffer c.args.piece.now s.start s.end s.ordered
    (omega (arith, s.within, s.room)) (search rules))
