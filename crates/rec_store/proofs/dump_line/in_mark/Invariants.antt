use Rattle.std.proofs.Common.{◌≡◌, take, drop}
use Rattle.rec_store.specs.Dump.{dump_mark}
use Rattle.rec_store.proofs.dump_line.in_mark.Given as goal

-- the bytes so far are the mark's
abbrev pub invariant-loop-at : goal.invariant-loop-at
invariant-loop-at l = take l.at l.piece ≡ take l.at (drop l.seen dump_mark)
