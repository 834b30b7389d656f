use Rattle.std.proofs.Common.{take}
use Rattle.rec_store.specs.DumpLine.{IsOneLine}
use Rattle.rec_store.proofs.dump_line.in_text.Given as goal

-- no newline so far
abbrev pub invariant-loop-at : goal.invariant-loop-at
invariant-loop-at l = IsOneLine (take l.at l.piece)
