use Rattle.opus_multi.specs.Readings.{ReadSoFar}
use Rattle.opus_multi.proofs.multi.decode_multi.Given as goal

-- the first k streams are read
abbrev pub invariant-loop-k : goal.invariant-loop-k
invariant-loop-k l = ReadSoFar l.k l.bytes l.rest l.durations l.full l.packets.items
