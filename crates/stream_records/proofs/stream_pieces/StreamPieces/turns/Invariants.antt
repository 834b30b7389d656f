use Rattle.std.proofs.Common.{◌-◌, length}
use Rattle.stream_records.specs.StreamPieces.{whole_in, SoFar}
use Rattle.stream_records.proofs.stream_pieces.StreamPieces.turns.Given as goal

abbrev pub invariant-loop-used : goal.invariant-loop-used
invariant-loop-used l = SoFar l.fn.self l.self l.end l.piece l.rest

abbrev pub decreases-loop-used : goal.decreases-loop-used
decreases-loop-used l = l.fn.self.streams - length (whole_in l.self)
