use Rattle.std.proofs.Common.{◌≡◌, drop}
use Rattle.stream_jobs.specs.Norm.{long_from}
use Rattle.stream_jobs.proofs.norm.first_dropped.Given as goal

-- what the streams left answer is what all do
abbrev pub invariant-streams : goal.invariant-streams
invariant-streams l = long_from l.stream (drop l.stream l.streams) ≡ long_from 0 l.streams
