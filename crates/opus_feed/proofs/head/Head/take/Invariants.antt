use Rattle.std.proofs.Common.{◌≡◌, ◌-◌, ◌≤◌, ◌++◌, length, take}
use Rattle.opus_feed.specs.Heads.{IsSound, spelling}
use Rattle.opus_feed.proofs.head.Head.take.Given as goal

abbrev pub decreases-any : goal.decreases-any
decreases-any l = length l.piece - l.at

abbrev pub invariant-any : goal.invariant-any
invariant-any l = record {
  within : l.at ≤ length l.piece;
  sound : IsSound l.framing l.stage l.self;
  spelled : spelling l.framing l.stage l.self ≡ spelling l.framing l.fn.stage l.fn.self ++ take l.at l.piece;
}
