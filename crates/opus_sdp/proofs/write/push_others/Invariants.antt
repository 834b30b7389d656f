use Rattle.std.proofs.Common.{◌≡◌, ◌≤◌, ◌++◌, take, vec_capacity}
use Rattle.opus_sdp.specs.Printed.{params_after}
use Rattle.opus_sdp.specs.Writing.{separator_behind}
use Rattle.opus_sdp.proofs.write.push_others.Given as goal

abbrev pub invariant-loop-param : goal.invariant-loop-param
invariant-loop-param l = (l.out.items ≡ l.fn.out.items ++ params_after l.separator (take l.param-index l.params))
    × (l.next ≡ separator_behind l.separator (take l.param-index l.params))
    × (vec_capacity l.fn.out ≤ vec_capacity l.out)
