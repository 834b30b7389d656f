use Rattle.std.proofs.Common.{◌≡◌, ◌≤◌, ◌++◌, take, flat_map, vec_capacity}
use Rattle.opus_multi.specs.WrittenForms.{spelled_as}
use Rattle.opus_multi.proofs.list.write_front.Given as goal

abbrev pub invariant-loop-part : goal.invariant-loop-part
invariant-loop-part g l = record {
  written : l.out.items ≡ l.initial.out.items ++ flat_map (λ p. spelled_as l.form (g.T.Owns.held p)) (take l.part-index l.front);
  room : vec_capacity l.initial.out ≤ vec_capacity l.out;
}
