use Rattle.std.proofs.Common.{◌≡◌, length, take, flat_map}
use Rattle.opus_multi.specs.WrittenForms.{spelled_as}
use Rattle.opus_multi.proofs.list.front_size.Given as goal

abbrev pub invariant-loop-part : goal.invariant-loop-part
invariant-loop-part g l =
    l.size ≡ length (flat_map (λ p. spelled_as l.form (g.T.Owns.held p)) (take l.part-index l.front))
