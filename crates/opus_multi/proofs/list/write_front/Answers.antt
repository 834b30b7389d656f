use Rattle.std.proofs.Common.{vec_len, vec_capacity}
use Rattle.opus_multi.specs.WrittenForms.{spelled_as}
use Rattle.opus_multi.proofs.WriteLemmas.{never_full}
use Rattle.opus_multi.proofs.list.write_front.Goals as goal

pub unwrap-requires : goal.unwrap-requires
unwrap-requires g c =
    never_full (λ p. spelled_as c.args.form (g.T.Owns.held p)) c.args.front.now c.loop-part.part-index c.part-item.result
    c.args.out.now.items c.loop-part.out.items (vec_len c.args.out.now) (vec_len c.loop-part.out) (vec_capacity c.args.out.now) (vec_capacity c.loop-part.out) c.write.result
    c.args.out.now.ok.0 c.loop-part.out.ok.0 c.loop-part-test.true c.part-item.is c.loop-part.invariant.written c.requires.room c.loop-part.invariant.room
    (rw (c.packet.ensures.value, c.packet.ensures.tail) at c.write.ensures.full)
