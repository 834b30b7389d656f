use Rattle.std.proofs.Common.{◌+◌, length, vec_len, vec_capacity, arith}
use Rattle.opuspack.specs.Made.{made_bytes}
use Rattle.opuspack.proofs.MadeSizes.{made_bytes-most, made_bytes-gives, is_made}
use Rattle.opuspack.proofs.made.MadeRecords.next.Goals as goal

pub unwrap-requires : goal.unwrap-requires
unfolding made_bytes
unwrap-requires c =
    let seed = c.args.self.now.item.seed in
    let number = c.args.self.now.count in
    is_made c.next.result (vec_capacity c.clear.new.self) (vec_len c.clear.new.self + length (made_bytes seed number))
    (c.next.ensures.full seed number c.args.self.now.stands)
    (omega (arith, c.clear.ensures.len, c.clear.ensures.capacity, c.args.self.now.room, made_bytes-most seed number))

pub returns-clause-payload : goal.returns-clause-payload
returns-clause-payload c =
    let seed = c.args.self.now.item.seed in
    let number = c.args.self.now.count in
    let gives = c.next.ensures.gives seed number c.args.self.now.stands in
    made_bytes-gives seed number c.unwrap.result c.clear.new.self.items c.next.new.out.items c.clear.ensures.items
    (rw c.unwrap.ensures at gives)
