use Rattle.std.proofs.Common.{arith}
use Rattle.opus_head.proofs.NoFaultLemmas.{NoFault-none}
use Rattle.opus_head.proofs.read.copy_head.Goals as goal

pub slice_bounds-copy-count : goal.slice_bounds-copy-count
slice_bounds-copy-count c =
    let is = NoFault-none c.args.bytes.now c.requires in omega (arith, is.whole, c.head_size-size.ensures.size)

pub slice_bounds-copy-start : goal.slice_bounds-copy-start
slice_bounds-copy-start c =
    let is = NoFault-none c.args.bytes.now c.requires in omega (arith, is.whole, c.head_size-size.ensures.size)

pub copy_table-requires-clause-whole : goal.copy_table-requires-clause-whole
copy_table-requires-clause-whole c =
    let is = NoFault-none c.args.bytes.now c.requires in omega (arith, is.whole, c.head_size-size.ensures.size)
