use Rattle.std.proofs.Common.{rules}
use Rattle.rec_store.proofs.ItemLemmas.{tells_record}
use Rattle.rec_store.proofs.dump_item.read_dump_record.Goals as goal

pub returns-clause-told : goal.returns-clause-told
returns-clause-told c =
    let head = c.read-head.result in
    tells_record c.args.bytes.now head.length head.packet_length head.offset c.item.result c.packet_size.result c.requires
    (search rules) (search rules) (search rules) c.read-head.ensures c.item.ensures.offset c.item.ensures.kind
    c.packet_size.ensures.value
