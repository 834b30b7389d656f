use Rattle.std.proofs.Common.{◌≡◌, ◌++◌, OnOk, sym, ap, ◌∙◌, subst}
use Rattle.pack_jobs.specs.Records.{canonical_record}
use Rattle.pack_jobs.proofs.RecordLemmas.{front-raw, front-demo, front-self}
use Rattle.pack_jobs.proofs.record.push_front.Goals as goal

pub returns-in-Raw : goal.returns-in-Raw
returns-in-Raw c =
    let v = c.args.packet.now.value in
    front-raw v c.args.front.now.items c.push_canon_header.new.header.items c.requires c.push_canon_header.ensures.bytes
    ∙ ap (λ f. canonical_record f c.args.range v) (sym c.in-Raw.is)

pub returns-in-Demo : goal.returns-in-Demo
returns-in-Demo c =
    let v = c.args.packet.now.value in
    front-demo v c.args.range c.canon_size.result c.args.front.now.items c.try_extend_from_slice.new.self.items
    c.push_canon_header-in-Demo.new.header.items c.demo_head.result c.requires c.demo_head.ensures
    c.canon_size.ensures.size
    (subst (λ r. OnOk r (c.try_extend_from_slice.new.self.items ≡ c.args.front.now.items ++ c.demo_head.result))
    c.unwrap.ensures c.try_extend_from_slice.ensures.ok)
    c.push_canon_header-in-Demo.ensures.bytes
    ∙ ap (λ f. canonical_record f c.args.range v) (sym c.in-Demo.is)

pub returns-in-SelfDelimited : goal.returns-in-SelfDelimited
returns-in-SelfDelimited c =
    let v = c.args.packet.now.value in
    front-self v c.args.front.now.items c.push_canon_self_header.new.header.items c.requires
    c.push_canon_self_header.ensures.bytes
    ∙ ap (λ f. canonical_record f c.args.range v) (sym c.in-SelfDelimited.is)
