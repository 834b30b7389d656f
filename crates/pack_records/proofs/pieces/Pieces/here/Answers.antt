use Rattle.std.proofs.Common.{◌≡◌, ◌+◌, ◌-◌, ◌≤◌, length, take, drop, sym, ap, ◌∙◌, subst}
use Rattle.std.proofs.lemmas.List.{take_rest}
use Rattle.opus_packet.specs.HasTail.{HasTail}
use Rattle.opus_feed.specs.declared.framing.Framing.TheVariants.{Whole}
use Rattle.pack_records.specs.declared.item.Found.TheVariants.{Packet}
use Rattle.pack_records.specs.Pieces.{lent_bytes, item_of}
use Rattle.pack_records.proofs.FormLemmas.{lent_here, holds_here, ready_here}
use Rattle.pack_records.proofs.pieces.Pieces.here.Goals as goal

rest_is : (c : goal.After-lend) → take (length c.args.own.now - c.args.before) (drop c.args.before c.args.own.now)
    ≡ drop c.args.before c.args.own.now
rest_is c = take_rest c.args.own.now c.args.before

has_tail : (c : goal.After-lend) → HasTail c.in-Ok.packet (drop c.args.before c.args.own.now)
has_tail c = subst (HasTail c.in-Ok.packet) (rest_is c) c.in-Ok.ensures.tail

lies : (c : goal.After-lend) → lent_bytes c.lend.new.self c.args.own.now ≡ drop c.args.before c.args.own.now
lies c =
    lent_here c.lend.new.self c.args.own.now c.lend.ensures.lies
    ∙ ap (λ n. drop n c.args.own.now) c.lend.ensures.before

item_is : (c : goal.After-lend) → c.lend.new.self.item
    ≡ item_of c.args.start (c.args.start + c.in-Ok.packet.size) c.args.range
    (Packet Whole c.in-Ok.packet.shape c.in-Ok.packet.size)
item_is c =
    c.lend.ensures.item
    ∙ ap (λ f. item_of c.args.start (c.args.start + c.in-Ok.packet.size) c.args.range
    (Packet f c.in-Ok.packet.shape c.in-Ok.packet.size)) c.requires.framing

pub returns-in-Ok-clause-packet : goal.returns-in-Ok-clause-packet
returns-in-Ok-clause-packet c is =
    let (tail, reads, tail_is) = has_tail c in
    holds_here c.args.self.now.padding Whole c.args.start c.args.range (drop c.args.before c.args.own.now)
    c.lend.new.self c.args.own.now c.in-Ok.packet tail reads (c.is_form.ensures c.if-is_form.true tail tail_is)
    (c.in-Ok.ensures.size ∙ ap length (rest_is c)) (lies c) (item_is c)

pub returns-in-Ok-clause-ready : goal.returns-in-Ok-clause-ready
returns-in-Ok-clause-ready c is =
    let (tail, reads, tail_is) = has_tail c in
    ready_here c.args.self.now.padding Whole c.args.start c.args.range (drop c.args.before c.args.own.now)
    c.lend.new.self c.args.own.now c.in-Ok.packet tail reads (c.is_form.ensures c.if-is_form.true tail tail_is)
    (lies c) (item_is c) (subst (λ n. n ≤ length c.args.own.now) (sym c.lend.ensures.before) c.requires.before)
