use Rattle.std.proofs.Common.{◌≡◌, ◌+◌, ◌≤◌, length, take, drop, sym, ap, ◌∙◌, subst, length-take-le, arith}
use Rattle.opus_feed.specs.declared.framing.Framing.TheVariants.{SelfDelimited}
use Rattle.pack_records.specs.declared.item.Found.TheVariants.{Packet}
use Rattle.pack_records.specs.Pieces.{lent_bytes, item_of}
use Rattle.pack_records.proofs.FormLemmas.{lent_here, holds_here, ready_here}
use Rattle.pack_records.proofs.TakenLemmas.{some_bytes}
use Rattle.pack_records.proofs.pieces.Pieces.here_first.Goals as goal

size_is : (c : goal.After-lend) → length (take c.in-Ok.read.used c.args.shown.now) ≡ c.in-Ok.read.used
size_is c = length-take-le c.in-Ok.read.used c.args.shown.now c.in-Ok.ensures.found.within

lies : (c : goal.After-lend) → lent_bytes c.lend.new.self (take c.in-Ok.read.used c.args.shown.now)
    ≡ take c.in-Ok.read.used c.args.shown.now
lies c =
    lent_here c.lend.new.self (take c.in-Ok.read.used c.args.shown.now) c.lend.ensures.lies
    ∙ ap (λ n. drop n (take c.in-Ok.read.used c.args.shown.now)) c.lend.ensures.before

item_is : (c : goal.After-lend) → c.lend.new.self.item
    ≡ item_of c.args.start (c.args.start + c.in-Ok.read.packet.size) 0
    (Packet SelfDelimited c.in-Ok.read.packet.shape c.in-Ok.read.packet.size)
item_is c =
    c.lend.ensures.item
    ∙ ap (λ f. item_of c.args.start (c.args.start + c.in-Ok.read.packet.size) 0
    (Packet f c.in-Ok.read.packet.shape c.in-Ok.read.packet.size)) c.requires.framing

pub returns-in-Ok-clause-packet : goal.returns-in-Ok-clause-packet
returns-in-Ok-clause-packet c =
    let (tail, reads, tail_is) = c.in-Ok.ensures.tail in
    let own = take c.in-Ok.read.used c.args.shown.now in
    holds_here c.args.self.now.padding SelfDelimited c.args.start 0 own c.lend.new.self own c.in-Ok.read.packet tail
    reads (c.is_form.ensures c.if-is_form.true tail tail_is) (c.in-Ok.ensures.size ∙ sym (size_is c)) (lies c) (item_is c)

pub returns-in-Ok-clause-count : goal.returns-in-Ok-clause-count
returns-in-Ok-clause-count c = (some_bytes _ _ _ _ c.in-Ok.ensures.found, c.in-Ok.ensures.found.within)

pub returns-in-Ok-clause-ready : goal.returns-in-Ok-clause-ready
returns-in-Ok-clause-ready c =
    let (tail, reads, tail_is) = c.in-Ok.ensures.tail in
    let own = take c.in-Ok.read.used c.args.shown.now in
    ready_here c.args.self.now.padding SelfDelimited c.args.start 0 own c.lend.new.self own c.in-Ok.read.packet tail
    reads (c.is_form.ensures c.if-is_form.true tail tail_is) (lies c) (item_is c)
    (subst (λ n. n ≤ length own) (sym c.lend.ensures.before) (omega arith))
