use Rattle.std.proofs.Common.{◌≡◌, ℕ, List, length, ap, sym, subst, ◌∙◌, Some, OnOk, OnErr, arith}
use Rattle.std.specs.Io.KnownBytes.{Appends}
use Rattle.job_loop.specs.Telling.{Front}
use Rattle.rec_store.specs.DemoStore.{demo_record}
use Rattle.opus_packet.specs.Value.{PacketValue}
use Rattle.opuspack.specs.Totals.{packet_in, normal_form}
use Rattle.opuspack.proofs.TotalsLemmas.{lost_stands, packet_stands}
use Rattle.opuspack.proofs.TakeLemmas.{IsLost, none-lost, some-packet}
use Rattle.opuspack.proofs.trial.Trial.take_made.Given.{Over}
use Rattle.opuspack.proofs.trial.Trial.take_made.Goals as goal

lost : (g : Over) (c : goal.After-write_record g) → IsLost c.args.made
lost g c = none-lost c.args.made c.args.bytes.now c.requires (grind (arith, c.is_empty.ensures, c.if-is_empty.true))

pub returns-then-is_empty-clause-ok : goal.returns-then-is_empty-clause-ok
returns-then-is_empty-clause-ok g c =
    subst (λ (bytes : List ℕ). OnOk c.write_record.result (Appends (g.O.Sink.contents c.args.out.now)
    (g.O.Sink.contents c.write_record.new.out) (demo_record c.args.made.number bytes)))
    (ap normal_form (sym (lost g c).lost)) c.write_record.ensures.ok

pub returns-then-is_empty-clause-counted : goal.returns-then-is_empty-clause-counted
returns-then-is_empty-clause-counted g c =
    λ rs is. c.add_lost.ensures ∙ lost_stands c.args.self.now.totals rs c.args.made is (lost g c).lost (lost g c).empty

pub returns-then-is_empty-clause-front : goal.returns-then-is_empty-clause-front
returns-then-is_empty-clause-front g c =
    subst (λ (bytes : List ℕ). OnErr c.write_record.result (Front (demo_record c.args.made.number bytes)
    (g.O.Sink.contents c.args.out.now) (g.O.Sink.contents c.write_record.new.out)))
    (ap normal_form (sym (lost g c).lost)) c.write_record.ensures.front

pub unreachable-requires : goal.unreachable-requires
unreachable-requires g c =
    let packet = some-packet c.args.made c.args.bytes.now c.requires (λ none. grind (arith, none, c.is_empty.ensures, c.if-is_empty.false)) in
    c.in_default.ensures.only packet.value packet.shape packet.spelled

-- the packet that is read is the one that was made
read : (g : Over) (c : goal.After-take_packet g) → packet_in c.args.made ≡ Some c.in-Ok.packet.value
read g c =
    let packet = some-packet c.args.made c.args.bytes.now c.requires (λ none. grind (arith, none, c.is_empty.ensures, c.if-is_empty.false)) in
    packet.is ∙ ap (λ (v : PacketValue). Some v) (sym (c.in-Ok.ensures.only packet.value packet.shape packet.spelled).0)

pub returns-clause-ok : goal.returns-clause-ok
returns-clause-ok g c =
    subst (λ (bytes : List ℕ). OnOk c.take_packet.result (Appends (g.O.Sink.contents c.args.out.now)
    (g.O.Sink.contents c.take_packet.new.out) (demo_record c.args.made.number bytes)))
    (ap normal_form (sym (read g c))) c.take_packet.ensures.ok

pub returns-clause-counted : goal.returns-clause-counted
returns-clause-counted g c =
    λ rs is. packet_stands c.args.self.now.totals c.take_packet.new.self.totals rs c.args.made c.in-Ok.packet.value
    c.in-Ok.packet.size is (read g c) c.take_packet.ensures.counted
    (ap length (sym c.requires) ∙ sym c.in-Ok.ensures.size)

pub returns-clause-front : goal.returns-clause-front
returns-clause-front g c =
    subst (λ (bytes : List ℕ). OnErr c.take_packet.result (Front (demo_record c.args.made.number bytes)
    (g.O.Sink.contents c.args.out.now) (g.O.Sink.contents c.take_packet.new.out)))
    (ap normal_form (sym (read g c))) c.take_packet.ensures.front
