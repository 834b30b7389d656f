use Rattle.std.proofs.Common.{sym, ap, ◌∙◌, option_map, length}
use Rattle.opus_packet.proofs.BytesLemmas.{AreBytes-from}
use Rattle.pack_records.specs.Lent.{lent_value}
use Rattle.pack_records.proofs.LentLemmas.{whole_told, self_told, self_none}
use Rattle.pack_records.proofs.lent.lent_packet.Goals as goal
use Rattle.pack_records.proofs.lent.lent_packet.Goals.{in_default-via-in-Ok+else-decode_self-bytes, in_default-via-in_default}

pub returns-in-Whole-clause-value : goal.returns-in-Whole-clause-value
returns-in-Whole-clause-value c =
    let bytes = c.args.bytes.now in
    ap (option_map (λ p. p.value)) c.ok.ensures.value
    ∙ whole_told (λ p. p.value) (λ p. p.shape) bytes (AreBytes-from bytes (λ i. (c.type_inv.bytes i).fits)) c.decode.result
    c.decode.ensures.found c.decode.ensures.only
    ∙ ap (λ f. lent_value f bytes) (sym c.in-Whole.is)

pub returns-in-Ok-clause-value : goal.returns-in-Ok-clause-value
returns-in-Ok-clause-value c =
    let bytes = c.args.bytes.now in
    let read = c.in-Ok.read in
    self_told read.packet.value read.packet.shape read.used bytes c.in-Ok.ensures.found c.if-decode_self-bytes.true
    ∙ ap (λ f. lent_value f bytes) (sym c.in-SelfDelimited.is)

pub returns-in_default-clause-value : goal.returns-in_default-clause-value
returns-in_default-clause-value c =
    let bytes = c.args.bytes.now in
    self_none bytes (AreBytes-from bytes (λ i. (c.type_inv.bytes i).fits))
    (elim c.in_default.branch [
      | in_default-via-in-Ok+else-decode_self-bytes w ↦ λ v s begins.
          w.if-decode_self-bytes.false (w.in-Ok.ensures.only v s (length bytes) begins).2
      | in_default-via-in_default w ↦ λ v s begins. w.in_default.ensures.only v s (length bytes) begins
    ])
    ∙ ap (λ f. lent_value f bytes) (sym c.in-SelfDelimited.is)
