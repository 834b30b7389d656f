use Rattle.std.proofs.Common.{◌≡◌, IfSome, option_map, sym, ap, ◌∙◌, subst}
use Rattle.std.specs.Result.{result_ok}
use Rattle.opus_packet.proofs.BytesLemmas.{AreBytes-from}
use Rattle.opus_feed.specs.declared.framing.Framing.TheVariants.{Whole}
use Rattle.pack_records.proofs.LentLemmas.{lent_value-spelled, whole_told}
use Rattle.stream_jobs.specs.StreamsIn.{first_size, first_value}
use Rattle.stream_jobs.proofs.StreamsInLemmas.{framing-last, framing-other, self_value, self_used, whole-value}
use Rattle.stream_jobs.proofs.stream_packets.first_stream.Goals as goal

pub returns-then-behind-gt0-clause-value : goal.returns-then-behind-gt0-clause-value
returns-then-behind-gt0-clause-value c =
    let bytes = c.args.bytes.now in
    ap (option_map (λ r. r.packet.value)) c.ok.ensures.value
    ∙ self_value (λ r. r.packet.value) (λ r. r.packet.shape) (λ r. r.used) bytes
    (AreBytes-from bytes (λ i. (c.type_inv.bytes i).fits)) c.decode_self.result c.decode_self.ensures.found
    c.decode_self.ensures.only
    ∙ ap (λ f. first_value f bytes) (sym (framing-other c.args.behind c.if-behind-gt0.true))

pub returns-then-behind-gt0-clause-used : goal.returns-then-behind-gt0-clause-used
returns-then-behind-gt0-clause-used c =
    let bytes = c.args.bytes.now in
    subst (λ f. IfSome c.ok.result (λ r. r.used ≡ first_size f bytes))
    (sym (framing-other c.args.behind c.if-behind-gt0.true))
    (rw c.ok.ensures.value (self_used (λ r. r.packet.value) (λ r. r.packet.shape) (λ r. r.used) bytes
    c.decode_self.result c.decode_self.ensures.found))

pub returns-in-Ok-clause-value : goal.returns-in-Ok-clause-value
returns-in-Ok-clause-value c =
    let bytes = c.args.bytes.now in
    let p = c.in-Ok.packet in
    sym (lent_value-spelled Whole p.value p.shape c.in-Ok.ensures.found.0 bytes c.in-Ok.ensures.found.1)
    ∙ whole-value bytes
    ∙ ap (λ f. first_value f bytes) (sym (framing-last c.args.behind c.if-behind-gt0.false))

pub returns-in-Err-clause-value : goal.returns-in-Err-clause-value
returns-in-Err-clause-value c =
    let bytes = c.args.bytes.now in
    ap (λ r. option_map (λ p. p.value) (result_ok r)) (sym c.in-Err.is)
    ∙ whole_told (λ p. p.value) (λ p. p.shape) bytes (AreBytes-from bytes (λ i. (c.type_inv.bytes i).fits)) c.decode.result
    c.decode.ensures.found c.decode.ensures.only
    ∙ whole-value bytes
    ∙ ap (λ f. first_value f bytes) (sym (framing-last c.args.behind c.if-behind-gt0.false))
