use Rattle.std.proofs.Common.{◌++◌, length, subst, ap, ◌∙◌}
use Rattle.opus_packet.specs.Tail.{kept_bytes}
use Rattle.opus_writer.specs.Forms.{keep_header_in}
use Rattle.opus_writer.specs.Puts.{Puts}
use Rattle.opus_writer.proofs.FormLemmas.{kept_in-joined}
use Rattle.opus_writer.proofs.put.put_keep_in.Goals as goal

pub returns-clause-bytes : goal.returns-clause-bytes
returns-clause-bytes g c =
    let v = c.args.packet.now.value in
    let tail = c.tail_bytes-tail.ensures.bytes in
    let joined = kept_in-joined c.args.own v (kept_bytes c.args.packet.now.tail) c.as_slice.result.now c.body.result.now c.tail_bytes-tail.result.now
    (c.as_slice.ensures.value ∙ c.push_keep_in.ensures.bytes ∙ ap (λ l. l ++ keep_header_in c.args.own v (length c.tail_bytes-tail.result.now)) c.new-header.ensures ∙ ap (λ t. keep_header_in c.args.own v (length t)) tail) c.body.ensures.bytes tail in
    subst (λ l. Puts (g.O.Sink.contents c.args.sink.now) (g.O.Sink.contents c.put_three.new.sink) l c.put_three.result) joined c.put_three.ensures.bytes
