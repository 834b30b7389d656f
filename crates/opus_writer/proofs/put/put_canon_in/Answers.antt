use Rattle.std.proofs.Common.{◌++◌, subst, ap, ◌∙◌}
use Rattle.opus_writer.specs.Forms.{canonical_header_in}
use Rattle.opus_writer.specs.Puts.{Puts}
use Rattle.opus_writer.proofs.FormLemmas.{canonical_in-joined}
use Rattle.opus_writer.proofs.put.put_canon_in.Goals as goal

pub returns-clause-bytes : goal.returns-clause-bytes
returns-clause-bytes g c =
    let v = c.args.packet.now.value in
    let joined = canonical_in-joined c.args.own v c.as_slice.result.now c.body.result.now
    (c.as_slice.ensures.value ∙ c.push_canon_in.ensures.bytes ∙ ap (λ l. l ++ canonical_header_in c.args.own v) c.new-header.ensures) c.body.ensures.bytes in
    subst (λ l. Puts (g.O.Sink.contents c.args.sink.now) (g.O.Sink.contents c.put_two.new.sink) l c.put_two.result) joined c.put_two.ensures.bytes
