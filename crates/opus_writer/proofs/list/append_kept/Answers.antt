use Rattle.std.proofs.Common.{◌≡◌, ◌<◌, ◌+◌, ◌++◌, length, vec_len, vec_capacity, OnOk, OnErr, subst, ap, ◌∙◌}
use Rattle.opus_packet.specs.Tail.{kept_bytes}
use Rattle.opus_writer.specs.Forms.{kept_in, keep_header_in}
use Rattle.opus_writer.proofs.FormLemmas.{kept_in-joined}
use Rattle.opus_writer.proofs.list.append_kept.Goals as goal

spelled : (c : goal.After-append)
    → (c.as_slice.result.now ++ c.body.result.now) ++ c.tail_bytes-tail.result.now ≡ kept_in c.args.own c.args.packet.now.value (kept_bytes c.args.packet.now.tail)
spelled c =
    let v = c.args.packet.now.value in
    let tail = c.tail_bytes-tail.ensures.bytes in
    kept_in-joined c.args.own v (kept_bytes c.args.packet.now.tail) c.as_slice.result.now c.body.result.now c.tail_bytes-tail.result.now
    (c.as_slice.ensures.value ∙ c.push_keep_in.ensures.bytes ∙ ap (λ l. l ++ keep_header_in c.args.own v (length c.tail_bytes-tail.result.now)) c.new-header.ensures ∙ ap (λ t. keep_header_in c.args.own v (length t)) tail) c.body.ensures.bytes tail

pub returns-clause-ok : goal.returns-clause-ok
returns-clause-ok c =
    subst (λ l. OnOk c.append.result (c.append.new.out.items ≡ c.args.out.now.items ++ l))
    (spelled c) c.append.ensures.ok

pub returns-clause-full : goal.returns-clause-full
returns-clause-full c =
    subst (λ l. OnErr c.append.result (vec_capacity c.args.out.now < vec_len c.args.out.now + length l))
    (spelled c) c.append.ensures.full
