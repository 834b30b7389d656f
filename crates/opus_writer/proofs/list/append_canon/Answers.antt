use Rattle.std.proofs.Common.{◌≡◌, ◌<◌, ◌+◌, [], ◌++◌, length, vec_len, vec_capacity, OnOk, OnErr, subst, ap, ◌∙◌, append-nil}
use Rattle.opus_writer.specs.Forms.{canonical_in, canonical_header_in}
use Rattle.opus_writer.proofs.FormLemmas.{canonical_in-joined}
use Rattle.opus_writer.proofs.list.append_canon.Goals as goal

spelled : (c : goal.After-append)
    → (c.as_slice.result.now ++ c.body.result.now) ++ [] ≡ canonical_in c.args.own c.args.packet.now.value
spelled c =
    let v = c.args.packet.now.value in
    append-nil (c.as_slice.result.now ++ c.body.result.now)
    ∙ canonical_in-joined c.args.own v c.as_slice.result.now c.body.result.now
    (c.as_slice.ensures.value ∙ c.push_canon_in.ensures.bytes ∙ ap (λ l. l ++ canonical_header_in c.args.own v) c.new-header.ensures) c.body.ensures.bytes

pub returns-clause-ok : goal.returns-clause-ok
returns-clause-ok c =
    subst (λ l. OnOk c.append.result (c.append.new.out.items ≡ c.args.out.now.items ++ l))
    (spelled c) c.append.ensures.ok

pub returns-clause-full : goal.returns-clause-full
returns-clause-full c =
    subst (λ l. OnErr c.append.result (vec_capacity c.args.out.now < vec_len c.args.out.now + length l))
    (spelled c) c.append.ensures.full
