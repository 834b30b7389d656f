use Rattle.std.proofs.Common.{◌≡◌, length, ap, sym, ◌∙◌, subst}
use Rattle.std.specs.Fmt.{decimal}
use Rattle.opus_sdp.specs.Writing.{Counts}
use Rattle.opus_sdp.proofs.SizeLemmas.{counts_is, counts_sum, size-rtpmap}
use Rattle.opus_sdp.proofs.size.rtpmap_size.Goals as goal

pub returns : goal.returns
returns c =
    let r = c.args.rtpmap in
    let digits : c.digits.result ≡ length (decimal r.payload_type) =
    c.digits.ensures ∙ ap (λ n. length (decimal n)) c.from.ensures in
    subst (Counts c.saturating_add.result) (sym (size-rtpmap r))
    (counts_sum c.digits.result 23 _ 23 c.saturating_add.result (subst (Counts c.digits.result) digits (counts_is c.digits.result)) (counts_is 23) c.saturating_add.ensures)
