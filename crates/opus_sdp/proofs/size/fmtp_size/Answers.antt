use Rattle.std.proofs.Common.{◌≡◌, length, ap, sym, ◌∙◌, subst}
use Rattle.std.specs.Fmt.{decimal}
use Rattle.opus_sdp.specs.Printed.{known_params, params_after}
use Rattle.opus_sdp.specs.Writing.{separator_behind, Counts}
use Rattle.opus_sdp.proofs.SizeLemmas.{counts_is, counts_sum, size-behind, size-fmtp}
use Rattle.opus_sdp.proofs.size.fmtp_size.Goals as goal

pub returns : goal.returns
returns c =
    let m = c.args.fmtp.now in
    let digits : c.digits.result ≡ length (decimal m.payload_type) =
    c.digits.ensures ∙ ap (λ n. length (decimal n)) c.from.ensures in
    let next = separator_behind 32 (known_params m) in
    let others : Counts c.others_size.result (length (params_after next m.others)) =
    subst (Counts c.others_size.result) (ap (λ ps. length (params_after 59 ps)) c.as_slice.ensures ∙ size-behind 59 next m.others)
    c.others_size.ensures in
    let front = counts_sum c.digits.result 8 _ 8 c.saturating_add.result (subst (Counts c.digits.result) digits (counts_is c.digits.result)) (counts_is 8) c.saturating_add.ensures in
    let known = counts_sum c.saturating_add.result c.known_size.result _ _ c.saturating_add-2.result front c.known_size.ensures c.saturating_add-2.ensures in
    subst (Counts c.saturating_add-3.result) (sym (size-fmtp m))
    (counts_sum c.saturating_add-2.result c.others_size.result _ _ c.saturating_add-3.result known others c.saturating_add-3.ensures)
