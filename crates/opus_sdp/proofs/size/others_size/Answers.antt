use Rattle.std.proofs.Common.{◌≡◌, ◌+◌, [], ◌∷◌, ◌++◌, length, take, ap, sym, ◌∙◌, subst}
use Rattle.std.proofs.lemmas.List.{take_more}
use Rattle.opus_sdp.specs.Printed.{params_after}
use Rattle.opus_sdp.specs.Writing.{Counts}
use Rattle.opus_sdp.proofs.SizeLemmas.{counts_sum, size-more}
use Rattle.opus_sdp.proofs.size.others_size.Goals as goal

pub loop-param-preserved : goal.loop-param-preserved
loop-param-preserved c =
    let params = c.args.params.now in
    let i = c.loop-param.param-index in
    let param = c.param-item.result in
    let more : take (i + 1) params ≡ take i params ++ param ∷ [] =
    take_more params i param c.loop-param-test.true ∙ ap (λ q. take i params ++ q ∷ []) (sym c.param-item.is) in
    let own : Counts c.param_size.result (length param.name + length param.value + 2) =
    rw (ap (length) (sym c.as_slice.ensures), ap length (sym c.as_slice-in-loop-param.ensures)) c.param_size.ensures in
    subst (Counts c.saturating_add-size.result) (sym (ap (λ ps. length (params_after 59 ps)) more ∙ size-more 59 (take i params) param))
    (counts_sum c.loop-param.size c.param_size.result _ _ c.saturating_add-size.result c.loop-param.invariant own c.saturating_add-size.ensures)
