use Rattle.std.proofs.Common.{◌≡◌, ◌+◌, [], ◌∷◌, ◌++◌, take, drop, take-append-drop, ap, sym, ◌∙◌, arith, vec_capacity}
use Rattle.std.proofs.lemmas.List.{take_more}
use Rattle.opus_sdp.specs.Printed.{params_after}
use Rattle.opus_sdp.specs.Writing.{separator_behind}
use Rattle.opus_sdp.proofs.WriteLemmas.{printed-more, separator-append}
use Rattle.opus_sdp.proofs.SizeLemmas.{param, room-more}
use Rattle.opus_sdp.proofs.write.push_others.Goals as goal

pub push_param-requires : goal.push_param-requires
push_param-requires c =
    let params = c.args.params.now in
    let i = c.loop-param.param-index in
    let item = c.param-item.result in
    let name = c.as_slice.result.now in
    let value = c.as_slice-in-loop-param.result.now in
    let rest = drop (i + 1) params in
    let more : take (i + 1) params ≡ take i params ++ item ∷ [] =
    take_more params i item c.loop-param-test.true ∙ ap (λ q. take i params ++ q ∷ []) (sym c.param-item.is) in
    let is : param name value ≡ item =
    ap (λ l. param l value) c.as_slice.ensures ∙ ap (param item.name) c.as_slice-in-loop-param.ensures in
    room-more c.args.out.now.items c.loop-param.out.items c.args.separator c.loop-param.next (take i params) (param name value) rest
    params (vec_capacity c.args.out.now) (vec_capacity c.loop-param.out)
    c.loop-param.invariant.0 c.loop-param.invariant.1
    (ap (λ q. (take i params ++ q ∷ []) ++ rest) is ∙ ap (λ ps. ps ++ rest) (sym more) ∙ take-append-drop (i + 1) params)
    c.requires c.loop-param.invariant.2

pub loop-param-preserved : goal.loop-param-preserved
loop-param-preserved c =
    let params = c.args.params.now in
    let i = c.loop-param.param-index in
    let item = c.param-item.result in
    let more : take (i + 1) params ≡ take i params ++ item ∷ [] =
    take_more params i item c.loop-param-test.true ∙ ap (λ q. take i params ++ q ∷ []) (sym c.param-item.is) in
    let pushed = c.push_param.ensures.items ∙ ap (λ n. c.loop-param.out.items ++ c.loop-param.next ∷ (n ++ 61 ∷ c.as_slice-in-loop-param.result.now)) c.as_slice.ensures
    ∙ ap (λ v. c.loop-param.out.items ++ c.loop-param.next ∷ (item.name ++ 61 ∷ v)) c.as_slice-in-loop-param.ensures in
    let printed = printed-more c.args.out.now.items c.loop-param.out.items c.push_param.new.out.items c.args.separator c.loop-param.next (take i params) item
    c.loop-param.invariant.0 c.loop-param.invariant.1 pushed in (
      printed ∙ ap (λ l. c.args.out.now.items ++ params_after c.args.separator l) (sym more),
      sym (ap (separator_behind c.args.separator) more ∙ separator-append c.args.separator (take i params) item),
      omega (arith, c.push_param.ensures.capacity, c.loop-param.invariant.2),
    )
