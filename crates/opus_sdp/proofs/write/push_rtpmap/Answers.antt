use Rattle.std.proofs.Common.{◌≡◌, ◌+◌, [], ◌∷◌, ◌++◌, length, ap, ◌∙◌, arith}
use Rattle.std.specs.Prelude.{codes}
use Rattle.std.specs.Fmt.{decimal}
use Rattle.opus_sdp.specs.Printed.{rtpmap_text}
use Rattle.opus_sdp.proofs.WriteLemmas.{Room, room-behind, three-parts}
use Rattle.opus_sdp.proofs.SizeLemmas.{size-rtpmap}
use Rattle.opus_sdp.proofs.write.push_rtpmap.Goals as goal
use Rattle.opus_sdp.proofs.write.push_rtpmap.Goals.{After-push, After-push_number}

pub push-requires : goal.push-requires
push-requires c = omega (arith, c.requires, size-rtpmap c.args.rtpmap)

-- the number, and 14 bytes behind it
head-room : (c : After-push) → Room c.push.new.out (length (decimal c.args.rtpmap.payload_type) + 14)
head-room c =
    room-behind c.args.out.now c.push.new.out (codes "a=rtpmap:") _ c.push.ensures.items c.push.ensures.capacity
    (omega (arith, c.requires, size-rtpmap c.args.rtpmap))

number-items : (c : After-push_number) → c.push_number.new.out.items ≡ c.push.new.out.items ++ decimal c.args.rtpmap.payload_type
number-items c = c.push_number.ensures.items ∙ ap (λ n. c.push.new.out.items ++ decimal n) c.from.ensures

pub push_number-requires : goal.push_number-requires
push_number-requires c =
    omega (arith, head-room (goal.at.push_number-requires c).After-push, ap (λ n. length (decimal n)) c.from.ensures)

pub push-requires-2 : goal.push-requires-2
push-requires-2 c =
    let at = goal.at.push-requires-2 c in
    room-behind c.push.new.out c.push_number.new.out _ 14 (number-items at.After-push_number) c.push_number.ensures.capacity (head-room at.After-push)

pub returns-clause-items : goal.returns-clause-items
unfolding rtpmap_text
returns-clause-items c =
    three-parts c.args.out.now.items (codes "a=rtpmap:") (decimal c.args.rtpmap.payload_type) (codes " opus/48000/2") (10 ∷ []) _ _ _
    c.push.ensures.items (number-items (goal.at.returns-clause-items c).After-push_number) c.push-2.ensures.items
