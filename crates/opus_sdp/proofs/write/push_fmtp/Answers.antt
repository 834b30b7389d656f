use Rattle.std.proofs.Common.{◌≡◌, ◌+◌, ℕ, [], ◌∷◌, ◌++◌, length, append_assoc, ap, ◌∙◌, arith}
use Rattle.std.specs.Prelude.{codes}
use Rattle.std.specs.Fmt.{decimal}
use Rattle.opus_sdp.specs.Printed.{known_params, params_after, printed_params, fmtp_text}
use Rattle.opus_sdp.specs.Writing.{separator_behind}
use Rattle.opus_sdp.specs.declared.fmtp.Fmtp.{Fmtp}
use Rattle.opus_sdp.proofs.WriteLemmas.{Room, room-behind, three-parts, others-printed}
use Rattle.opus_sdp.proofs.SizeLemmas.{size-fmtp}
use Rattle.opus_sdp.proofs.write.push_fmtp.Goals as goal
use Rattle.opus_sdp.proofs.write.push_fmtp.Goals.{After-push, After-push_number, After-as_slice}

pub push-requires : goal.push-requires
push-requires c = omega (arith, c.requires, size-fmtp c.args.fmtp.now)

-- the bytes of the known parameters, and of what stands behind these

abbrev known : Fmtp → ℕ
known m = length (params_after 32 (known_params m))

abbrev rest : Fmtp → ℕ
rest m = length (params_after (separator_behind 32 (known_params m)) m.others) + 1

-- what is still to come has room behind each part

head-room : (c : After-push) → Room c.push.new.out (length (decimal c.args.fmtp.now.payload_type) + (known c.args.fmtp.now + rest c.args.fmtp.now))
head-room c =
    room-behind c.args.out.now c.push.new.out (codes "a=fmtp:") _ c.push.ensures.items c.push.ensures.capacity
    (omega (arith, c.requires, size-fmtp c.args.fmtp.now))

number-items : (c : After-push_number) → c.push_number.new.out.items ≡ c.push.new.out.items ++ decimal c.args.fmtp.now.payload_type
number-items c = c.push_number.ensures.items ∙ ap (λ n. c.push.new.out.items ++ decimal n) c.from.ensures

number-room : (c : After-push_number) → Room c.push.new.out (length (decimal c.args.fmtp.now.payload_type) + (known c.args.fmtp.now + rest c.args.fmtp.now))
    → Room c.push_number.new.out (known c.args.fmtp.now + rest c.args.fmtp.now)
number-room c = room-behind c.push.new.out c.push_number.new.out _ _ (number-items c) c.push_number.ensures.capacity

-- what stands behind the known parameters has room, as they are lent
others-room : (c : After-as_slice) → Room c.push_number.new.out (known c.args.fmtp.now + rest c.args.fmtp.now)
    → Room c.push_known-separator.new.out (length (params_after c.push_known-separator.result c.as_slice.result.now) + 1)
others-room c room =
    let behind = room-behind c.push_number.new.out c.push_known-separator.new.out _ (rest c.args.fmtp.now)
    c.push_known-separator.ensures.items c.push_known-separator.ensures.capacity room in
    omega (
      arith,
      behind,
      ap (λ b. length (params_after b c.as_slice.result.now)) c.push_known-separator.ensures.separator,
      ap (λ ps. length (params_after (separator_behind 32 (known_params c.args.fmtp.now)) ps)) c.as_slice.ensures,
    )

pub push_number-requires : goal.push_number-requires
push_number-requires c =
    omega (arith, head-room (goal.at.push_number-requires c).After-push, ap (λ n. length (decimal n)) c.from.ensures)

pub push_known-separator-requires : goal.push_known-separator-requires
push_known-separator-requires c =
    let at = goal.at.push_known-separator-requires c in
    omega (arith, number-room at.After-push_number (head-room at.After-push))

pub push_others-requires : goal.push_others-requires
push_others-requires c =
    let at = goal.at.push_others-requires c in
    omega (arith, others-room at.After-as_slice (number-room at.After-push_number (head-room at.After-push)))

pub push-requires-2 : goal.push-requires-2
push-requires-2 c =
    let at = goal.at.push-requires-2 c in
    room-behind c.push_known-separator.new.out c.push_others.new.out _ 1 c.push_others.ensures.items c.push_others.ensures.capacity
    (others-room at.After-as_slice (number-room at.After-push_number (head-room at.After-push)))

pub returns-clause-items : goal.returns-clause-items
unfolding fmtp_text
returns-clause-items c =
    let m = c.args.fmtp.now in
    let front = c.push_number.new.out.items in
    let known = c.push_known-separator in
    let others = others-printed front known.new.out.items c.push_others.new.out.items (known_params m) m.others c.as_slice.result.now
    known.result known.ensures.items known.ensures.separator c.as_slice.ensures c.push_others.ensures.items in
    three-parts c.args.out.now.items (codes "a=fmtp:") (decimal m.payload_type) (params_after 32 (printed_params m)) (10 ∷ []) _ _ _
    c.push.ensures.items (number-items (goal.at.returns-clause-items c).After-push_number)
    (c.push-2.ensures.items ∙ ap (λ l. l ++ 10 ∷ []) others ∙ append_assoc front (params_after 32 (printed_params m)) (10 ∷ []))
