-- The size of a packet, and its parts.
use Rattle.std.proofs.Common.{◌≡◌, ℕ, ◌+◌, List, ◌++◌, length, sum, length-append, append_assoc, ap, ◌∙◌, arith}
use Rattle.opus_make.specs.Plan.{PlanValue}
use Rattle.opus_make.specs.Written.{frames_from, header_of, padding_of, packet_of}
use Rattle.opus_make.proofs.FrameLemmas.{length-frames_from}

pub length-packet_of : (plan : PlanValue) (header padding : List ℕ) (total : ℕ) → header ≡ header_of plan
    → padding ≡ padding_of plan.form → total ≡ sum plan.lengths
    → length header + total + length padding ≡ length (packet_of plan)
unfolding packet_of
length-packet_of plan header padding total h p t =
    let frames = frames_from 0 plan.lengths in
    omega (
      arith,
      ap length h,
      ap length p,
      t,
      length-frames_from 0 plan.lengths,
      length-append (header_of plan ++ frames) (padding_of plan.form),
      length-append (header_of plan) frames,
    )

pub packet_of-appended : (plan : PlanValue) (old header padding out : List ℕ) → header ≡ header_of plan
    → padding ≡ padding_of plan.form → out ≡ ((old ++ header) ++ frames_from 0 plan.lengths) ++ padding
    → out ≡ old ++ packet_of plan
unfolding packet_of
packet_of-appended plan old header padding out h p e =
    let frames = frames_from 0 plan.lengths in
    e ∙ ap (λ l. ((old ++ l) ++ frames) ++ padding) h
    ∙ ap (λ l. ((old ++ header_of plan) ++ frames) ++ l) p
    ∙ ap (λ l. l ++ padding_of plan.form) (append_assoc old (header_of plan) frames)
    ∙ append_assoc old (header_of plan ++ frames) (padding_of plan.form)
