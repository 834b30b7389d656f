use Rattle.std.proofs.Common.{◌≡◌, ◌+◌, ◌<◌, ◌++◌, ◌∙◌, length, sum, vec_len, vec_capacity, Result, Ok, Err, OnErr, ap, arith}
use Rattle.opus_make.specs.Written.{frames_from, packet_of}
use Rattle.opus_make.specs.Values.{plan_value}
use Rattle.opus_make.proofs.WrittenLemmas.{length-packet_of, packet_of-appended}
use Rattle.opus_make.proofs.written.write_plan.Goals as goal

-- what stands anyway, stands after a refusal
on_err : {T E : Type 0} (result : Result T E) (P : Type 0) → P → OnErr result P
on_err (Ok x) P p = tt
on_err (Err e) P p = p

pub returns-in_err-reserve-clause-full : goal.returns-in_err-reserve-clause-full
returns-in_err-reserve-clause-full c =
    let plan = plan_value c.args.plan.now in
    let total : c.total.result ≡ sum plan.lengths = c.total.ensures.sum ∙ ap sum c.as_slice.ensures.value in
    let size = length-packet_of plan c.header-header.result.items c.padding-padding.result.items c.total.result
    c.header-header.ensures.bytes c.padding-padding.ensures.bytes total in
    on_err c.from_residual.result
    (vec_capacity c.args.out.now < vec_len c.args.out.now + length (packet_of plan))
    (omega (arith, size, c.in_err-reserve.ensures.full, c.len.ensures.value, c.len-2.ensures.value))

pub returns-clause-ok : goal.returns-clause-ok
returns-clause-ok c =
    let plan = plan_value c.args.plan.now in
    let old = c.args.out.now.items in
    let header = c.header-header.result.items in
    let padding = c.padding-padding.result.items in
    let reserved : c.reserve.new.self.items ≡ old = c.in_ok-reserve.ensures.items in
    let begun : c.extend_from_slice.new.self.items ≡ c.reserve.new.self.items ++ c.as_slice-2.result.now =
    rw c.unwrap.ensures at c.extend_from_slice.ensures.items in
    let first : c.extend_from_slice.new.self.items ≡ old ++ header =
    begun ∙ ap (λ l. l ++ c.as_slice-2.result.now) reserved ∙ ap (λ l. old ++ l) c.as_slice-2.ensures.value in
    let frames : c.append_frames.new.out.items ≡ (old ++ header) ++ frames_from 0 plan.lengths =
    c.append_frames.ensures.items
    ∙ ap (λ l. l ++ frames_from 0 c.as_slice-3.result.now) first
    ∙ ap (λ l. (old ++ header) ++ frames_from 0 l) c.as_slice-3.ensures.value in
    let ended : c.extend_from_slice-2.new.self.items ≡ c.append_frames.new.out.items ++ c.as_slice-4.result.now =
    rw c.unwrap-2.ensures at c.extend_from_slice-2.ensures.items in
    packet_of-appended plan old header padding c.extend_from_slice-2.new.self.items
    c.header-header.ensures.bytes c.padding-padding.ensures.bytes
    (ended ∙ ap (λ l. l ++ c.as_slice-4.result.now) frames
    ∙ ap (λ l. ((old ++ header) ++ frames_from 0 plan.lengths) ++ l) c.as_slice-4.ensures.value)
