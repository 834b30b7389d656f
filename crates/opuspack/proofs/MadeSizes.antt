-- How many bytes a made record has.
use Rattle.std.proofs.Common.{◌≡◌, ℕ, ◌+◌, ◌-◌, ◌*◌, ◌^◌, ◌<◌, ◌≤◌, Bool, true, false, ◌==◌, nat_lt, if◌then◌else◌, List, [], ◌∷◌, length, take, flat_map, sum, Result, Ok, Err, OnErr, IsOk, refl, subst, length-append, length-take, ltb-true, arith}
use Rattle.std.proofs.lemmas.List.{length-replicate}
use Rattle.std.proofs.lemmas.List.Sums.{sum_by-le}
use Rattle.opus_flen.specs.FrameLength.{length_bytes}
use Rattle.opus_flen.proofs.PaddingLemmas.{length-padding_bytes-le}
use Rattle.opus_packet.proofs.LensLemmas.{spelled_most}
use Rattle.opus_make.specs.Draws.{next_state}
use Rattle.opus_make.specs.Plan.{PlanValue, IsPlan, has_lengths, plan_at}
use Rattle.opus_make.specs.Written.{padding_length, count_and_padding, given_lengths, header_of, padding_of, packet_of}
use Rattle.opus_make.specs.Generated.{Generated, lost, packet, is_lost_at, record_at, state_before, generated, Gives, record_bytes}
use Rattle.opus_make.specs.declared.made.Made.{Made}
use Rattle.opus_make.specs.declared.made.Made.TheVariants.{Lost, Packet}
use Rattle.opus_make.proofs.PlanLemmas.{plan_at-limits}
use Rattle.opus_make.proofs.WrittenLemmas.{length-packet_of}
use Rattle.opuspack.specs.Made.{made_bytes}

-- the padding total counts its length byte
pad_by : (b : Bool) (pad : ℕ) → nat_lt 0 pad ≡ b → length (padding_length pad) ≤ pad
pad_by true pad is = rw is (length-padding_bytes-le pad (omega (arith, ltb-true 0 pad is)))
pad_by false pad is = rw is (omega arith)

front_by : (b : Bool) (byte pad : ℕ) → length (if b then byte ∷ padding_length pad else []) ≤ 1 + length (padding_length pad)
front_by true byte pad = omega arith
front_by false byte pad = omega arith

given_by : (b : Bool) (lengths : List ℕ) → length lengths ≤ 48
    → length (if b then take (length lengths - 1) lengths else []) ≤ 47
given_by true lengths few = omega (arith, length-take (length lengths - 1) lengths)
given_by false lengths few = omega arith

packet-most : (plan : PlanValue) → IsPlan plan → length (packet_of plan) ≤ 14455
packet-most plan is =
    let form = plan.form in
    let pad = padding_length form.pad in
    let given = given_lengths plan in
    let front : length (count_and_padding form) ≤ 1 + length pad = front_by (form.code == 3) _ form.pad in
    let few : length given ≤ 47 = given_by (has_lengths form) plan.lengths (omega (arith, is.counted, is.form.most)) in
    let spelled = spelled_most given in
    let header = length-append (count_and_padding form) (flat_map length_bytes given) in
    let total : sum plan.lengths ≤ length plan.lengths * 299 =
    sum_by-le (λ (n : ℕ). n) 299 plan.lengths (λ k d within. omega (arith, is.short k d within)) in
    let padded = length-replicate {A = ℕ} (form.pad - length pad) 0 in
    let size = length-packet_of plan (header_of plan) (padding_of form) (sum plan.lengths) refl refl refl in
    omega (arith, size, header, front, few, spelled, total, padded, pad_by (nat_lt 0 form.pad) form.pad refl, is.counted, is.form.most, is.form.few)

record_by : (b : Bool) (state : ℕ) → is_lost_at state ≡ b → length (record_bytes (record_at state)) ≤ 14455
record_by true state is = rw is (omega arith)
record_by false state is = rw is (packet-most (plan_at (next_state state)) (plan_at-limits (next_state state)))

pub made_bytes-most : (seed number : ℕ) → length (made_bytes seed number) ≤ 14455
unfolding made_bytes
made_bytes-most seed number = record_by (is_lost_at (state_before seed number)) (state_before seed number) refl

pub made_bytes-fits : (seed number : ℕ) → length (made_bytes seed number) < 2 ^ 32
made_bytes-fits seed number = omega (arith, made_bytes-most seed number)

-- where there is room for a record, its making can't fail
pub is_made : {T E : Type 0} → (result : Result T E) (room size : ℕ) → OnErr result (room < size) → size ≤ room → IsOk result
is_made (Ok made) room size full fits = refl
is_made (Err error) room size full fits = absurd (omega arith)

-- what making a record leaves in an empty list are its bytes
gives_bytes : (made_now : Generated) (made : Made) (new : List ℕ) → Gives made_now made [] new → new ≡ record_bytes made_now
gives_bytes lost Lost new is = is
gives_bytes lost Packet new is = absurd is
gives_bytes (packet bytes) Lost new is = absurd is
gives_bytes (packet bytes) Packet new is = is

pub made_bytes-gives : (seed number : ℕ) (made : Made) (old new : List ℕ) → old ≡ [] → Gives (generated seed number) made old new
    → new ≡ made_bytes seed number
unfolding made_bytes
made_bytes-gives seed number made old new none gives =
    gives_bytes (generated seed number) made new (subst (λ l. Gives (generated seed number) made l new) none gives)
