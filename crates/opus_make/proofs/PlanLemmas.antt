-- What is drawn for a packet keeps the limits of the standard.
use Rattle.std.proofs.Common.{◌≡◌, ℕ, ◌+◌, ◌*◌, ◌/◌, ◌%◌, ◌<◌, ◌≤◌, Bool, true, false, ◌==◌, nat_lt, if◌then◌else◌, List, length, map, replicate, All, refl, sym, ◌∙◌, subst, ltb-true, arith}
use Rattle.std.proofs.Math.Nat.{div-mul-le_self, mul-le-mul_right, div-le_of_le-mul}
use Rattle.std.proofs.lemmas.Nat.{le-div}
use Rattle.std.proofs.lemmas.Bool.{both_ways}
use Rattle.std.proofs.lemmas.List.{length-replicate, length-map}
use Rattle.std.proofs.lemmas.List.Elements.{All-replicate, All-map}
use Rattle.std.proofs.lemmas.List.FromFn.{length-map-range_with_len}
use Rattle.opus_toc.specs.Configuration.{samples_of}
use Rattle.opus_toc.proofs.Table.{samples-least, samples-most}
use Rattle.opus_make.specs.Draws.{next_state, state_after, drawn, draws}
use Rattle.opus_make.specs.Plan.{FormValue, form_at, IsForm, has_lengths, lengths_at, shape_of, form_after, state_after_form, plan_at, IsPlan}

one_or_two : (one : Bool) (samples : ℕ) → samples ≤ 2880
    → (1 ≤ (if one then 1 else 2)) × ((if one then 1 else 2) ≤ 48) × ((if one then 1 else 2) * samples ≤ 5760)
one_or_two true samples most = (omega arith, omega arith, omega arith)
one_or_two false samples most = (omega arith, omega arith, omega arith)

form-plain : (shape samples : ℕ) → shape < 3 → samples ≤ 2880
    → IsForm samples (record { code = shape; vbr = false; count = if shape == 0 then 1 else 2; pad = 0 })
form-plain shape samples plain most =
    let count = one_or_two (shape == 0) samples most in
    record {
      code = omega arith;
      plain = λ _. (refl, refl, refl);
      some = count.0;
      most = count.1;
      within = count.2;
      few = omega arith;
    }

form-coded : (vbr : Bool) (number samples : ℕ) → 120 ≤ samples → samples ≤ 2880
    → IsForm samples (record { code = 3; vbr = vbr; count = 1 + number % (5760 / samples); pad = (number / 64) % 8 })
form-coded vbr number samples least most =
    let some : 1 ≤ 5760 / samples = le-div 1 5760 samples (omega arith) (omega arith) in
    let few : 5760 / samples ≤ 48 = div-le_of_le-mul samples (omega arith) in
    let below : number % (5760 / samples) < 5760 / samples = omega arith in
    let count : 1 + number % (5760 / samples) ≤ 5760 / samples = omega arith in
    let all : 5760 / samples * samples ≤ 5760 = div-mul-le_self 5760 samples in
    let part : (1 + number % (5760 / samples)) * samples ≤ 5760 / samples * samples = mul-le-mul_right samples count in
    record {
      code = omega arith;
      plain = λ other. absurd (other refl);
      some = omega arith;
      most = omega arith;
      within = omega arith;
      few = omega arith;
    }

form_by : (b : Bool) (shape samples state : ℕ) → nat_lt shape 3 ≡ b → 120 ≤ samples → samples ≤ 2880
    → IsForm samples (form_at shape samples state)
form_by true shape samples state is least most = rw is (form-plain shape samples (ltb-true shape 3 is) most)
form_by false shape samples state is least most = rw is (form-coded (shape == 4) (drawn state) samples least most)

-- the lengths

pub record AreLengths (form : FormValue) (lengths : List ℕ) : Type 0 where
  pub counted : length lengths ≡ form.count
  pub short : All (λ n. n < 300) lengths
  pub equal : has_lengths form ≡ false → (n : ℕ) × (lengths ≡ replicate form.count n)

lengths_by : (b : Bool) (form : FormValue) (state : ℕ) → has_lengths form ≡ b → AreLengths form (lengths_at form state)
lengths_by true form state is =
    let numbers = draws form.count state in
    let drawn_are : lengths_at form state ≡ map (λ number. number % 300) numbers = rw is refl in
    subst (AreLengths form) (sym drawn_are) (record {
      counted = length-map numbers (λ number. number % 300) ∙ length-map-range_with_len (λ i. drawn (state_after state i)) 0 form.count;
      short = All-map (λ n. n < 300) (λ number. number % 300) numbers (λ k d within. omega arith);
      equal = λ other. absurd (both_ways (has_lengths form) other is);
    })
lengths_by false form state is =
    let short : drawn state % 300 < 300 = omega arith in
    rw is (record {
      counted = length-replicate form.count (drawn state % 300);
      short = All-replicate (λ n. n < 300) form.count (drawn state % 300) short;
      equal = λ _. (drawn state % 300, refl);
    })

pub plan_at-limits : (state : ℕ) → IsPlan (plan_at state)
unfolding plan_at
plan_at-limits state =
    let config = drawn state % 32 in
    let known : config < 32 = omega arith in
    let form = form_after state in
    let lengths = lengths_by (has_lengths form) form (state_after_form state) refl in
    record {
      known = known;
      form = form_by (nat_lt (shape_of (drawn state)) 3) (shape_of (drawn state)) (samples_of config) (next_state state) refl
          (samples-least config known) (samples-most config known);
      counted = lengths.counted;
      short = lengths.short;
      equal = lengths.equal;
    }
