-- What stands before the lengths of a header.
use Rattle.std.proofs.Common.{◌≡◌, ℕ, ◌+◌, ◌-◌, ◌*◌, ◌^◌, ◌<◌, ◌≤◌, Bool, true, false, [], ◌∷◌, ◌++◌, replicate, refl, sym, ap, ◌∙◌, subst, arith, ne_eqb}
use Rattle.std.proofs.lemmas.List.{replicate-append-replicate}
use Rattle.opus_toc.specs.Toc.{config_of, code_of}
use Rattle.opus_toc.specs.Configuration.{samples_of}
use Rattle.opus_flen.specs.PaddingLength.{most_full}
use Rattle.opus_packet.specs.declared.shape.Shape.{Shape}
use Rattle.opus_packet.specs.Value.{max_duration}
use Rattle.opus_packet.specs.HeaderRead.{shape_of, vbr_of, frames_of, is_count}
use Rattle.opus_packet.proofs.HeaderLemmas.{counts, frames-most, lasts_two}
use Rattle.opus_feed.specs.Heads.{SuitsCount, IsCounted, IsPadded, IsLed, IsSized, IsGiving, HasLengths, gives, given_count}
use Rattle.opus_feed.specs.declared.head.Head.{Head}
use Rattle.opus_feed.proofs.GivenLemmas.{has_none}

-- a packet of code 0, 1 or 2
pub led_plain : (h : Head) (code : ℕ) → h.first < 256 → code_of h.first ≡ code → h.shape ≡ shape_of code false 0
    → 1 ≤ h.frames → h.frames ≤ 2 → SuitsCount code false 0 h.frames → IsLed h
led_plain h code byte c shape some few suits = record {
  byte = byte;
  code = ap (λ (s : Shape). s.code) shape ∙ sym c;
  some = some;
  most = omega arith;
  lasts = lasts_two (config_of h.first) h.frames (omega arith) few;
  pad = subst (λ (s : Shape). s.pad < 2 ^ 24) (sym shape) (omega arith);
  suits = subst (λ (s : Shape). SuitsCount s.code s.vbr s.pad h.frames) (sym shape) suits;
}

-- one of code 3
pub led_counted : (h : Head) → IsCounted h → h.shape.pad < 2 ^ 24 → IsLed h
led_counted h is limit =
    let said = counts h.first h.count is.allowed in
    let frames = is.frames_are in
    let byte = is.byte in
    let lasts : h.frames * samples_of (config_of h.first) ≤ max_duration =
    subst (λ n. n * samples_of (config_of h.first) ≤ max_duration) (sym frames) said.1 in
    record {
      byte = is.byte;
      code = is.shape_code ∙ sym is.code;
      some = omega arith;
      most = frames-most (config_of h.first) h.frames (omega arith) lasts;
      lasts = lasts;
      pad = limit;
      suits = subst (λ n. SuitsCount n h.shape.vbr h.shape.pad h.frames) (sym is.shape_code) tt;
    }

-- a header that gives no lengths
pub sized_none : (h : Head) → IsLed h → h.spelled ≡ 0 → h.sum ≡ 0 → given_count h ≡ 0 → IsSized h
sized_none h led none no_sum no_lengths =
    record { led = led; lengths = subst (λ n. HasLengths n h) (sym no_lengths) (has_none h none no_sum) }

pub given_none : (h : Head) (code : ℕ) → h.shape ≡ shape_of code false 0 → (code ≡ 2 → ⊥) → given_count h ≡ 0
given_none h code shape other = rw (shape, ne_eqb code 2 other)

-- a header of code 0 or 1
pub sized_plain : (h : Head) (code : ℕ) → h.first < 256 → code_of h.first ≡ code → h.shape ≡ shape_of code false 0
    → 1 ≤ h.frames → h.frames ≤ 2 → SuitsCount code false 0 h.frames → (code ≡ 2 → ⊥)
    → h.spelled ≡ 0 → h.sum ≡ 0 → IsSized h
sized_plain h code byte c shape some few suits other none no_sum =
    sized_none h (led_plain h code byte c shape some few suits) none no_sum (given_none h code shape other)

given_by : (h : Head) (v : Bool) → h.shape.code ≡ 3 → h.shape.vbr ≡ v → (v ≡ true → h.frames ≤ 1)
    → given_count h ≡ 0
given_by h true code vbr one = let few = one refl in let none : h.frames - 1 ≡ 0 = omega arith in rw (code, vbr, none)
given_by h false code vbr one = rw (code, vbr)

pub given_counted : (h : Head) → h.shape.code ≡ 3 → (h.shape.vbr ≡ true → h.frames ≤ 1) → given_count h ≡ 0
given_counted h code one = given_by h h.shape.vbr code refl one

pub gives_vbr : (h : Head) → h.shape.code ≡ 3 → h.shape.vbr ≡ true → gives h.shape ≡ true
gives_vbr h code vbr = rw (code, vbr)

-- a byte of the padding length more
pub full_more : (full : ℕ) → replicate {A = ℕ} (full + 1) 255 ≡ replicate {A = ℕ} full 255 ++ 255 ∷ []
full_more full = sym (replicate-append-replicate full 1 255)

counted_same : (h k : Head) → IsCounted h → k.first ≡ h.first → k.count ≡ h.count → k.shape ≡ h.shape
    → k.frames ≡ h.frames → k.spelled ≡ h.spelled → k.sum ≡ h.sum → IsCounted k
counted_same h k is first count shape frames spelled total = record {
  byte = subst (λ n. n < 256) (sym first) is.byte;
  code = ap code_of first ∙ is.code;
  count = subst (λ n. n < 256) (sym count) is.count;
  allowed = ap (λ n. is_count n k.count) first ∙ ap (is_count h.first) count ∙ is.allowed;
  frames_are = frames ∙ is.frames_are ∙ ap frames_of (sym count);
  shape_code = ap (λ (s : Shape). s.code) shape ∙ is.shape_code;
  shape_vbr = ap (λ (s : Shape). s.vbr) shape ∙ is.shape_vbr ∙ ap vbr_of (sym count);
  none = spelled ∙ is.none;
  no_sum = total ∙ is.no_sum;
}

-- a byte 255 more of the padding length
pub padded_more : (h : Head) → IsPadded h.full h → h.full + 1 ≤ most_full
    → IsPadded (h.full + 1) (record h { full = h.full + 1 })
padded_more h is most = record {
  counted = counted_same h (record h { full = h.full + 1 }) is.counted refl refl refl refl refl refl;
  padded = is.padded;
  most = most;
}

-- the first length comes next
pub giving_first : (h : Head) → IsCounted h → h.shape.pad < 2 ^ 24 → h.shape.vbr ≡ true → 2 ≤ h.frames
    → IsGiving 0 (record h { done = 0 })
giving_first h is limit vbr more =
    let k : Head = record h { done = 0 } in
    let same : IsCounted k = counted_same h k is refl refl refl refl refl refl in
    record {
      led = led_counted k same limit;
      giving = gives_vbr k is.shape_code vbr;
      lengths = has_none k is.none is.no_sum;
      more = more;
    }
