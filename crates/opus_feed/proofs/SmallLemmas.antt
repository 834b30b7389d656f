-- A header is short.
use Rattle.std.proofs.Common.{◌≡◌, ℕ, ◌+◌, ◌-◌, ◌*◌, ◌^◌, ◌<◌, ◌≤◌, Bool, true, false, ◌==◌, List, [], ◌∷◌, ◌++◌, length, nat_lt, refl, ap, arith, length-append}
use Rattle.std.proofs.lemmas.List.{length-replicate, length-take}
use Rattle.opus_flen.specs.FrameLength.{length_bytes}
use Rattle.opus_flen.specs.PaddingLength.{padding_bytes, most_full}
use Rattle.opus_flen.proofs.LengthLemmas.{length-length_bytes}
use Rattle.opus_flen.proofs.PaddingLemmas.{length-padding_bytes, most_full-is}
use Rattle.opus_packet.specs.declared.shape.Shape.{Shape}
use Rattle.opus_packet.specs.Header.{padding_length, count_byte, count_and_padding}
use Rattle.opus_feed.specs.Heads.{IsSound, IsSized, IsLed, given_count, gives, spelling, spelled_in, lead}
use Rattle.opus_feed.specs.declared.framing.Framing.{Framing}
use Rattle.opus_feed.specs.declared.framing.Framing.TheVariants.{Whole, SelfDelimited}
use Rattle.opus_feed.specs.declared.stage.Stage.{Stage}
use Rattle.opus_feed.specs.declared.stage.Stage.TheVariants.{Toc, Count, PadLength, Length, LengthEnd, Last, LastEnd, Ready, BadCount, BadPadding}
use Rattle.opus_feed.specs.declared.head.Head.{Head}

padding_small : (pad : ℕ) (b : Bool) → nat_lt 0 pad ≡ b → pad < 2 ^ 24 → length (padding_length pad) ≤ 65793
padding_small pad true some limit =
    let size = length-padding_bytes pad in
    let same : padding_length pad ≡ padding_bytes pad = rw some in
    let sized = ap (λ (l : List ℕ). length l) same in
    omega arith
padding_small pad false some limit =
    let same : padding_length pad ≡ [] = rw some in
    let sized = ap (λ (l : List ℕ). length l) same in
    omega arith

count_small : (shape : Shape) (frames : ℕ) (b : Bool) → (shape.code == 3) ≡ b → shape.pad < 2 ^ 24
    → length (count_and_padding shape frames) ≤ 65794
count_small shape frames true three limit =
    let small = padding_small shape.pad (nat_lt 0 shape.pad) refl limit in
    let same : count_and_padding shape frames ≡ count_byte shape frames ∷ padding_length shape.pad = rw three in
    let sized = ap (λ (l : List ℕ). length l) same in
    omega arith
count_small shape frames false three limit =
    let same : count_and_padding shape frames ≡ [] = rw three in
    let sized = ap (λ (l : List ℕ). length l) same in
    omega arith

lead_small : (h : Head) → IsLed h → length (lead h) ≤ 65795
lead_small h led =
    let small = count_small h.shape h.frames (h.shape.code == 3) refl led.pad in
    omega arith

spelled_small : (h : Head) → length (spelled_in h) ≤ h.spelled
spelled_small h = let size = length-take h.spelled h.lengths in omega arith

given_small : (h : Head) (g : Bool) → gives h.shape ≡ g → h.frames ≤ 48 → given_count h ≤ 47
given_small h true giving most = let same : given_count h ≡ h.frames - 1 = rw giving in omega arith
given_small h false giving most = let same : given_count h ≡ 0 = rw giving in omega arith

sized_small : (h : Head) → IsSized h → length (lead h) + length (spelled_in h) ≤ 65889
sized_small h sized =
    let first = lead_small h sized.led in
    let second = spelled_small h in
    let most = sized.led.most in
    let short = sized.lengths.short in
    let few = given_small h (gives h.shape) refl most in
    omega arith

ready_small : (framing : Framing) (h : Head) → IsSized h → length (spelling framing Ready h) ≤ 65891
ready_small Whole h sized =
    let small = sized_small h sized in
    let joined = length-append (lead h) (spelled_in h) in
    omega arith
ready_small SelfDelimited h sized =
    let small = sized_small h sized in
    let joined = length-append (lead h) (spelled_in h ++ length_bytes h.last) in
    let behind = length-append (spelled_in h) (length_bytes h.last) in
    let last = (length-length_bytes h.last).1 in
    omega arith

giving_small : (h : Head) (done : ℕ) → IsLed h → h.spelled ≤ 2 * done → done + 2 ≤ h.frames
    → length (lead h ++ spelled_in h) ≤ 65887
giving_small h done led short more =
    let first = lead_small h led in
    let second = spelled_small h in
    let most = led.most in
    let joined = length-append (lead h) (spelled_in h) in
    omega arith

pub sound_small : (framing : Framing) (stage : Stage) (h : Head) → IsSound framing stage h
    → length (spelling framing stage h) ≤ 65891
sound_small framing Toc h sound = omega arith
sound_small framing Count h sound = omega arith
sound_small framing PadLength h sound =
    let size = length-replicate {A = ℕ} h.full 255 in
    let most = sound.most in
    omega (arith, most_full-is)
sound_small framing Length h sound =
    let small = giving_small h h.done sound.led sound.lengths.short sound.more in
    omega arith
sound_small framing LengthEnd h sound =
    let small = giving_small h h.done sound.0.led sound.0.lengths.short sound.0.more in
    let joined = length-append (lead h ++ spelled_in h) (h.low ∷ []) in
    omega arith
sound_small framing Last h sound =
    let small = sized_small h sound.0 in
    let joined = length-append (lead h) (spelled_in h) in
    omega arith
sound_small framing LastEnd h sound =
    let small = sized_small h sound.0 in
    let joined = length-append (lead h) (spelled_in h) in
    let last = length-append (lead h ++ spelled_in h) (h.low ∷ []) in
    omega arith
sound_small framing Ready h sound = ready_small framing h sound.0
sound_small framing BadCount h sound = omega arith
sound_small framing BadPadding h sound =
    let size = length-replicate {A = ℕ} (most_full + 1) 255 in
    omega (arith, most_full-is)
