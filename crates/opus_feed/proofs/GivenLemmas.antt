-- Lengths that a header gives, taken one after another.
use Rattle.std.proofs.Common.{◌≡◌, ℕ, ◌+◌, ◌-◌, ◌*◌, ◌/◌, ◌%◌, ◌<◌, ◌≤◌, List, [], ◌∷◌, ◌++◌, length, take, sum, set, refl, sym, ap, ◌∙◌, subst, arith, append_assoc}
use Rattle.std.specs.List.{flat_map}
use Rattle.std.proofs.lemmas.List.{append-nil, length_push, take_more_set}
use Rattle.std.proofs.Math.ListN.{length-set}
use Rattle.std.proofs.lemmas.List.Concat.{flat_map-append}
use Rattle.std.proofs.lemmas.List.Elements.{All-push, All-nil}
use Rattle.opus_flen.specs.FrameLength.{length_bytes}
use Rattle.opus_flen.proofs.LengthLemmas.{length_bytes-short, length_bytes-long}
use Rattle.opus_packet.specs.Value.{max_frame}
use Rattle.opus_packet.proofs.CutLemmas.{sum-push}
use Rattle.opus_packet.specs.Spelled.{lengths_in, SpellsLengths}
use Rattle.opus_packet.proofs.SpelledLemmas.{spells-lengths, SpellsLengths-from}
use Rattle.opus_feed.specs.Heads.{spelled_in, HasLengths}
use Rattle.opus_feed.specs.declared.head.Head.{Head}

-- a length more
pub record SpellsMore (done : ℕ) (bytes : List ℕ) (n : ℕ) : Type 0 where
  pub spells : SpellsLengths (done + 1) (bytes ++ length_bytes n)
  pub lengths_are : lengths_in (done + 1) (bytes ++ length_bytes n) ≡ lengths_in done bytes ++ n ∷ []

pub spells_more : (done : ℕ) (bytes : List ℕ) (n : ℕ) → SpellsLengths done bytes → n ≤ max_frame
    → SpellsMore done bytes n
spells_more done bytes n s fits =
    let ns = lengths_in done bytes in
    let own : bytes ++ length_bytes n ≡ flat_map length_bytes (ns ++ n ∷ []) =
    ap (λ bs. bs ++ length_bytes n) s.own
    ∙ ap (λ bs. flat_map length_bytes ns ++ bs) (sym (append-nil (length_bytes n)))
    ∙ sym (flat_map-append length_bytes ns (n ∷ [])) in
    let counted : length (ns ++ n ∷ []) ≡ done + 1 = length_push ns n ∙ ap (λ k. k + 1) s.counted in
    record {
      spells = SpellsLengths-from (done + 1) (bytes ++ length_bytes n) (ns ++ n ∷ []) own counted
          (All-push (λ m. m ≤ max_frame) ns n s.each fits);
      lengths_are = spells-lengths (done + 1) (bytes ++ length_bytes n) (ns ++ n ∷ []) own counted;
    }

pub has_more : (h k : Head) (done n : ℕ) → HasLengths done h → n ≤ max_frame
    → spelled_in k ≡ spelled_in h ++ length_bytes n → k.sum ≡ h.sum + n → k.spelled ≤ h.spelled + 2
    → HasLengths (done + 1) k
has_more h k done n has fits spelled total used =
    let more = spells_more done (spelled_in h) n has.spells fits in
    let short = has.short in
    let low = has.low in
    record {
      spells = subst (SpellsLengths (done + 1)) (sym spelled) more.spells;
      sum_is = total ∙ ap (λ s. s + n) has.sum_is ∙ sym (sum-push (lengths_in done (spelled_in h)) n)
          ∙ ap (λ (l : List ℕ). sum l) (sym (ap (λ bs. lengths_in (done + 1) bs) spelled ∙ more.lengths_are));
      short = omega arith;
      low = omega arith;
    }

pub has_none : (h : Head) → h.spelled ≡ 0 → h.sum ≡ 0 → HasLengths 0 h
has_none h none no_sum =
    let empty : spelled_in h ≡ [] = ap (λ n. take n h.lengths) none in
    record {
      spells = SpellsLengths-from 0 (spelled_in h) [] empty refl (All-nil (λ n. n ≤ max_frame));
      sum_is = no_sum;
      short = omega arith;
      low = omega arith;
    }

-- a length of one byte
pub short_set : (bytes : List ℕ) (at byte : ℕ) → at < length bytes → byte < 252
    → take (at + 1) (set bytes at byte) ≡ take at bytes ++ length_bytes byte
short_set bytes at byte within below =
    take_more_set bytes at byte within ∙ ap (λ bs. take at bytes ++ bs) (sym (length_bytes-short byte below))

-- the two bytes of a long length
pub long_bytes : (low byte : ℕ) → 252 ≤ low → low < 256
    → length_bytes (4 * byte + low) ≡ low ∷ byte ∷ []
long_bytes low byte above below =
    let first : 252 + (4 * byte + low) % 4 ≡ low = omega arith in
    let second : (4 * byte + low - low) / 4 ≡ byte = omega arith in
    length_bytes-long (4 * byte + low) (omega arith)
    ∙ ap (λ n. n ∷ ((4 * byte + low - n) / 4) ∷ []) first ∙ ap (λ n. low ∷ n ∷ []) second

pub long_set : (bytes : List ℕ) (at low byte : ℕ) → at + 1 < length bytes → 252 ≤ low → low < 256
    → take (at + 2) (set (set bytes at low) (at + 1) byte) ≡ take at bytes ++ length_bytes (4 * byte + low)
long_set bytes at low byte within above below =
    let sized = length-set bytes at low in
    let two : at + 2 ≡ at + 1 + 1 = omega arith in
    ap (λ n. take n (set (set bytes at low) (at + 1) byte)) two
    ∙ take_more_set (set bytes at low) (at + 1) byte (omega arith)
    ∙ ap (λ bs. bs ++ byte ∷ []) (take_more_set bytes at low (omega arith))
    ∙ append_assoc (take at bytes) (low ∷ []) (byte ∷ [])
    ∙ ap (λ bs. take at bytes ++ bs) (sym (long_bytes low byte above below))
