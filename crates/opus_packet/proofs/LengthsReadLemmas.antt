-- Reading several frame lengths, one after another: what is read is spelled so, and what is spelled so is read.
use Rattle.std.proofs.Common.{◌≡◌, ℕ, zero, suc, ◌+◌, ◌≤◌, List, [], ◌∷◌, ◌++◌, length, drop, replicate, flat_map, Option, Some, None, option_map, refl, sym, ap, ◌∙◌, subst, append_assoc, length-append, take_all, drop_at, arith}
use Rattle.std.proofs.lemmas.List.{length-replicate}
use Rattle.std.specs.List.{AllByRecursion}
use Rattle.opus_flen.specs.FrameLength.{length_bytes, length_read}
use Rattle.opus_flen.specs.declared.frame_length.LenRead.{LenRead}
use Rattle.opus_flen.specs.declared.frame_length.LenRead.TheVariants.{Len, Cut}
use Rattle.opus_flen.proofs.LengthLemmas.{length_read-spelled, length_read-sound, length_read-split, length_read-completed}
use Rattle.opus_packet.specs.Value.{max_frame}
use Rattle.opus_packet.specs.HeaderRead.{lengths_after, lengths_read}
use Rattle.opus_packet.specs.PacketPrefix.{AreBytes}
use Rattle.opus_packet.proofs.BytesLemmas.{AreBytes-at, AreBytes-append, AreBytes-drop, AreBytes-zeros}

abbrev pub AreLengths : List ℕ → Type 0
AreLengths ns = AllByRecursion (λ n. n ≤ max_frame) ns

option_map-some : (f : List ℕ → List ℕ) (o : Option (List ℕ)) (ns : List ℕ)
    → option_map f o ≡ Some ns → (ms : List ℕ) × (o ≡ Some ms) × (ns ≡ f ms)
option_map-some f None ns e = cc
option_map-some f (Some ms) ns e = (ms, refl, cc)

-- the first of several lengths, and the others
pub lengths_read-some : (count : ℕ) (bs ns : List ℕ) → lengths_read (suc count) bs ≡ Some ns
    → (n : ℕ) × (used : ℕ) × (ms : List ℕ) × (length_read bs ≡ Len n used)
    × (lengths_read count (drop used bs) ≡ Some ms) × (ns ≡ n ∷ ms)
lengths_read-some count bs ns e = go (length_read bs) refl e
  where
    go : (r : LenRead) → length_read bs ≡ r
        → lengths_after r (λ used. lengths_read count (drop used bs)) ≡ Some ns
        → (n : ℕ) × (used : ℕ) × (ms : List ℕ) × (length_read bs ≡ Len n used)
        × (lengths_read count (drop used bs) ≡ Some ms) × (ns ≡ n ∷ ms)
    go (Len n used) read e =
        let rest = option_map-some (λ ms. n ∷ ms) (lengths_read count (drop used bs)) ns e in
        (n, used, rest.0, read, rest.1, rest.2)
    go Cut read e = cc

pub lengths_read-cons : (count : ℕ) (bs : List ℕ) (n used : ℕ) (ms : List ℕ)
    → length_read bs ≡ Len n used → lengths_read count (drop used bs) ≡ Some ms
    → lengths_read (suc count) bs ≡ Some (n ∷ ms)
lengths_read-cons count bs n used ms first others = rw (first, others)

-- what lengths spell is read
pub lengths_read-spelled : (ns rest : List ℕ)
    → lengths_read (length ns) (flat_map length_bytes ns ++ rest) ≡ Some ns
lengths_read-spelled [] rest = refl
lengths_read-spelled (n ∷ ns) rest =
    let front : (length_bytes n ++ flat_map length_bytes ns) ++ rest
    ≡ length_bytes n ++ (flat_map length_bytes ns ++ rest) =
    append_assoc (length_bytes n) (flat_map length_bytes ns) rest in
    let after : drop (length (length_bytes n)) (length_bytes n ++ (flat_map length_bytes ns ++ rest))
    ≡ flat_map length_bytes ns ++ rest =
    drop_at (length_bytes n) (flat_map length_bytes ns ++ rest) (length (length_bytes n)) refl in
    ap (lengths_read (suc (length ns))) front
    ∙ lengths_read-cons (length ns) (length_bytes n ++ (flat_map length_bytes ns ++ rest))
    n (length (length_bytes n)) ns
    (length_read-spelled n (flat_map length_bytes ns ++ rest))
    (ap (lengths_read (length ns)) after ∙ lengths_read-spelled ns rest)

-- lengths that were read stand at the front, as their one spelling
pub record BeginsWithLengths (count : ℕ) (bs ns : List ℕ) : Type 0 where
  pub counted : length ns ≡ count
  pub are_lengths : AreLengths ns
  pub rest : List ℕ
  pub spelled : bs ≡ flat_map length_bytes ns ++ rest

pub lengths_read-sound : (count : ℕ) (bs ns : List ℕ) → AreBytes bs
    → lengths_read count bs ≡ Some ns → BeginsWithLengths count bs ns
lengths_read-sound zero bs ns bytes e =
    let none : ns ≡ [] = cc in
    subst (λ l. BeginsWithLengths 0 bs l) (sym none)
    (record { counted = refl; are_lengths = tt; rest = bs; spelled = refl })
lengths_read-sound (suc count) bs ns bytes e =
    let (n, used, ms, first, others, ns_are) = lengths_read-some count bs ns e in
    let found = length_read-sound bs n used (AreBytes-at bs bytes) first in
    let split = length_read-split bs n used (AreBytes-at bs bytes) first in
    let tail = lengths_read-sound count (drop used bs) ms (AreBytes-drop used bs bytes) others in
    subst (λ l. BeginsWithLengths (suc count) bs l) (sym ns_are)
    (record {
      counted = ap suc tail.counted;
      are_lengths = (found.0.fits, tail.are_lengths);
      rest = tail.rest;
      spelled = split ∙ ap (λ l. length_bytes n ++ l) tail.spelled
          ∙ sym (append_assoc (length_bytes n) (flat_map length_bytes ms) tail.rest);
    })

option_map-none : (f : List ℕ → List ℕ) (o : Option (List ℕ)) → option_map f o ≡ None → o ≡ None
option_map-none f None e = refl
option_map-none f (Some ms) e = cc

pub length_bytes-zeros : (count : ℕ) → flat_map length_bytes (replicate count 0) ≡ replicate count 0
length_bytes-zeros zero = refl
length_bytes-zeros (suc count) = ap (λ l. 0 ∷ l) (length_bytes-zeros count)

pub AreLengths-replicate : (count n : ℕ) → n ≤ max_frame → AreLengths (replicate count n)
AreLengths-replicate zero n fits = tt
AreLengths-replicate (suc count) n fits = (fits, AreLengths-replicate count n fits)

-- some bytes make whole lengths of a part of them
pub record CompletesLengths (count : ℕ) (bs : List ℕ) : Type 0 where
  pub more : List ℕ
  pub bytes : AreBytes more
  pub lengths : List ℕ
  pub counted : length lengths ≡ count
  pub are_lengths : AreLengths lengths
  pub spelled : bs ++ more ≡ flat_map length_bytes lengths

-- a cut length is completed by a byte 0, which ends it
cut_completed : (bs : List ℕ) → AreBytes bs → length_read bs ≡ Cut
    → (n : ℕ) × (n ≤ max_frame) × (bs ++ 0 ∷ [] ≡ length_bytes n)
cut_completed bs bytes cut =
    let (n, fits, read) = length_read-completed bs (AreBytes-at bs bytes) cut in
    let longer : AreBytes (bs ++ 0 ∷ []) = AreBytes-append bs (0 ∷ []) bytes (omega arith, tt) in
    let found = length_read-sound (bs ++ 0 ∷ []) n (length bs + 1) (AreBytes-at (bs ++ 0 ∷ []) longer) read in
    let size = length-append bs (0 ∷ []) in
    (n, fits, sym (take_all (length bs + 1) (bs ++ 0 ∷ []) (omega arith)) ∙ found.0.spelled)

pub lengths_read-completed : (count : ℕ) (bs : List ℕ) → AreBytes bs
    → lengths_read count bs ≡ None → CompletesLengths count bs
lengths_read-completed zero bs bytes e = cc
lengths_read-completed (suc count) bs bytes e =
    go (length_read bs) refl e
    (λ used none. lengths_read-completed count (drop used bs) (AreBytes-drop used bs bytes) none)
  where
    go : (r : LenRead) → length_read bs ≡ r
        → lengths_after r (λ used. lengths_read count (drop used bs)) ≡ None
        → ((used : ℕ) → lengths_read count (drop used bs) ≡ None → CompletesLengths count (drop used bs))
        → CompletesLengths (suc count) bs
    go (Len n used) read e others =
        let rest = others used (option_map-none (λ ms. n ∷ ms) (lengths_read count (drop used bs)) e) in
        let found = length_read-sound bs n used (AreBytes-at bs bytes) read in
        let split = length_read-split bs n used (AreBytes-at bs bytes) read in
        record {
          more = rest.more;
          bytes = rest.bytes;
          lengths = n ∷ rest.lengths;
          counted = ap suc rest.counted;
          are_lengths = (found.0.fits, rest.are_lengths);
          spelled = ap (λ l. l ++ rest.more) split
              ∙ append_assoc (length_bytes n) (drop used bs) rest.more
              ∙ ap (λ l. length_bytes n ++ l) rest.spelled;
        }
    go Cut read e others =
        let (n, fits, whole) = cut_completed bs bytes read in
        record {
          more = 0 ∷ replicate count 0;
          bytes = (omega arith, AreBytes-zeros count);
          lengths = n ∷ replicate count 0;
          counted = ap suc (length-replicate count 0);
          are_lengths = (fits, AreLengths-replicate count 0 (omega arith));
          spelled = sym (append_assoc bs (0 ∷ []) (replicate count 0))
              ∙ ap (λ l. l ++ replicate count 0) whole
              ∙ ap (λ l. length_bytes n ++ l) (sym (length_bytes-zeros count));
        }
