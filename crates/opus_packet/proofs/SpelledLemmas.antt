-- Several lengths, read one after another.
use Rattle.std.proofs.Common.{◌≡◌, ℕ, suc, ◌+◌, ◌-◌, ◌*◌, ◌<◌, ◌≤◌, List, [], ◌∷◌, ◌++◌, length, take, drop, sum, All, Option, Some, None, option_map, refl, sym, ap, ◌∙◌, subst, arith, append_assoc, length-append, length-take, length-take-le, length-drop}
use Rattle.std.proofs.Math.Seq.{take-add}
use Rattle.std.specs.List.{flat_map}
use Rattle.std.proofs.lemmas.List.{drop-drop, length_push, append-nil}
use Rattle.std.proofs.lemmas.List.Elements.{All-push, All-nil}
use Rattle.std.proofs.lemmas.List.Concat.{flat_map-append}
use Rattle.std.proofs.lemmas.List.Sums.{sum_by_push}
use Rattle.opus_flen.specs.FrameLength.{length_bytes, length_read, BeginsWithLength}
use Rattle.opus_flen.specs.declared.frame_length.LenRead.TheVariants.{Len, Cut}
use Rattle.opus_flen.proofs.LengthLemmas.{length-length_bytes}
use Rattle.opus_packet.specs.declared.spelled.Spelled.{Spelled}
use Rattle.opus_packet.specs.Value.{max_frame}
use Rattle.opus_packet.specs.HeaderRead.{lengths_read, lengths_after}
use Rattle.opus_packet.specs.Spelled.{list_or_none, lengths_in, lengths_of, SpellsLengths, AreLengths}
use Rattle.opus_packet.proofs.LengthsReadLemmas.{lengths_read-spelled}

-- lengths, of which i were read
pub record LengthsSoFar (count : ℕ) (bytes : List ℕ) (i : ℕ) (items : List ℕ) (total used : ℕ) : Type 0 where
  pub rest : lengths_read count bytes ≡ option_map (λ ns. items ++ ns) (lengths_read (count - i) (drop used bytes))
  pub sum_is : total ≡ sum items
  pub used_is : used ≡ length (flat_map length_bytes items)
  pub taken : take used bytes ≡ flat_map length_bytes items
  pub within : used ≤ length bytes
  pub small : used ≤ 2 * i
  pub low : total ≤ max_frame * i
  pub each : All (λ n. n ≤ max_frame) items
  pub counted : length items ≡ i

map-nothing : (o : Option (List ℕ)) → o ≡ option_map (λ ns. [] ++ ns) o
map-nothing None = refl
map-nothing (Some ns) = refl

all_left : (count : ℕ) → count - 0 ≡ count
all_left count = omega arith

none_left : (count : ℕ) → count - count ≡ 0
none_left count = omega arith

pub LengthsSoFar-none : (count : ℕ) (bytes : List ℕ) → LengthsSoFar count bytes 0 [] 0 0
LengthsSoFar-none count bytes = record {
  rest = map-nothing (lengths_read count bytes) ∙ ap (λ k. option_map (λ ns. [] ++ ns) (lengths_read k bytes)) (sym (all_left count));
  sum_is = refl;
  used_is = refl;
  taken = refl;
  within = omega arith;
  small = omega arith;
  low = omega arith;
  each = All-nil (λ n. n ≤ max_frame);
  counted = refl;
}

map-moved : (items : List ℕ) (n : ℕ) (o : Option (List ℕ))
    → option_map (λ ns. items ++ ns) (option_map (λ ns. n ∷ ns) o) ≡ option_map (λ ns. (items ++ n ∷ []) ++ ns) o
map-moved items n None = refl
map-moved items n (Some ns) = ap (λ xs. Some xs) (sym (append_assoc items (n ∷ []) ns))

one_read : (k n u : ℕ) (bytes : List ℕ) → length_read bytes ≡ Len n u
    → lengths_read (suc k) bytes ≡ option_map (λ ns. n ∷ ns) (lengths_read k (drop u bytes))
one_read k n u bytes is = ap (λ r. lengths_after r (λ used. lengths_read k (drop used bytes))) is

none_read : (k : ℕ) (bytes : List ℕ) → length_read bytes ≡ Cut → lengths_read (suc k) bytes ≡ None
none_read k bytes is = ap (λ r. lengths_after r (λ used. lengths_read k (drop used bytes))) is

one_left : (count i : ℕ) → i < count → count - i ≡ suc (count - (i + 1))
one_left count i lt = omega arith

within_rest : (bytes : List ℕ) (n u : ℕ) → BeginsWithLength bytes n u → (size : ℕ) → length bytes ≡ size
    → u ≤ size
within_rest bytes n u b size is =
    let same : length (take u bytes) ≡ u = ap length b.spelled ∙ sym b.counted in
    omega (arith, length-take u bytes, same, is)

more_used : (items : List ℕ) (n used u : ℕ) → used ≡ length (flat_map length_bytes items)
    → u ≡ length (length_bytes n) → used + u ≡ length (flat_map length_bytes (items ++ n ∷ []))
more_used items n used u before more =
    let joined = flat_map-append length_bytes items (n ∷ []) in
    rw joined (omega (arith, length-append (flat_map length_bytes items) (length_bytes n ++ []), length-append (length_bytes n) [], before, more))

more_spelled : (items : List ℕ) (n : ℕ)
    → flat_map length_bytes items ++ length_bytes n ≡ flat_map length_bytes (items ++ n ∷ [])
more_spelled items n =
    sym (flat_map-append length_bytes items (n ∷ []) ∙ ap (λ l. flat_map length_bytes items ++ l) (append-nil (length_bytes n)))

pub LengthsSoFar-more : (count : ℕ) (bytes : List ℕ) (i : ℕ) (items : List ℕ) (total used n u : ℕ)
    → i < count → LengthsSoFar count bytes i items total used → length_read (drop used bytes) ≡ Len n u
    → BeginsWithLength (drop used bytes) n u
    → LengthsSoFar count bytes (i + 1) (items ++ n ∷ []) (total + n) (used + u)
LengthsSoFar-more count bytes i items total used n u lt s is b =
    let room : u ≤ length bytes - used = within_rest (drop used bytes) n u b (length bytes - used) (length-drop used bytes) in
    record {
      rest = s.rest ∙ ap (λ o. option_map (λ ns. items ++ ns) o) (ap (λ k. lengths_read k (drop used bytes)) (one_left count i lt) ∙ one_read (count - (i + 1)) n u (drop used bytes) is) ∙ map-moved items n (lengths_read (count - (i + 1)) (drop u (drop used bytes))) ∙ ap (λ xs. option_map (λ ns. (items ++ n ∷ []) ++ ns) (lengths_read (count - (i + 1)) xs)) (drop-drop u used bytes);
      sum_is = sym (sum_by_push (λ (x : ℕ). x) items n ∙ ap (λ m. m + n) (sym s.sum_is));
      used_is = more_used items n used u s.used_is b.counted;
      taken = take-add used u bytes ∙ ap (λ l. l ++ take u (drop used bytes)) s.taken ∙ ap (λ l. flat_map length_bytes items ++ l) b.spelled ∙ more_spelled items n;
      within = omega arith;
      small = omega (arith, s.small, b.counted, (length-length_bytes n).1);
      low = omega (arith, s.low, b.fits);
      each = All-push (λ m. m ≤ max_frame) items n s.each b.fits;
      counted = rw length_push (ap (λ k. k + 1) s.counted);
    }

pub LengthsSoFar-cut : (count : ℕ) (bytes : List ℕ) (i : ℕ) (items : List ℕ) (total used : ℕ)
    → i < count → LengthsSoFar count bytes i items total used → length_read (drop used bytes) ≡ Cut
    → lengths_read count bytes ≡ None
LengthsSoFar-cut count bytes i items total used lt s is =
    s.rest
    ∙ ap (λ o. option_map (λ ns. items ++ ns) o) (ap (λ k. lengths_read k (drop used bytes)) (one_left count i lt) ∙ none_read (count - (i + 1)) (drop used bytes) is)

-- lengths that some bytes spell, and nothing else
pub spells-lengths : (count : ℕ) (bytes items : List ℕ) → bytes ≡ flat_map length_bytes items
    → length items ≡ count → lengths_in count bytes ≡ items
spells-lengths count bytes items own counted =
    ap (λ k. list_or_none (lengths_read k bytes)) (sym counted)
    ∙ ap (λ bs. list_or_none (lengths_read (length items) bs)) (own ∙ sym (append-nil (flat_map length_bytes items)))
    ∙ ap list_or_none (lengths_read-spelled items [])

pub SpellsLengths-from : (count : ℕ) (bytes items : List ℕ) → bytes ≡ flat_map length_bytes items
    → length items ≡ count → All (λ n. n ≤ max_frame) items → SpellsLengths count bytes
SpellsLengths-from count bytes items own counted each =
    let same = spells-lengths count bytes items own counted in
    record {
      own = own ∙ ap (λ ns. flat_map length_bytes ns) (sym same);
      counted = ap length same ∙ counted;
      each = subst (λ ns. All (λ n. n ≤ max_frame) ns) (sym same) each;
    }

pub LengthsSoFar-all : (count : ℕ) (bytes items : List ℕ) (s : Spelled) (used : ℕ) → count ≤ 47
    → LengthsSoFar count bytes count items s.sum used → s.count ≡ count → s.bytes.now ≡ take used bytes
    → AreLengths count bytes s
LengthsSoFar-all count bytes items s used few so counted lies =
    let own : s.bytes.now ≡ flat_map length_bytes items = lies ∙ so.taken in
    let same : lengths_of s ≡ items = spells-lengths s.count s.bytes.now items own (so.counted ∙ sym counted) in
    let size : length s.bytes.now ≡ used = ap length lies ∙ length-take-le used bytes so.within in
    record {
      given = record {
        spells = SpellsLengths-from s.count s.bytes.now items own (so.counted ∙ sym counted) so.each;
        sum_is = so.sum_is ∙ ap sum (sym same);
        most = omega (arith, counted, few);
        low = omega (arith, so.low, few);
        short = omega (arith, size, so.small, counted);
      };
      counted = counted;
      read = so.rest ∙ ap (λ k. option_map (λ ns. items ++ ns) (lengths_read k (drop used bytes))) (none_left count) ∙ ap (λ xs. Some xs) (append-nil items ∙ sym same);
      within = omega (arith, size, so.within);
      front = lies ∙ ap (λ k. take k bytes) (sym size);
    }
