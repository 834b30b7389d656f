-- Frames of given lengths, cut off one after another.
use Rattle.std.proofs.Common.{◌≡◌, ℕ, zero, suc, ◌-◌, ◌≤◌, List, [], ◌∷◌, ◌++◌, length, get_or, take, drop, replicate, flat_map, All, refl, sym, ap, ◌∙◌, subst, true, ◌==◌, eq-eqb, arith, length-take, length-take-le, length-drop, length-append, drop_at, sum, ◌*◌, IfSome}
use Rattle.std.proofs.lemmas.List.{length_push}
use Rattle.std.proofs.Math.Seq.{take-append_seam}
use Rattle.std.proofs.lemmas.List.Sums.{sum_by-cons}
use Rattle.opus_packet.proofs.CutLemmas.{length-cut}
use Rattle.std.specs.List.{AllByRecursion, list_all}
use Rattle.std.proofs.lemmas.Bool.{and_from}
use Rattle.opus_packet.specs.Canonical.{have_one_length}
use Rattle.std.proofs.lemmas.List.Elements.{All-head, All-tail}
use Rattle.opus_packet.specs.Value.{max_frame, IsFrame}
use Rattle.opus_packet.specs.Cut.{cut}
use Rattle.opus_packet.specs.SelfGrammar.{last_length}
use Rattle.opus_flen.specs.FrameLength.{length_bytes, length_read}
use Rattle.opus_flen.specs.declared.frame_length.LenRead.TheVariants.{Len}
use Rattle.opus_flen.proofs.LengthLemmas.{length_read-spelled, length-length_bytes}
use Rattle.opus_packet.specs.declared.lens.Before as declared
use Rattle.opus_packet.specs.declared.lens.Before.TheVariants.{Equal, Spelled, Listed}
use Rattle.opus_packet.specs.Lens.{lens_by, spelling_of, IsBefore}
use Rattle.opus_packet.specs.Spelled.{lengths_in, SpellsLengths, SplitsTo}
use Rattle.opus_packet.proofs.SpelledLemmas.{spells-lengths, SpellsLengths-from}

-- pieces of lengths that frames may have are frames
pub cut-frames : (body lens : List ℕ) → All (λ n. n ≤ max_frame) lens
    → AllByRecursion IsFrame (cut body lens)
cut-frames body [] h = tt
cut-frames body (n ∷ ns) h =
    (small, cut-frames (drop n body) ns (All-tail (λ m. m ≤ max_frame) n ns h))
  where
    small : length (take n body) ≤ max_frame
    small = omega (arith, length-take n body, All-head (λ m. m ≤ max_frame) n ns h)

-- the last of some lengths

pub last_length-push : (ns : List ℕ) (n : ℕ) → last_length (ns ++ n ∷ []) ≡ n
last_length-push [] n = refl
last_length-push (m ∷ []) n = refl
last_length-push (m ∷ k ∷ ns) n = last_length-push (k ∷ ns) n

pub last_length-replicate : (count n : ℕ) → 1 ≤ count → last_length (replicate count n) ≡ n
last_length-replicate zero n some = absurd (omega arith)
last_length-replicate (suc zero) n some = refl
last_length-replicate (suc (suc count)) n some = last_length-replicate (suc count) n (omega arith)

pub last_length-at : (ns : List ℕ) → 1 ≤ length ns → last_length ns ≡ get_or ns (length ns - 1) 0
last_length-at [] some = absurd (omega arith)
last_length-at (n ∷ []) some = refl
last_length-at (n ∷ m ∷ ns) some =
    let i : length (n ∷ m ∷ ns) - 1 ≡ suc (length (m ∷ ns) - 1) = omega arith in
    last_length-at (m ∷ ns) (omega arith) ∙ ap (λ k. get_or (n ∷ m ∷ ns) k 0) (sym i)

-- what a `Lens` keeps as its last length is it
pub last-is : (b : declared.Before) (last count : ℕ) → IsBefore b last count
    → length (lens_by b last count) ≡ count → 1 ≤ length (lens_by b last count)
    → last ≡ last_length (lens_by b last count)
last-is Equal last count before counted some =
    sym (last_length-replicate count last (omega (arith, counted)))
last-is (Spelled bytes) last zero before counted some = absurd (omega arith)
last-is (Spelled bytes) last (suc count) before counted some =
    sym (last_length-push (lengths_in count bytes.now) last)
last-is (Listed lens) last count before counted some = sym (before.1 (omega (arith, before.0)))

-- the first of lengths that are spelled
pub splits : (left : ℕ) (bytes : List ℕ) (n used : ℕ) → SpellsLengths (suc left) bytes
    → length_read bytes ≡ Len n used → SplitsTo (suc left) left bytes n (drop used bytes)
splits left bytes n used spells read = go (lengths_in (suc left) bytes) refl spells
  where
    same : {m n i j : ℕ} → Len m i ≡ Len n j → (m ≡ n) × (i ≡ j)
    same e = (cc, cc)

    go : (ns : List ℕ) → lengths_in (suc left) bytes ≡ ns → SpellsLengths (suc left) bytes
        → SplitsTo (suc left) left bytes n (drop used bytes)
    go [] are s = absurd (omega (arith, s.counted, ap length are))
    go (m ∷ ms) are s =
        let own : bytes ≡ length_bytes m ++ flat_map length_bytes ms = s.own ∙ ap (λ l. flat_map length_bytes l) are in
        let first : (m ≡ n) × (length (length_bytes m) ≡ used) = same (sym (length_read-spelled m (flat_map length_bytes ms)) ∙ ap length_read (sym own) ∙ read) in
        let rest : drop used bytes ≡ flat_map length_bytes ms = ap (λ l. drop used l) own ∙ drop_at (length_bytes m) (flat_map length_bytes ms) used first.1 in
        let each : All (λ k. k ≤ max_frame) (m ∷ ms) = subst (λ l. All (λ k. k ≤ max_frame) l) are s.each in
        let counted : length ms ≡ left = omega (arith, s.counted, ap length are) in
        let others = All-tail (λ k. k ≤ max_frame) m ms each in
        record {
          are = are ∙ ap (λ k. k ∷ ms) first.0 ∙ ap (λ l. n ∷ l) (sym (spells-lengths left (drop used bytes) ms rest counted));
          spells = SpellsLengths-from left (drop used bytes) ms rest counted others;
          small = subst (λ k. k ≤ max_frame) first.0 (All-head (λ k. k ≤ max_frame) m ms each);
        }

-- a number repeated is one number
pub one_number : (count n : ℕ) → have_one_length (replicate count n) ≡ true
one_number zero n = refl
one_number (suc count) n = all_one count
  where
    all_one : (k : ℕ) → list_all (λ m. m == n) (replicate k n) ≡ true
    all_one zero = refl
    all_one (suc k) = and_from (n == n) (list_all (λ m. m == n) (replicate k n)) (eq-eqb n n refl) (all_one k)

pub are_one : (b : declared.Before) (last count : ℕ) → b ≡ Equal → have_one_length (lens_by b last count) ≡ true
are_one b last count is = ap (λ e. have_one_length (lens_by e last count)) is ∙ one_number count last

-- frames that fill a body have few bytes
cut-sum : (body lens : List ℕ) → AllByRecursion IsFrame (cut body lens) → sum lens ≤ length body
    → sum lens ≤ length lens * max_frame
cut-sum body [] each fits = omega arith
cut-sum body (n ∷ ns) each fits =
    let whole = sum_by-cons (λ (x : ℕ). x) n ns in
    let first : length (take n body) ≡ n = length-take-le n body (omega arith) in
    let behind : length (drop n body) ≡ length body - n = length-drop n body in
    let rest = cut-sum (drop n body) ns each.1 (omega (arith, whole, behind, fits)) in
    let small : length (take n body) ≤ max_frame = each.0 in
    omega (arith, whole, first, rest, small)

pub cut-small : (body lens : List ℕ) → AllByRecursion IsFrame (cut body lens) → length (cut body lens) ≤ 48
    → sum lens ≡ length body → length body ≤ 61200
cut-small body lens each few fills =
    let some = cut-sum body lens each (omega (arith, fills)) in
    omega (arith, some, length-cut body lens, few, fills)

-- few bytes spell lengths
pub spelled_most : (ns : List ℕ) → length (flat_map length_bytes ns) ≤ 2 * length ns
spelled_most [] = omega arith
spelled_most (n ∷ ns) =
    omega (arith, length-append (length_bytes n) (flat_map length_bytes ns), (length-length_bytes n).1, spelled_most ns)

pub spelling-short : (b : declared.Before) (last count : ℕ) → IsBefore b last count → count ≤ 48
    → IfSome (spelling_of b) (λ bytes. length bytes.now ≤ 94)
spelling-short Equal last count before few = tt
spelling-short (Spelled bytes) last zero before few = omega (arith, ap length before)
spelling-short (Spelled bytes) last (suc count) before few =
    omega (arith, ap length before.own, spelled_most (lengths_in count bytes.now), before.counted)
spelling-short (Listed lens) last count before few = tt

-- bytes in which lengths lie spelled are the spelling of all but the last

pub take-push : (ns : List ℕ) (n : ℕ) → take (length (ns ++ n ∷ []) - 1) (ns ++ n ∷ []) ≡ ns
take-push ns n =
    let behind : length (ns ++ n ∷ []) - 1 ≡ length ns = omega (arith, length_push ns n) in
    ap (λ k. take k (ns ++ n ∷ [])) behind ∙ take-append_seam ns (n ∷ [])

pub spelling-own : (b : declared.Before) (last count : ℕ) → IsBefore b last count
    → 1 ≤ length (lens_by b last count)
    → IfSome (spelling_of b) (λ bytes. bytes.now ≡ flat_map length_bytes (take (length (lens_by b last count) - 1) (lens_by b last count)))
spelling-own Equal last count before some = tt
spelling-own (Spelled bytes) last zero before some = absurd (omega arith)
spelling-own (Spelled bytes) last (suc count) before some =
    before.own ∙ ap (λ ns. flat_map length_bytes ns) (sym (take-push (lengths_in count bytes.now) last))
spelling-own (Listed lens) last count before some = tt
