-- The most bytes that a canonical form has.
use Rattle.std.proofs.Common.{◌≡◌, ℕ, ◌+◌, ◌*◌, ◌≤◌, Bool, true, false, ◌==◌, if◌then◌else◌, List, [], ◌∷◌, length, map, flat_map, sum, All, refl, ap, length-append, ◌⊎◌, inl, inr, ⊎_elim, arith}
use Rattle.std.specs.List.{concat, list_all}
use Rattle.std.proofs.lemmas.Bool.{and_parts, eqb-false, cases_Bool}
use Rattle.std.proofs.lemmas.List.Elements.{All-head, All-tail}
use Rattle.std.proofs.lemmas.List.Sums.{sum_by-le}
use Rattle.opus_flen.specs.FrameLength.{length_bytes}
use Rattle.opus_packet.specs.Value.{PacketValue, max_frame}
use Rattle.opus_packet.specs.Header.{given_lengths, padding_length, count_and_padding, frame_count, header_bytes}
use Rattle.opus_packet.specs.PacketGrammar.{sizes_for, header_in}
use Rattle.opus_packet.specs.Canonical.{have_one_length, canonical_shape, canonical}
use Rattle.opus_packet.proofs.CanonicalLemmas.{canonical_shape-pad, canonical-is}
use Rattle.opus_packet.proofs.CutLemmas.{sum-cons, length-concat}
use Rattle.opus_packet.proofs.Made.{length-header_bytes}
use Rattle.opus_packet.proofs.LensLemmas.{spelled_most}
use Rattle.opus_writer.specs.Forms.{canonical_header}
use Rattle.opus_writer.proofs.HeaderLemmas.{length-given_lengths}

sum_most : (ns : List ℕ) → All (λ n. n ≤ max_frame) ns → sum ns ≤ max_frame * length ns
sum_most ns each = let most = sum_by-le (λ (n : ℕ). n) max_frame ns each in omega arith

-- where two lengths differ, one is below the most
sum_unequal : (n : ℕ) (ns : List ℕ) → n ≤ max_frame → All (λ m. m ≤ max_frame) ns
    → list_all (λ m. m == n) ns ≡ false → n + sum ns + 1 ≤ max_frame * (1 + length ns)
sum_unequal n [] fits each other = cc
sum_unequal n (m ∷ ms) fits each other =
    let first : m ≤ max_frame = All-head (λ k. k ≤ max_frame) m ms each in
    let rest = All-tail (λ k. k ≤ max_frame) m ms each in
    let whole = sum-cons m ms in
    let most = sum_most ms rest in
    ⊎_elim
    (λ same. let others = sum_unequal n ms fits rest (rw same at other) in omega arith)
    (λ differ. let apart : m ≡ n → ⊥ = eqb-false m n differ in omega arith)
    (cases_Bool (m == n))

sum_of_unequal : (ns : List ℕ) → All (λ n. n ≤ max_frame) ns → have_one_length ns ≡ false
    → sum ns + 1 ≤ max_frame * length ns
sum_of_unequal [] each other = cc
sum_of_unequal (n ∷ ns) each other =
    let whole = sum-cons n ns in
    let below = sum_unequal n ns (All-head (λ k. k ≤ max_frame) n ns each)
    (All-tail (λ k. k ≤ max_frame) n ns each) other in
    omega arith

-- equal lengths don't stand in the header
none_given : (ns : List ℕ) → have_one_length ns ≡ true
    → given_lengths (sizes_for (canonical_shape ns) ns) ≡ []
none_given [] same = refl
none_given (n ∷ []) same = refl
none_given (n ∷ m ∷ []) same = let equal = (and_parts (m == n) true same).0 in rw equal refl
none_given (n ∷ m ∷ k ∷ ns) same = rw same refl

front_most : (b : Bool) (byte pad : ℕ) → pad ≡ 0
    → length (if b then byte ∷ padding_length pad else []) ≤ 1
front_most true byte pad plain = rw plain (omega arith)
front_most false byte pad plain = omega arith

bytes_most : (ns : List ℕ) (front spelled count total : ℕ) → front ≤ 1 → count + 1 ≤ length ns
    → length ns ≤ 48 → spelled ≤ 2 * count → total ≤ max_frame * length ns
    → (spelled ≡ 0) ⊎ (total + 1 ≤ max_frame * length ns) → 1 + front + spelled + total ≤ 61295
bytes_most ns front spelled count total f few most s t either =
    ⊎_elim (λ none. omega arith) (λ below. omega arith) either

pub header_in-most : (config : ℕ) (stereo : Bool) (ns : List ℕ) → 1 ≤ length ns → length ns ≤ 48
    → All (λ n. n ≤ max_frame) ns
    → length (header_bytes (header_in config stereo (canonical_shape ns) ns)) + sum ns ≤ 61295
header_in-most config stereo ns some most each =
    let shape = canonical_shape ns in
    let h = header_in config stereo shape ns in
    let lengths = given_lengths (sizes_for shape ns) in
    let front : length (count_and_padding shape (frame_count h.sizes)) ≤ 1 =
    front_most (shape.code == 3) _ shape.pad (canonical_shape-pad ns) in
    let few = length-given_lengths shape ns some in
    let spelled = spelled_most lengths in
    let total = sum_most ns each in
    let size = length-header_bytes h in
    let either : (length (flat_map length_bytes lengths) ≡ 0) ⊎ (sum ns + 1 ≤ max_frame * length ns) =
    ⊎_elim
    (λ same. inl (ap (λ l. length (flat_map length_bytes l)) (none_given ns same)))
    (λ differ. inr (sum_of_unequal ns each differ))
    (cases_Bool (have_one_length ns)) in
    let all = bytes_most ns (length (count_and_padding shape (frame_count h.sizes)))
    (length (flat_map length_bytes lengths)) (length lengths) (sum ns) front few most spelled total either in
    omega arith

pub canonical_header-most : (v : PacketValue) (lengths : List ℕ) → lengths ≡ map length v.frames
    → 1 ≤ length lengths → length lengths ≤ 48 → All (λ n. n ≤ max_frame) lengths
    → length (canonical_header v) + length (concat v.frames) ≤ 61295
canonical_header-most v lengths e some most each =
    let own = rw e at (header_in-most v.config v.stereo lengths some most each) in
    let body = length-concat v.frames in
    omega arith

pub canonical-most : (v : PacketValue) (lengths : List ℕ) → lengths ≡ map length v.frames
    → 1 ≤ length lengths → length lengths ≤ 48 → All (λ n. n ≤ max_frame) lengths
    → length (canonical v) ≤ 61295
canonical-most v lengths e some most each =
    omega (arith, canonical_header-most v lengths e some most each, ap length (canonical-is v), length-append (canonical_header v) (concat v.frames))
