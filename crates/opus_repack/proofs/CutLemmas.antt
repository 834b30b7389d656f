-- Bytes that fall into pieces: some of the pieces, and pieces behind others.
use Rattle.std.proofs.Common.{◌≡◌, ℕ, zero, suc, ◌+◌, ◌-◌, ◌≤◌, List, [], ◌∷◌, ◌++◌, map, length, take, drop, sum, refl, sym, ap, ◌∙◌, arith, length-drop}
use Rattle.std.specs.List.{slice_range}
use Rattle.std.proofs.lemmas.List.{take-map, drop-map, drop-drop, drop-take, take-take, take-append-le, drop-append-le, nil_from_length}
use Rattle.std.proofs.lemmas.List.Sums.{sum_by-take-drop, sum_by-take-le}
use Rattle.opus_packet.specs.Cut.{cut}
use Rattle.opus_packet.proofs.CutLemmas.{sum-cons, lengths-cut}

-- the bytes behind the pieces don't matter
cut-front : (size : ℕ) (bytes ns : List ℕ) → size ≡ sum ns → cut (take size bytes) ns ≡ cut bytes ns
cut-front size bytes [] is = refl
cut-front size bytes (n ∷ ns) is =
    let whole = sum-cons n ns in
    let first : take n (take size bytes) ≡ take n bytes = take-take n size bytes (omega arith) in
    let behind : drop n (take size bytes) ≡ take (sum ns) (drop n bytes) =
    ap (λ m. drop n (take m bytes)) (is ∙ whole) ∙ drop-take n (sum ns) bytes in
    ap (λ l. l ∷ cut (drop n (take size bytes)) ns) first
    ∙ ap (λ l. take n bytes ∷ cut l ns) behind
    ∙ ap (λ l. take n bytes ∷ l) (cut-front (sum ns) (drop n bytes) ns refl)

-- the first pieces are those of the first lengths
take-cut : (k : ℕ) (bytes ns : List ℕ) → take k (cut bytes ns) ≡ cut bytes (take k ns)
take-cut zero bytes ns = refl
take-cut (suc k) bytes [] = refl
take-cut (suc k) bytes (n ∷ ns) = ap (λ l. take n bytes ∷ l) (take-cut k (drop n bytes) ns)

-- the other pieces lie behind the bytes of the first
drop-cut : (k : ℕ) (bytes ns : List ℕ) → drop k (cut bytes ns) ≡ cut (drop (sum (take k ns)) bytes) (drop k ns)
drop-cut zero bytes ns = refl
drop-cut (suc k) bytes [] = refl
drop-cut (suc k) bytes (n ∷ ns) =
    drop-cut k (drop n bytes) ns
    ∙ ap (λ l. cut l (drop k ns)) (
    drop-drop (sum (take k ns)) n bytes ∙ ap (λ m. drop m bytes) (sym (sum-cons n (take k ns)))
    )

-- some of the pieces are cut from their own bytes
pub slice-cut : (bytes ns : List ℕ) (from to start size : ℕ) → start ≡ sum (take from ns)
    → size ≡ sum (slice_range ns from to)
    → cut (slice_range bytes start (start + size)) (slice_range ns from to) ≡ slice_range (cut bytes ns) from to
slice-cut bytes ns from to start size s e =
    let part = slice_range ns from to in
    let long : start + size - start ≡ size = omega arith in
    ap (λ m. cut (take m (drop start bytes)) part) long
    ∙ cut-front size (drop start bytes) part e
    ∙ ap (λ m. cut (drop m bytes) part) s
    ∙ sym (
    ap (λ l. take (to - from) l) (drop-cut from bytes ns)
    ∙ take-cut (to - from) (drop (sum (take from ns)) bytes) (drop from ns)
    )

-- their bytes are among the others
pub sum-slice : (ns : List ℕ) (from to : ℕ) → sum (take from ns) + sum (slice_range ns from to) ≤ sum ns
sum-slice ns from to =
    omega (arith, sum_by-take-drop (λ (n : ℕ). n) ns from, sum_by-take-le (λ (n : ℕ). n) (drop from ns) (to - from))

-- and they have the lengths that they were cut to
pub lengths-slice : (bytes ns : List ℕ) (from to : ℕ) → sum ns ≡ length bytes
    → map length (slice_range (cut bytes ns) from to) ≡ slice_range ns from to
lengths-slice bytes ns from to whole =
    let lengths : map length (cut bytes ns) ≡ ns = lengths-cut bytes ns (omega arith) in
    sym (
    ap (λ l. take (to - from) l) (drop-map length from (cut bytes ns))
    ∙ take-map length (to - from) (drop from (cut bytes ns))
    )
    ∙ ap (λ l. slice_range l from to) lengths

-- pieces behind others
pub cut-append : (bytes more ns ms : List ℕ) → sum ns ≡ length bytes
    → cut (bytes ++ more) (ns ++ ms) ≡ cut bytes ns ++ cut more ms
cut-append bytes more [] ms is = ap (λ l. cut (l ++ more) ms) (nil_from_length bytes (sym is))
cut-append bytes more (n ∷ ns) ms is =
    let whole = sum-cons n ns in
    let size = length-drop n bytes in
    let fits : n ≤ length bytes = omega arith in
    ap (λ l. l ∷ cut (drop n (bytes ++ more)) (ns ++ ms)) (take-append-le n bytes more fits)
    ∙ ap (λ l. take n bytes ∷ cut l (ns ++ ms)) (drop-append-le n bytes more fits)
    ∙ ap (λ l. take n bytes ∷ l) (cut-append (drop n bytes) more ns ms (omega arith))
