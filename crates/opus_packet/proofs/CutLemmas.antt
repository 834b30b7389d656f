-- Lemmas on bytes that fall into pieces of given lengths, and on the lengths of pieces.
use Rattle.std.proofs.Common.{◌≡◌, ℕ, zero, suc, ◌+◌, ◌-◌, ◌*◌, ◌≤◌, List, [], ◌∷◌, ◌++◌, map, length, get_or, take, drop, replicate, sum, refl, sym, ap, ◌∙◌, length-append, length-drop, length-take-le, take-append-drop, take_at, drop_at, take_all, arith}
use Rattle.std.specs.List.{AllByRecursion, concat}
use Rattle.std.proofs.lemmas.List.{take_more, nil_from_length}
use Rattle.std.proofs.lemmas.List.Sums.{sum_by-cons, sum_by-append}
use Rattle.opus_packet.specs.Value.{IsFrame, max_frame}
use Rattle.opus_packet.specs.Cut.{cut}
use Rattle.opus_packet.proofs.LengthsReadLemmas.{AreLengths}

pub sum-cons : (n : ℕ) (ns : List ℕ) → sum (n ∷ ns) ≡ n + sum ns
sum-cons n ns = sum_by-cons (λ (x : ℕ). x) n ns

pub sum-push : (ns : List ℕ) (n : ℕ) → sum (ns ++ n ∷ []) ≡ sum ns + n
sum-push ns n =
    let both : sum (ns ++ n ∷ []) ≡ sum ns + sum (n ∷ []) = sum_by-append (λ (x : ℕ). x) ns (n ∷ []) in
    let last = sum-cons n [] in
    both ∙ ap (λ m. sum ns + m) (last ∙ omega arith)

pub sum-replicate : (count n : ℕ) → sum (replicate count n) ≡ count * n
sum-replicate zero n = omega arith
sum-replicate (suc count) n =
    let rest = sum-replicate count n in
    sum-cons n (replicate count n) ∙ ap (λ m. n + m) rest ∙ omega arith

-- cutting

pub length-cut : (bytes ns : List ℕ) → length (cut bytes ns) ≡ length ns
length-cut bytes [] = refl
length-cut bytes (n ∷ ns) = ap suc (length-cut (drop n bytes) ns)

pub lengths-cut : (bytes ns : List ℕ) → sum ns ≤ length bytes → map length (cut bytes ns) ≡ ns
lengths-cut bytes [] fits = refl
lengths-cut bytes (n ∷ ns) fits =
    let whole = sum-cons n ns in
    let behind : length (drop n bytes) ≡ length bytes - n = length-drop n bytes in
    let first : length (take n bytes) ≡ n = length-take-le n bytes (omega arith) in
    let others : map length (cut (drop n bytes) ns) ≡ ns = lengths-cut (drop n bytes) ns (omega arith) in
    ap (λ m. m ∷ map length (cut (drop n bytes) ns)) first ∙ ap (λ l. n ∷ l) others

pub concat-cut : (bytes ns : List ℕ) → length bytes ≡ sum ns → concat (cut bytes ns) ≡ bytes
concat-cut bytes [] size = sym (nil_from_length bytes size)
concat-cut bytes (n ∷ ns) size =
    let whole = sum-cons n ns in
    let behind : length (drop n bytes) ≡ length bytes - n = length-drop n bytes in
    ap (λ l. take n bytes ++ l) (concat-cut (drop n bytes) ns (omega arith)) ∙ take-append-drop n bytes

pub cut-concat : (frames : List (List ℕ)) → cut (concat frames) (map length frames) ≡ frames
cut-concat [] = refl
cut-concat (f ∷ fs) =
    let first : take (length f) (f ++ concat fs) ≡ f = take_at f (concat fs) (length f) refl in
    let behind : drop (length f) (f ++ concat fs) ≡ concat fs = drop_at f (concat fs) (length f) refl in
    ap (λ l. l ∷ cut (drop (length f) (f ++ concat fs)) (map length fs)) first
    ∙ ap (λ l. f ∷ cut l (map length fs)) behind
    ∙ ap (λ l. f ∷ l) (cut-concat fs)

pub length-concat : (frames : List (List ℕ)) → length (concat frames) ≡ sum (map length frames)
length-concat [] = refl
length-concat (f ∷ fs) =
    length-append f (concat fs) ∙ ap (λ n. length f + n) (length-concat fs)
    ∙ sym (sum-cons (length f) (map length fs))

-- frames and their lengths

pub frames-each : (frames : List (List ℕ)) → AreLengths (map length frames) → AllByRecursion IsFrame frames
frames-each [] each = tt
frames-each (f ∷ fs) each = (each.0, frames-each fs each.1)

pub lengths-each : (frames : List (List ℕ)) → AllByRecursion IsFrame frames → AreLengths (map length frames)
lengths-each [] each = tt
lengths-each (f ∷ fs) each = (each.0, lengths-each fs each.1)

pub have_length : (frames : List (List ℕ)) (count n : ℕ) → map length frames ≡ replicate count n
    → AllByRecursion (λ frame. length frame ≡ n) frames
have_length [] count n e = tt
have_length (f ∷ fs) zero n e = cc
have_length (f ∷ fs) (suc count) n e = (cc, have_length fs count n cc)

pub lengths-replicate : (frames : List (List ℕ)) (n : ℕ) → AllByRecursion (λ frame. length frame ≡ n) frames
    → map length frames ≡ replicate (length frames) n
lengths-replicate [] n same = refl
lengths-replicate (f ∷ fs) n same =
    ap (λ m. m ∷ map length fs) same.0 ∙ ap (λ l. n ∷ l) (lengths-replicate fs n same.1)

pub AreLengths-take : (n : ℕ) (ns : List ℕ) → AreLengths ns → AreLengths (take n ns)
AreLengths-take zero ns each = tt
AreLengths-take (suc n) [] each = tt
AreLengths-take (suc n) (m ∷ ns) each = (each.0, AreLengths-take n ns each.1)

pub AreLengths-push : (ns : List ℕ) (n : ℕ) → AreLengths ns → n ≤ max_frame → AreLengths (ns ++ n ∷ [])
AreLengths-push [] n each last = (last, tt)
AreLengths-push (m ∷ ns) n each last = (each.0, AreLengths-push ns n each.1 last)

pub AreLengths-at : (ns : List ℕ) (i : ℕ) → AreLengths ns → get_or ns i 0 ≤ max_frame
AreLengths-at [] i each = omega arith
AreLengths-at (n ∷ ns) zero each = each.0
AreLengths-at (n ∷ ns) (suc i) each = AreLengths-at ns i each.1

-- the last of some lengths behind the others
pub take-last : (ns : List ℕ) → 1 ≤ length ns
    → take (length ns - 1) ns ++ get_or ns (length ns - 1) 0 ∷ [] ≡ ns
take-last ns some =
    let i = length ns - 1 in
    let up : i + 1 ≡ length ns = omega arith in
    sym (take_more ns i 0 (omega arith)) ∙ ap (λ k. take k ns) up ∙ take_all (length ns) ns (omega arith)
