-- Texts by their index, written one after another.
use Rattle.std.proofs.Common.{◌≡◌, ℕ, ◌+◌, ◌<◌, ◌≤◌, List, [], ◌∷◌, ◌++◌, Option, length, take, drop, map, sym, ap, ◌∙◌, subst, append-nil, take-append-drop, arith}
use Rattle.std.specs.List.{concat, range_with_len}
use Rattle.std.specs.Io.KnownBytes.{Appends}
use Rattle.std.proofs.KnownBytes.{Appends-trans}
use Rattle.std.proofs.lemmas.List.Folds.{concat-append}
use Rattle.std.proofs.lemmas.List.FromFn.{map-range_with_len_more, take-map-range_with_len}
use Rattle.job_loop.specs.Telling.{Front}
use Rattle.job_loop.proofs.RunLemmas.{Front-behind, Front-longer}
use Rattle.opuspack.specs.Texts.{all_texts}

pub all_texts-more : (text : ℕ → List ℕ) (n : ℕ) → all_texts text (n + 1) ≡ all_texts text n ++ text n
all_texts-more text n =
    ap concat (map-range_with_len_more text 0 n n (omega arith))
    ∙ concat-append (map text (range_with_len 0 n)) (text n ∷ [])
    ∙ ap (λ l. all_texts text n ++ l) (append-nil (text n))

all_texts-front : (text : ℕ → List ℕ) (n count : ℕ) → n ≤ count
    → (rest : List ℕ) × (all_texts text count ≡ all_texts text n ++ rest)
all_texts-front text n count within =
    let all = map text (range_with_len 0 count) in (
      concat (drop n all),
      ap concat (sym (take-append-drop n all)) ∙ concat-append (take n all) (drop n all)
          ∙ ap (λ l. concat l ++ concat (drop n all)) (take-map-range_with_len text 0 count n within),
    )

-- one text more was written
pub texts_more : (text : ℕ → List ℕ) (n : ℕ) (a b c : Option (List ℕ)) (piece : List ℕ) → piece ≡ text n
    → Appends a b (all_texts text n) → Appends b c piece → Appends a c (all_texts text (n + 1))
texts_more text n a b c piece is before next =
    subst (λ t. Appends a c t) (ap (λ l. all_texts text n ++ l) is ∙ sym (all_texts-more text n))
    (Appends-trans a b c (all_texts text n) piece before next)

-- a front of the next one was written
pub texts_front : (text : ℕ → List ℕ) (n count : ℕ) (a b c : Option (List ℕ)) (piece : List ℕ) → n < count → piece ≡ text n
    → Appends a b (all_texts text n) → (k : ℕ) × (k ≤ length piece) × Appends b c (take k piece)
    → Front (all_texts text count) a c
texts_front text n count a b c piece within is before front =
    let rest = all_texts-front text (n + 1) count (omega arith) in
    let so_far : all_texts text n ++ piece ≡ all_texts text (n + 1) =
    ap (λ l. all_texts text n ++ l) is ∙ sym (all_texts-more text n) in
    subst (λ t. Front t a c) (ap (λ l. l ++ rest.0) so_far ∙ sym rest.1)
    (Front-longer (all_texts text n ++ piece) rest.0 a c
    (Front-behind (all_texts text n) piece a b c before (record { count = front.0; written = front.2 })))
