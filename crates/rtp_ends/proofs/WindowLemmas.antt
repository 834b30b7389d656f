-- The window over the last 32,768 places.
use Rattle.std.proofs.Common.{◌≡◌, ℕ, zero, suc, ◌+◌, ◌-◌, ◌%◌, ◌<◌, ◌≤◌, false, List, [], ◌++◌, length, get_or, set, Option, None, Some, is_some, refl, ap, sym, ◌∙◌, append-nil, ⊎_elim, arith}
use Rattle.std.proofs.lemmas.List.{get_or-set_same, set-get_or, get_or_past, length-set}
use Rattle.std.proofs.lemmas.Bool.{cases_lt}
use Rattle.rtp_ends.specs.declared.ring.Kept.{Kept}
use Rattle.rtp_ends.specs.Order.{put}
use Rattle.rtp_ends.specs.Slots.{with_place, at_place, held_from, window_of, AreWithin, AreFree, AreFreeUpTo, has_place}
use Rattle.rtp_ends.proofs.SlotLemmas.{held_from-other, held_from-more, held_from-within, held_from-has, held_from-put, length-held_from}

-- as many places as there are slots
pub window-is : (slots : List (Option Kept)) (top n : ℕ) → length slots ≡ n
    → window_of slots top ≡ held_from slots (top + 1 - n) n
window-is slots top n sized = ap (λ k. held_from slots (top + 1 - k) k) sized

pub none_where : (o : Option Kept) → is_some o ≡ false → o ≡ None
none_where None no_one = refl
none_where (Some k) no_one = absurd cc

pub window-within : (slots : List (Option Kept)) (top : ℕ) → length slots ≡ 32768 → 32768 ≤ top
    → AreWithin top (window_of slots top)
window-within slots top sized high =
    let n = length slots in
    held_from-within slots top (top + 1 - n) n (omega arith) (omega arith)

pub window-has : (slots : List (Option Kept)) (top place : ℕ) → length slots ≡ 32768 → 32768 ≤ top
    → top < place + 32768 → place ≤ top
    → has_place place (window_of slots top) ≡ is_some (get_or slots (place % 32768) None)
window-has slots top place sized high above most =
    let n = length slots in
    held_from-has slots place (top + 1 - n) n (omega arith) (omega arith)

pub window-put : (slots : List (Option Kept)) (top place : ℕ) (k : Kept) → length slots ≡ 32768 → 32768 ≤ top
    → top < place + 32768 → place ≤ top → has_place place (window_of slots top) ≡ false
    → window_of (set slots (place % 32768) (Some k)) top ≡ put (with_place place k) (window_of slots top)
window-put slots top place k sized high above most free =
    let n = length slots in
    let none : get_or slots (place % 32768) None ≡ None =
    none_where (get_or slots (place % 32768) None) (sym (window-has slots top place sized high above most) ∙ free) in
    window-is (set slots (place % 32768) (Some k)) top n (length-set slots (place % 32768) (Some k))
    ∙ held_from-put slots place k (top + 1 - n) n (omega arith) (omega arith) (omega arith) (omega arith) none

pub length-window : (slots : List (Option Kept)) (top : ℕ) → length slots ≡ 32768 → length (window_of slots top) ≤ 32768
length-window slots top sized =
    let most = length-held_from slots (top + 1 - length slots) (length slots) in
    omega arith

on_by : (slots : List (Option Kept)) (top n : ℕ) → n ≡ 32768 → length slots ≡ n → 32768 ≤ top
    → held_from slots (top + 1 - n) n
    ≡ at_place (top + 1 - 32768) (get_or slots ((top + 1) % 32768) None)
    ++ held_from (set slots ((top + 1) % 32768) None) (top + 1 + 1 - n) n
on_by slots top zero is sized high = absurd (omega arith)
on_by slots top (suc m) is sized high =
    let q = (top + 1) % 32768 in
    let p = top + 1 - suc m in
    let rest : held_from (set slots q None) (top + 1 + 1 - suc m) (suc m) ≡ held_from slots (p + 1) m =
    ap (λ k. held_from (set slots q None) k (suc m)) (omega arith)
    ∙ held_from-more (set slots q None) (p + 1) m
    ∙ ap (λ k. held_from (set slots q None) (p + 1) m ++ at_place k (get_or (set slots q None) (k % 32768) None)) (omega arith)
    ∙ ap (λ o. held_from (set slots q None) (p + 1) m ++ at_place (top + 1) o) (get_or-set_same slots q None None (omega arith))
    ∙ append-nil (held_from (set slots q None) (p + 1) m)
    ∙ held_from-other slots q None (p + 1) m (λ j from to same. absurd (omega arith)) in
    ap (λ k. at_place k (get_or slots (k % 32768) None) ++ held_from slots (p + 1) m) (omega arith)
    ∙ ap (λ k. at_place (top + 1 - 32768) (get_or slots k None) ++ held_from slots (p + 1) m) (omega arith)
    ∙ ap (λ l. at_place (top + 1 - 32768) (get_or slots q None) ++ l) (sym rest)

-- one place on: what stood in the slot of the new place falls out
pub window-on : (slots : List (Option Kept)) (top : ℕ) → length slots ≡ 32768 → 32768 ≤ top
    → window_of slots top
    ≡ at_place (top + 1 - 32768) (get_or slots ((top + 1) % 32768) None)
    ++ window_of (set slots ((top + 1) % 32768) None) (top + 1)
window-on slots top sized high =
    let q = (top + 1) % 32768 in
    on_by slots top (length slots) sized refl high
    ∙ ap (λ l. at_place (top + 1 - 32768) (get_or slots q None) ++ l)
    (sym (window-is (set slots q None) (top + 1) (length slots) (length-set slots q None)))

-- over free slots nothing changes
pub window-skip : (slots : List (Option Kept)) (top d : ℕ) → length slots ≡ 32768 → 32768 ≤ top
    → AreFreeUpTo slots top (top + d) → window_of slots (top + d) ≡ window_of slots top
window-skip slots top zero sized high free = ap (λ k. window_of slots k) (omega arith)
window-skip slots top (suc d) sized high free =
    let q = (top + 1) % 32768 in
    let none : get_or slots q None ≡ None = free (top + 1) (omega arith) (omega arith) in
    let same : set slots q None ≡ slots = ap (λ o. set slots q o) (sym none) ∙ set-get_or slots q None in
    ap (λ k. window_of slots k) (omega arith)
    ∙ window-skip slots (top + 1) d sized (omega arith) (λ p from to. free p (omega arith) (omega arith))
    ∙ ap (λ l. window_of l (top + 1)) (sym same)
    ∙ ap (λ o. at_place (top + 1 - 32768) o ++ window_of (set slots q None) (top + 1)) (sym none)
    ∙ sym (window-on slots top sized high)

-- where nothing is kept, all slots are free
pub window-free : (slots : List (Option Kept)) (top : ℕ) → length slots ≡ 32768 → 32768 ≤ top
    → window_of slots top ≡ [] → AreFree slots
window-free slots top sized high none i = ⊎_elim
    (λ (in_reach : i < 32768).
    let p = top + 1 - 32768 in
    let place = p + (i + 32768 - p % 32768) % 32768 in
    let same : place % 32768 ≡ i = omega arith in
    ap (λ k. get_or slots k None) (sym same)
    ∙ none_where (get_or slots (place % 32768) None)
    (sym (window-has slots top place sized high (omega arith) (omega arith)) ∙ ap (has_place place) none))
    (λ (past : 32768 ≤ i). get_or_past slots i None (omega arith))
    (cases_lt i 32768)
