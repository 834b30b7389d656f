-- A ring's state, from the window over its slots.
use Rattle.std.proofs.Common.{◌≡◌, ℕ, ◌+◌, ◌-◌, ◌%◌, ◌<◌, ◌≤◌, Bool, false, List, [], ◌++◌, length, get_or, set, Option, None, Some, is_some, ap, sym, subst, ◌∙◌, arith}
use Rattle.std.proofs.lemmas.List.{get_or_read}
use Rattle.rtp_ends.specs.declared.ring.Kept.{Kept}
use Rattle.rtp_ends.specs.Numbers.{Placed}
use Rattle.rtp_ends.specs.Order.{put}
use Rattle.rtp_ends.specs.Slots.{RingState, with_place, at_place, window_of, AreFree, AreFreeUpTo, has_place}
use Rattle.rtp_ends.proofs.SlotLemmas.{held_from-free}
use Rattle.rtp_ends.proofs.WindowLemmas.{window-has, window-put, window-on, window-skip, window-free}

abbrev pub state : ℕ → List Placed → RingState
state top kept = record { top = top; kept = kept }

pub state-free : (slots : List (Option Kept)) (top : ℕ) → AreFree slots → state top (window_of slots top) ≡ state top []
state-free slots top free = ap (state top) (held_from-free slots (top + 1 - length slots) (length slots) free)

pub state-started : (slots : List (Option Kept)) (top new : ℕ) → length slots ≡ 32768 → 32768 ≤ top
    → window_of slots top ≡ [] → state new (window_of slots new) ≡ state new []
state-started slots top new sized high none = state-free slots new (window-free slots top sized high none)

pub state-has : (slots : List (Option Kept)) (top place q : ℕ) (now : RingState) (o : Option Kept) (answer : Bool)
    → length slots ≡ 32768 → 32768 ≤ top → state top (window_of slots top) ≡ now
    → now.top < place + 32768 → place ≤ now.top → q ≡ place % 32768 → o ≡ get_or slots q o → answer ≡ is_some o
    → answer ≡ has_place place now.kept
state-has slots top place q now o answer sized high is above most slot read said =
    subst (λ (s : RingState). s.top < place + 32768 → place ≤ s.top → answer ≡ has_place place s.kept) is
    (λ over under.
    said
    ∙ ap (λ (v : Option Kept). is_some v) (get_or_read slots q o (omega arith) read None ∙ ap (λ i. get_or slots i None) slot)
    ∙ sym (window-has slots top place sized high over under))
    above most

pub state-put : (slots : List (Option Kept)) (top place q : ℕ) (k : Kept) (now : RingState)
    → length slots ≡ 32768 → 32768 ≤ top → state top (window_of slots top) ≡ now
    → now.top < place + 32768 → place ≤ now.top → has_place place now.kept ≡ false → q ≡ place % 32768
    → window_of (set slots q (Some k)) top ≡ put (with_place place k) now.kept
state-put slots top place q k now sized high is above most free slot =
    subst (λ (s : RingState). s.top < place + 32768 → place ≤ s.top → has_place place s.kept ≡ false
    → window_of (set slots q (Some k)) top ≡ put (with_place place k) s.kept) is
    (λ over under none.
    ap (λ i. window_of (set slots i (Some k)) top) slot
    ∙ window-put slots top place k sized high over under none)
    above most free

pub state-raise : (slots : List (Option Kept)) (top q : ℕ) (now : RingState) (o taken left : Option Kept)
    → length slots ≡ 32768 → 32768 ≤ top → state top (window_of slots top) ≡ now → q ≡ (top + 1) % 32768
    → o ≡ get_or slots q o → taken ≡ o → left ≡ None
    → now.kept ≡ at_place (now.top + 1 - 32768) taken ++ window_of (set slots q left) (top + 1)
state-raise slots top q now o taken left sized high is slot read took none =
    subst (λ (s : RingState). s.kept ≡ at_place (s.top + 1 - 32768) taken ++ window_of (set slots q left) (top + 1)) is
    (window-on slots top sized high
    ∙ ap (λ i. at_place (top + 1 - 32768) (get_or slots i None) ++ window_of (set slots i None) (top + 1)) (sym slot)
    ∙ ap (λ v. at_place (top + 1 - 32768) v ++ window_of (set slots q None) (top + 1))
    (sym (took ∙ get_or_read slots q o (omega arith) read None))
    ∙ ap (λ v. at_place (top + 1 - 32768) taken ++ window_of (set slots q v) (top + 1)) (sym none))

pub state-skip : (slots : List (Option Kept)) (top to : ℕ) (now : RingState)
    → length slots ≡ 32768 → 32768 ≤ top → state top (window_of slots top) ≡ now → top ≤ to
    → AreFreeUpTo slots top to → window_of slots to ≡ now.kept
state-skip slots top to now sized high is on free =
    let d = to - top in
    let far : top + d ≡ to = omega arith in
    ap (λ k. window_of slots k) (sym far)
    ∙ window-skip slots top d sized high (subst (λ k. AreFreeUpTo slots top k) (sym far) free)
    ∙ ap (λ (s : RingState). s.kept) is
