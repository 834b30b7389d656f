-- What was told in two steps, and the room for it.
use Rattle.std.proofs.Common.{◌≡◌, ℕ, ◌+◌, ◌-◌, ◌*◌, ◌<◌, ◌≤◌, min, false, List, [], ◌∷◌, ◌++◌, length, refl, ap, sym, ◌∙◌, append_assoc, arith}
use Rattle.rtp_ends.specs.declared.event.Event.{Event}
use Rattle.rtp_ends.specs.Numbers.{Placed}
use Rattle.rtp_ends.specs.Order.{put}
use Rattle.rtp_ends.specs.Slots.{AreWithin, has_place}
use Rattle.rtp_ends.specs.Holding.{Held, AreSettled, Gave, events_since, last_of}
use Rattle.rtp_ends.proofs.AscendLemmas.{length-put}
use Rattle.rtp_ends.proofs.EventLemmas.{events_since-append, last_of-append}

pub AreSettled-weaker : (top more : ℕ) (xs : List Placed) → top ≤ more → AreSettled top xs → AreSettled more xs
AreSettled-weaker top more [] less all = tt
AreSettled-weaker top more (x ∷ xs) less all =
    let first : x.place + 32768 ≤ top = all.0 in
    (omega arith, AreSettled-weaker top more xs less all.1)

pub AreSettled-append : (top : ℕ) (xs ys : List Placed) → AreSettled top xs → AreSettled top ys → AreSettled top (xs ++ ys)
AreSettled-append top [] ys all more = more
AreSettled-append top (x ∷ xs) ys all more = (all.0, AreSettled-append top xs ys all.1 more)

-- told in two steps, and then places were passed over
pub Gave-trans : (a b d e : Held) (before mid after : List Event) → Gave a b before mid → Gave b d mid after
    → e.kept ≡ d.kept → e.last ≡ d.last → d.top ≤ e.top → Gave a e before after
Gave-trans a b d e before mid after first second kept last on =
    let xs = first.0 in
    let ys = second.0 in
    let raised : a.top ≤ b.top = first.1.raised in
    let again : b.top ≤ d.top = second.1.raised in (
      xs ++ ys,
      record {
        kept_are = first.1.kept_are
            ∙ ap (λ l. xs ++ l) second.1.kept_are
            ∙ sym (append_assoc xs ys d.kept)
            ∙ ap (λ l. (xs ++ ys) ++ l) (sym kept);
        out_is = second.1.out_is
            ∙ ap (λ l. l ++ events_since b.last ys) first.1.out_is
            ∙ append_assoc before (events_since a.last xs) (events_since b.last ys)
            ∙ ap (λ l. before ++ (events_since a.last xs ++ events_since l ys)) first.1.last_is
            ∙ ap (λ l. before ++ l) (sym (events_since-append a.last xs ys));
        last_is = last
            ∙ second.1.last_is
            ∙ ap (λ l. last_of l ys) first.1.last_is
            ∙ sym (last_of-append a.last xs ys);
        settled = AreSettled-append e.top xs ys
            (AreSettled-weaker b.top e.top xs (omega arith) first.1.settled)
            (AreSettled-weaker d.top e.top ys on second.1.settled);
        raised = omega arith;
      },
    )

-- room for two events for each that falls out is left after one step
pub room-left : (len len2 cap n n2 to top top2 : ℕ)
    → len + 2 * min n (to - top) ≤ cap → len2 + 2 * n2 ≤ len + 2 * n → n ≤ n2 + 1 → top < to → top + 1 ≤ top2
    → len2 + 2 * min n2 (to - top2) ≤ cap
room-left len len2 cap n n2 to top top2 room used one less on = omega arith

pub held-put : (old new : List Placed) (a : Placed) (held : ℕ) → held ≡ length old
    → has_place a.place old ≡ false → new ≡ put a old → held + 1 ≡ length new
held-put old new a held is free put_is =
    ap (λ n. n + 1) is ∙ sym (length-put a old free) ∙ ap (λ (l : List Placed). length l) (sym put_is)

within-behind : (top : ℕ) (xs ys : List Placed) → AreWithin top (xs ++ ys) → AreWithin top ys
within-behind top [] ys all = all
within-behind top (x ∷ xs) ys all = within-behind top xs ys all.1

nothing-of : (top more : ℕ) (xs : List Placed) → AreWithin top xs → AreWithin more xs → top + 32768 ≤ more → xs ≡ []
nothing-of top more [] low high far = refl
nothing-of top more (x ∷ xs) low high far =
    let most : x.place ≤ top = low.0.most in
    let above : more < x.place + 32768 = high.0.above in
    absurd (omega arith)

-- nothing is kept of what was kept, where the window went on by all its places
pub nothing-left : (top more : ℕ) (gone kept : List Placed) → AreWithin top (gone ++ kept) → AreWithin more kept
    → top + 32768 ≤ more → kept ≡ []
nothing-left top more gone kept low high far = nothing-of top more kept (within-behind top gone kept low) high far
