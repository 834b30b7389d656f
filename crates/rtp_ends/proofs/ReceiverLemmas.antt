-- A receiver's state, and the arrivals that it stands for.
use Rattle.std.proofs.Common.{◌≡◌, ℕ, ◌+◌, ◌<◌, max, nat_eq, Bool, true, false, ◌||◌, if◌then◌else◌, List, [], ◌∷◌, ◌++◌, length, None, Result, Ok, Err, OnErr, refl, ap, sym, ◌∙◌, append-nil, arith}
use Rattle.rtp_ends.specs.declared.event.Event.{Event}
use Rattle.rtp_ends.specs.Numbers.{Heard, Placed, place_after, IsPlaceAfter, placed_at, placed, greatest_of, next_place}
use Rattle.rtp_ends.specs.Order.{put, ordered}
use Rattle.rtp_ends.specs.Report.{events_of, settled, certain_events, arrival_report}
use Rattle.rtp_ends.specs.Slots.{has_place}
use Rattle.rtp_ends.specs.Holding.{Held, Gave, events_since}
use Rattle.rtp_ends.specs.Receives.{ReceiverState, StandsHaving, IsGreatest, place_in, IsPlaceIn, ReceiverStands, top_from, held_of, GivesOut, open_arrivals, open_of}
use Rattle.rtp_ends.proofs.NumberLemmas.{placed-more, greatest_of-more}
use Rattle.rtp_ends.proofs.OrderLemmas.{ordered-more, gt-other, has-less, has_place-append, has_place-ordered}
use Rattle.rtp_ends.proofs.EventLemmas.{events_since-append}
use Rattle.rtp_ends.proofs.CertainLemmas.{settled-front, open-rest, settled-less}

-- the two parts of an empty list

pub none-behind : (xs ys : List Placed) → [] ≡ xs ++ ys → ys ≡ []
none-behind [] ys e = sym e
none-behind (x ∷ xs) ys e = absurd cc

pub none-before : (xs ys : List Placed) → [] ≡ xs ++ ys → xs ≡ []
none-before [] ys e = refl
none-before (x ∷ xs) ys e = absurd cc

-- the place that it gives a sequence number is the next one
pub place-next : (s : ReceiverState) (heard : List Heard) (told : List Placed) (seq : ℕ) → StandsHaving s heard told
    → place_in s seq ≡ next_place heard seq
place-next s [] told seq is = ap (λ n. if nat_eq n 0 then 65536 + seq else place_after s.top seq) is.count
place-next s (h ∷ hs) told seq is =
    ap (λ n. if nat_eq n 0 then 65536 + seq else place_after s.top seq) is.count
    ∙ ap (λ b. if b then 65536 + seq else place_after s.top seq) (gt-other (length (h ∷ hs)) 0 (omega arith))
    ∙ ap (λ g. place_after g seq) is.greatest

-- a place arrived exactly where it is kept
pub has-is : (s : ReceiverState) (heard : List Heard) (told : List Placed) (place : ℕ) → StandsHaving s heard told
    → (0 < s.arrivals → s.top < place + 32768) → has_place place s.kept ≡ has_place place (placed heard)
has-is s [] told place is near = ap (has_place place) (none-behind told s.kept is.order)
has-is s (h ∷ hs) told place is near =
    let count : s.arrivals ≡ length (h ∷ hs) = is.count in
    let above : s.top < place + 32768 = near (omega arith) in
    ap (λ b. b || has_place place s.kept) (sym (has-less place told (settled-less s.top place told above is.settled)))
    ∙ sym (has_place-append place told s.kept)
    ∙ ap (has_place place) (sym is.order)
    ∙ has_place-ordered place (placed (h ∷ hs))

-- what is certain is what was told
pub certain-is : (s : ReceiverState) (heard : List Heard) (told : List Placed) → StandsHaving s heard told
    → certain_events heard ≡ events_of told
certain-is s [] told is = ap events_of (sym (none-before told s.kept is.order))
certain-is s (h ∷ hs) told is =
    ap (λ g. events_of (settled g (ordered (placed (h ∷ hs))))) (sym is.greatest)
    ∙ ap (λ l. events_of (settled s.top l)) is.order
    ∙ ap events_of (settled-front s.top told s.kept is.settled is.within)

-- and what is kept is open
pub open-is : (s : ReceiverState) (heard : List Heard) (told : List Placed) → StandsHaving s heard told
    → open_arrivals heard ≡ s.kept
open-is s [] told is = sym (none-behind told s.kept is.order)
open-is s (h ∷ hs) told is =
    ap (λ g. open_of g (ordered (placed (h ∷ hs)))) (sym is.greatest)
    ∙ ap (open_of s.top) is.order
    ∙ open-rest s.top told s.kept is.settled is.within

pub greatest-more : (top place : ℕ) (heard : List Heard) (x : Heard) → place ≡ next_place heard x.seq
    → IsGreatest top heard → (heard ≡ [] → top ≡ place) → IsGreatest (max top place) (heard ++ x ∷ [])
greatest-more top place [] x next is first =
    let begins : top ≡ place = first refl in
    omega arith
greatest-more top place (h ∷ hs) x next is first =
    ap (λ g. max g place) is
    ∙ ap (λ p. max (greatest_of (placed (h ∷ hs))) p) next
    ∙ sym (greatest_of-more (placed (h ∷ hs)) (placed_at (next_place (h ∷ hs) x.seq) x))
    ∙ ap greatest_of (sym (placed-more (h ∷ hs) x))

-- one arrival more is put in order
pub order-more : (heard : List Heard) (x : Heard) (place : ℕ) → place ≡ next_place heard x.seq
    → ordered (placed (heard ++ x ∷ [])) ≡ put (placed_at place x) (ordered (placed heard))
order-more heard x place next =
    ap ordered (placed-more heard x)
    ∙ ordered-more (placed heard) (placed_at (next_place heard x.seq) x)
    ∙ ap (λ p. put (placed_at p x) (ordered (placed heard))) (sym next)

-- at the end all that is left is told
pub closed : (s : ReceiverState) (heard : List Heard) (told : List Placed) (mid : Held) (before after : List Event)
    → StandsHaving s heard told → Gave (held_of s) mid before after → mid.kept ≡ []
    → GivesOut (certain_events heard) (arrival_report heard) before after
closed s heard told mid before after is gave none =
    let gone = gave.0 in
    let all : s.kept ≡ gone = gave.1.kept_are ∙ ap (λ l. gone ++ l) none ∙ append-nil gone in
    record {
      gained = events_since s.last gone;
      more = ap events_of (is.order ∙ ap (λ l. told ++ l) all)
          ∙ events_since-append None told gone
          ∙ ap (λ l. events_of told ++ events_since l gone) (sym is.last_is)
          ∙ ap (λ l. l ++ events_since s.last gone) (sym (certain-is s heard told is));
      out_is = gave.1.out_is;
    }

-- where nothing arrived, nothing is kept
pub kept-none : (s : ReceiverState) (heard : List Heard) (told : List Placed) → StandsHaving s heard told
    → heard ≡ [] → s.kept ≡ []
kept-none s [] told is none = none-behind told s.kept is.order
kept-none s (h ∷ hs) told is none = absurd cc

above-by : (s : ReceiverState) (seq place top : ℕ) (b : Bool) → nat_eq s.arrivals 0 ≡ b → IsPlaceIn s seq place
    → top ≡ (if b then place else s.top) → top < place + 32768
above-by s seq place top true none is begins = omega arith
above-by s seq place top false some is begins =
    let later : IsPlaceAfter s.top seq place = is.later (grind (arith, some)) in
    let above : s.top < place + 32768 = later.above in
    omega arith

-- the greatest place is less than 32,768 above the next one
pub above-from : (s : ReceiverState) (seq place top : ℕ) → IsPlaceIn s seq place → top ≡ top_from s place
    → top < place + 32768
above-from s seq place top is begins = above-by s seq place top (nat_eq s.arrivals 0) refl is begins

-- and the first place where nothing arrived
pub first-from : (s : ReceiverState) (heard : List Heard) (told : List Placed) (place top : ℕ) → StandsHaving s heard told
    → top ≡ top_from s place → heard ≡ [] → top ≡ place
first-from s [] told place top is begins none =
    begins ∙ ap (λ n. if nat_eq n 0 then place else s.top) is.count
first-from s (h ∷ hs) told place top is begins none = absurd cc

-- a place that isn't kept is that of a first arrival
pub first-arrival : {T E : Type 0} → (r : Result T E) (s : ReceiverState) (seq place : ℕ) → place ≡ place_in s seq
    → (0 < s.arrivals → s.top < place + 32768) → has_place place s.kept ≡ false
    → OnErr r ((heard : List Heard) → ReceiverStands s heard → has_place (next_place heard seq) (placed heard) ≡ false)
first-arrival (Ok answer) s seq place is near free = tt
first-arrival (Err error) s seq place is near free = λ heard stands.
    ap (λ p. has_place p (placed heard)) (sym (is ∙ place-next s heard stands.0 seq stands.1))
    ∙ sym (has-is s heard stands.0 place stands.1 near)
    ∙ free
