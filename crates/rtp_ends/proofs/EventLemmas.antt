-- Events of arrivals in two parts.
use Rattle.std.proofs.Common.{◌≡◌, ℕ, List, [], ◌∷◌, ◌++◌, Option, None, Some, refl, ap, sym, ◌∙◌, append_assoc}
use Rattle.rtp_ends.specs.Numbers.{Placed}
use Rattle.rtp_ends.specs.Report.{packet_event, gap_between, events_after}
use Rattle.rtp_ends.specs.Holding.{events_since, last_of}

events_after-append : (p : ℕ) (xs ys : List Placed)
    → events_after p (xs ++ ys) ≡ events_after p xs ++ events_since (last_of (Some p) xs) ys
events_after-append p [] ys = refl
events_after-append p (x ∷ xs) ys =
    ap (λ l. gap_between p x.place ++ packet_event x ∷ l) (events_after-append x.place xs ys)
    ∙ sym (append_assoc (gap_between p x.place) (packet_event x ∷ events_after x.place xs)
    (events_since (last_of (Some x.place) xs) ys))

pub events_since-append : (last : Option ℕ) (xs ys : List Placed)
    → events_since last (xs ++ ys) ≡ events_since last xs ++ events_since (last_of last xs) ys
events_since-append (Some p) xs ys = events_after-append p xs ys
events_since-append None [] ys = refl
events_since-append None (x ∷ xs) ys = ap (λ l. packet_event x ∷ l) (events_after-append x.place xs ys)

pub last_of-append : (last : Option ℕ) (xs ys : List Placed)
    → last_of last (xs ++ ys) ≡ last_of (last_of last xs) ys
last_of-append last [] ys = refl
last_of-append last (x ∷ xs) ys = last_of-append (Some x.place) xs ys
