-- Records come in the order in which they are decided.
use Rattle.std.proofs.Common.{◌≡◌, inl, inr, ℕ, ◌+◌, List, [], ◌∷◌, length, Option, sym, ap, subst, arith}
use Rattle.job_loop.specs.Shown.{Shown}
use Rattle.job_loop.specs.FirstFault.{InOrder}
use Rattle.opus_feed.specs.declared.framing.Framing.TheVariants.{Whole}
use Rattle.opus_feed.specs.declared.padding.Padding.{Padding}
use Rattle.pack_records.specs.declared.cut.Cut.{Cut}
use Rattle.pack_records.specs.declared.item.Item.{Item}
use Rattle.pack_records.specs.Demo.{DemoSettles}
use Rattle.pack_records.specs.Framed.{Shows, end_records, SelfEnds}
use Rattle.pack_records.specs.Holds.{Holds}
use Rattle.pack_records.specs.Raw.{RawEnds}
use Rattle.pack_records.specs.Undelimited.{packet_shows}
use Rattle.pack_records.specs.UndelimitedLaws.{packet_lawful}
use Rattle.pack_records.proofs.StoreOrders.{IsWithin, settled_in_order}

-- in order from a place on
InPlaces : ℕ → List (Shown Item) → Type 0
InPlaces at rs = InOrder (λ r. r.item.place) at rs

-- one packet

pub raw_in_order : (padding : Padding) (h : List ℕ) (rs : List (Shown Item)) (cut : Option Cut) → RawEnds padding h rs cut
    → InOrder (λ r. r.item.place) 0 rs
unfolding InPlaces
raw_in_order padding h rs cut ends = subst (InPlaces 0) (sym ends.records_are) (omega arith, tt)

-- a store

packet_within : (padding : Padding) (start range : ℕ) (bytes : List ℕ) (r : Shown Item)
    → Holds padding Whole start range bytes r → IsWithin start (length bytes) r.item.place
packet_within padding start range bytes r (inl p) =
    let is = ap (λ (x : Shown Item). x.item.place) p.shows in
    (omega (arith, is), omega (arith, is))
packet_within padding start range bytes r (inr p) =
    let is = ap (λ (x : Shown Item). x.item.place) p.shows in
    (omega (arith, is), omega (arith, is))

pub demo_in_order : (padding : Padding) (h : List ℕ) (rs : List (Shown Item)) → DemoSettles padding h rs
    → InOrder (λ r. r.item.place) 0 rs
demo_in_order padding h rs settles =
    settled_in_order (packet_shows padding) (λ r. r.item.place) (packet_lawful.showing padding) (packet_within padding) h rs settles

-- self-delimited packets

end_in_order : (start : ℕ) (rest : List ℕ) → InPlaces start (end_records start rest)
unfolding InPlaces
end_in_order start [] = tt
end_in_order start (x ∷ xs) = (omega arith, tt)

shows_in_order : (padding : Padding) (from start : ℕ) (ps : List (List ℕ)) (rest : List ℕ) (rs : List (Shown Item))
    → from ≡ start → Shows padding end_records start ps rest rs → InPlaces from rs
unfolding InPlaces
shows_in_order padding from start [] rest rs same shows =
    subst (λ n. InPlaces n rs) (sym same) (subst (InPlaces start) (sym shows) (end_in_order start rest))
shows_in_order padding from start (p ∷ ps) rest [] same shows = absurd shows
shows_in_order padding from start (p ∷ ps) rest (r ∷ rs) same shows =
    let is = ap (λ (x : Shown Item). x.item.place) shows.0.shows in (
      omega (arith, same, is),
      shows_in_order padding r.item.place (start + length p) ps rest rs (omega (arith, is)) shows.1,
    )

pub self_in_order : (padding : Padding) (h : List ℕ) (rs : List (Shown Item)) (cut : Option Cut)
    → SelfEnds padding h rs cut → InOrder (λ r. r.item.place) 0 rs
unfolding InPlaces
self_in_order padding h rs cut (rest, framed, is) =
    shows_in_order padding 0 0 framed.packets rest rs (omega arith) framed.shows
