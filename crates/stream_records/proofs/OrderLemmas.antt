-- Records come in the order in which they are decided.
use Rattle.std.proofs.Common.{inl, inr, ℕ, List, length, Option, sym, ap, subst, arith}
use Rattle.job_loop.specs.Shown.{Shown}
use Rattle.job_loop.specs.FirstFault.{InOrder}
use Rattle.pack_records.specs.declared.cut.Cut.{Cut}
use Rattle.pack_records.proofs.StoreOrders.{IsWithin, settled_in_order}
use Rattle.stream_records.specs.declared.item.StreamsItem.{StreamsItem}
use Rattle.stream_records.specs.Demo.{DemoSettles}
use Rattle.stream_records.specs.Holds.{Choices, Holds}
use Rattle.stream_records.specs.HoldsLaws.{stand_sizes}
use Rattle.stream_records.specs.Raw.{RawEnds}
use Rattle.stream_records.specs.StreamReading.{streams_show}
use Rattle.stream_records.specs.StreamReadingLaws.{streams_showing}

-- in order from a place on
InPlaces : ℕ → List (Shown StreamsItem) → Type 0
InPlaces at rs = InOrder (λ r. r.item.place) at rs

pub raw_in_order : (c : Choices) (h : List ℕ) (rs : List (Shown StreamsItem)) (cut : Option Cut) → RawEnds c h rs cut
    → InOrder (λ r. r.item.place) 0 rs
unfolding InPlaces
raw_in_order c h rs cut ends = subst (InPlaces 0) (sym ends.records_are) (omega arith, tt)

streams_within : (c : Choices) (start range : ℕ) (bytes : List ℕ) (r : Shown StreamsItem) → Holds c start range bytes r
    → IsWithin start (length bytes) r.item.place
streams_within c start range bytes r (inl p) =
    let is = ap (λ (x : Shown StreamsItem). x.item.place) p.shows in
    (omega (arith, is), omega (arith, is))
streams_within c start range bytes r (inr (inl p)) =
    let is = ap (λ (x : Shown StreamsItem). x.item.place) p.shows in
    let sizes = stand_sizes p.broken.first bytes p.broken.rest p.broken.stand in
    (omega (arith, is), omega (arith, is, sizes))
streams_within c start range bytes r (inr (inr p)) =
    let is = ap (λ (x : Shown StreamsItem). x.item.place) p.shows in
    (omega (arith, is), omega (arith, is))

pub demo_in_order : (c : Choices) (h : List ℕ) (rs : List (Shown StreamsItem)) → DemoSettles c h rs
    → InOrder (λ r. r.item.place) 0 rs
demo_in_order c h rs settles =
    settled_in_order (streams_show c) (λ r. r.item.place) (streams_showing c) (streams_within c) h rs settles
