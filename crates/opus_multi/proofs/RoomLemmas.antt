-- The parts that a feed of multistream packets keeps, and their durations.
use Rattle.std.proofs.Common.{◌≡◌, ℕ, ◌+◌, ◌<◌, List, [], ◌∷◌, ◌++◌, length, map, replicate, Option, Some, None, refl, ap, sym, subst, arith, length-append}
use Rattle.std.proofs.lemmas.List.{map_push, length-map}
use Rattle.opus_packet.specs.Value.{duration_of}
use Rattle.opus_packet.specs.Read.{PacketRead}
use Rattle.opus_packet.specs.Tail.{kept_bytes}
use Rattle.opus_multi.specs.Parts.{dropped_of}
use Rattle.opus_multi.specs.StreamParts.{part_as}
use Rattle.opus_multi.specs.declared.durations.Durations.{Durations}
use Rattle.opus_multi.specs.declared.part.Part.{Part}
use Rattle.opus_multi.specs.declared.multi_place.MultiPlace.{MultiPlace}
use Rattle.opus_multi.specs.declared.multi_place.MultiPlace.TheVariants.{Reading, Done, Failed}
use Rattle.opus_multi.specs.Durations.{HaveOneDuration}
use Rattle.opus_multi.specs.Joins.{held_durations}
use Rattle.opus_multi.specs.Told.{Told, Says}
use Rattle.opus_multi.specs.MultiRooms.{part_durations, HasEqual, HasRoom}

-- the part of a packet
pub part_is : (part : Part) (p : PacketRead) → part.held.value ≡ p.value → part.held.tail ≡ kept_bytes p.tail
    → part.shape ≡ p.shape → part.size ≡ p.size → part.dropped ≡ dropped_of p.tail → part ≡ part_as p
part_is part p value tail shape size dropped = at_fields
  where
    at_fields : part ≡ record { held = record { value = p.value; tail = kept_bytes p.tail }; shape = p.shape; size = p.size; dropped = dropped_of p.tail }
    at_fields = rw (sym value, sym tail, sym shape, sym size, sym dropped) refl

-- nothing else was told before
none_before : (o new : Option ℕ) → ((k : ℕ) → o ≡ Some k → new ≡ Some k) → new ≡ None → o ≡ None
none_before None new stays none = refl
none_before (Some k) new stays none = let e : new ≡ Some k = stays k refl in cc

pub equal_push : (d new : Durations) (parts : List Part) (part : Part) (duration : ℕ)
    → (d.other ≡ None → part_durations parts ≡ replicate (length parts) d.first)
    → ((ds : List ℕ) → length ds ≡ length parts → Told d ds → Told new (ds ++ duration ∷ []))
    → ((k : ℕ) → d.other ≡ Some k → new.other ≡ Some k) → duration ≡ duration_of part.held.value
    → new.other ≡ None → part_durations (parts ++ part ∷ []) ≡ replicate (length (parts ++ part ∷ [])) new.first
equal_push d new parts part duration equal told stays is none =
    let before = none_before d.other new.other stays none in
    let count : length (part_durations parts) ≡ length parts = length-map parts (λ (p : Part). duration_of p.held.value) in
    let first : Told d (part_durations parts) = rw before (rw count (equal before)) in
    let all : Says new.first None (part_durations parts ++ duration ∷ []) =
    subst (λ o. Says new.first o (part_durations parts ++ duration ∷ [])) none (told (part_durations parts) count first) in
    let pushed : part_durations (parts ++ part ∷ []) ≡ part_durations parts ++ duration ∷ [] = rw is (map_push (λ (p : Part). duration_of p.held.value) parts part) in
    let size : length (part_durations parts ++ duration ∷ []) ≡ length (parts ++ part ∷ []) = omega (arith, count, length-append (part_durations parts) (duration ∷ []), length-append parts (part ∷ [])) in
    rw pushed (rw size at all)

-- the durations of parts and those of what they hold
pub held-parts : (parts : List Part) → held_durations (map (λ p. p.held) parts) ≡ part_durations parts
held-parts [] = refl
held-parts (p ∷ ps) = ap (λ l. duration_of p.held.value ∷ l) (held-parts ps)

pub all_one : (parts : List Part) (first : ℕ) → part_durations parts ≡ replicate (length parts) first
    → HaveOneDuration (held_durations (map (λ p. p.held) parts))
all_one parts first equal = (first, rw (held-parts parts, length-map parts (λ (p : Part). duration_of p.held.value)) equal)

-- one part more

pub room_kept : (place : MultiPlace) (streams : ℕ) (d new : Durations) (parts all : List Part) (part : Part) (duration : ℕ)
    → place ≡ Reading → HasRoom place streams d parts → length parts + 1 < streams
    → ((ds : List ℕ) → length ds ≡ length parts → Told d ds → Told new (ds ++ duration ∷ []))
    → ((k : ℕ) → d.other ≡ Some k → new.other ≡ Some k) → duration ≡ duration_of part.held.value
    → all ≡ parts ++ part ∷ [] → HasRoom place streams new all
room_kept Reading streams d new parts all part duration reading room more told stays is pushed = record {
  room = omega (arith, more, ap length pushed, length-append parts (part ∷ []));
  equal = rw pushed (equal_push d new parts part duration room.equal told stays is);
}
room_kept Done streams d new parts all part duration reading room more told stays is pushed = cc
room_kept (Failed f) streams d new parts all part duration reading room more told stays is pushed = cc

pub equal_kept : (place : MultiPlace) (streams : ℕ) (d new : Durations) (parts all : List Part) (part : Part) (duration : ℕ)
    → place ≡ Reading → HasRoom place streams d parts → new.other ≡ None
    → ((ds : List ℕ) → length ds ≡ length parts → Told d ds → Told new (ds ++ duration ∷ []))
    → ((k : ℕ) → d.other ≡ Some k → new.other ≡ Some k) → duration ≡ duration_of part.held.value
    → all ≡ parts ++ part ∷ [] → HasEqual new all
equal_kept Reading streams d new parts all part duration reading room none told stays is pushed = record {
  some = omega (arith, ap length pushed, length-append parts (part ∷ []));
  equal = rw pushed (equal_push d new parts part duration room.equal told stays is none);
}
equal_kept Done streams d new parts all part duration reading room none told stays is pushed = cc
equal_kept (Failed f) streams d new parts all part duration reading room none told stays is pushed = cc
