-- Each input has records, and they come in the order in which they are decided.
use Rattle.std.proofs.Common.{◌≡◌, ◌⊎◌, inl, inr, ℕ, ◌+◌, ◌≤◌, List, [], ◌∷◌, ◌++◌, length, length-append, sym, ap, ◌∙◌, subst, Some, None, arith}
use Rattle.std.specs.declared.option.Option.{Option}
use Rattle.std.specs.List.{flat_map}
use Rattle.job_loop.specs.Shown.{Shown}
use Rattle.job_loop.specs.FirstFault.{InOrder}
use Rattle.rec_store.specs.Dump.{DumpRecord, dump_record_bytes}
use Rattle.rec_store.specs.DumpStore.{AreBytes, IsDumpFront, IsRecordPart, HasShortLength}
use Rattle.rec_store.specs.declared.dump_opening.DumpHead.{DumpHead}
use Rattle.rec_store.specs.declared.stop.StoreFault.{StoreFault}
use Rattle.rec_store.specs.declared.stop.StoreFault.TheVariants.{StoreCut, DumpLine, DumpLength}
use Rattle.rec_store.proofs.FaultLemmas.{parts-cut}
use Rattle.rec_store.proofs.RecordLemmas.{length-dump_record}
use Rattle.dump_records.specs.declared.item.Item.{Item}
use Rattle.dump_records.specs.Capture.{shown_records, bad_record, ShowsRest, DumpSettles, DumpEnds}
use Rattle.dump_records.proofs.KindLemmas.{Openings, opening_part, bad_opening, whole_opening, openings, reads}
use Rattle.dump_records.proofs.LawLemmas.{whole_shows, cut_shows, line_shows, length_shows}

-- ---- each input has records

HasEnd : List ℕ → Type 0
HasEnd x = (rs : List (Shown Item)) × (cut : Option StoreFault) × DumpEnds x rs cut

front_ends : (x : List ℕ) (head : DumpHead) (records : List DumpRecord) (rest : List ℕ)
    → IsDumpFront x head records rest → IsRecordPart rest ⊎ HasShortLength rest → HasEnd x
unfolding HasEnd
front_ends x head records [] front (inl part) =
    let shows = whole_shows x head records front in
    (shown_records shows.0 records, None, shows.1)
front_ends x head records (b ∷ rest) front (inl part) =
    let cut = cut_shows x (parts-cut x (inr record {
      head = head;
      records = records;
      rest = b ∷ rest;
      front = front;
      part = part;
      some = omega arith;
    })) in
    (cut.0, Some (StoreCut (length x)), cut.1)
front_ends x head records rest front (inr short) =
    let spelled = flat_map dump_record_bytes records in
    let place = length front.opening + length spelled in
    let size = ap (λ (l : List ℕ). length l) front.parts in
    let bad = length_shows x place (record {
      head = head;
      records = records;
      rest = rest;
      front = front;
      short = short;
      place_is = omega (arith, size, length-append front.opening (spelled ++ rest), length-append spelled rest);
    }) in
    (bad.0 ++ bad_record (place + 2) (DumpLength place) ∷ [], None, bad.1)

pub has_records : (x : List ℕ) → AreBytes x
    → (rs : List (Shown Item)) × (cut : Option StoreFault) × DumpEnds x rs cut
unfolding HasEnd
has_records x are = go (openings x are)
  where
    go : Openings x → HasEnd x
    go (opening_part part) =
        let cut = cut_shows x (parts-cut x (inl part)) in
        (cut.0, Some (StoreCut (length x)), cut.1)
    go (bad_opening place bad) = (bad_record (place + 1) (DumpLine place) ∷ [], None, line_shows x place bad)
    go (whole_opening head opening behind is behind_are parts) =
        let r = reads (length behind) behind (omega arith) behind_are in
        front_ends x head r.records r.rest
        (record { opening = opening; is_opening = is; are = r.are; parts = parts ∙ ap (λ l. opening ++ l) r.parts })
        r.last

-- ---- their order

-- records in order from here on
InPlaces : ℕ → List (Shown Item) → Type 0
InPlaces at rs = InOrder (λ r. r.item.place) at rs

sooner : (from at : ℕ) (rs : List (Shown Item)) → from ≤ at → InPlaces at rs → InPlaces from rs
unfolding InPlaces
sooner from at [] less order = tt
sooner from at (r ∷ rs) less order = (omega (arith, less, order.0), order.1)

records_in_order : (from at : ℕ) (records : List DumpRecord) (last : List (Shown Item)) → from ≤ at
    → InPlaces (at + length (flat_map dump_record_bytes records)) last → InPlaces from (shown_records at records ++ last)
unfolding InPlaces
records_in_order from at [] last less order = sooner from (at + 0) last (omega (arith, less)) order
records_in_order from at (r ∷ rs) last less order =
    let next = at + (8 + length r.kept) in
    let size = length-append (dump_record_bytes r) (flat_map dump_record_bytes rs) in
    let same : at + length (flat_map dump_record_bytes (r ∷ rs)) ≡ next + length (flat_map dump_record_bytes rs) =
    omega (arith, size, length-dump_record r) in (
      omega (arith, less),
      records_in_order next next rs last (omega arith) (subst (λ n. InPlaces n last) same order),
    )

rest_in_order : (at : ℕ) (rest : List ℕ) (last : List (Shown Item)) → ShowsRest at rest last → InPlaces at last
unfolding InPlaces
rest_in_order at rest last (inl part) = subst (λ l. InPlaces at l) (sym part.1) tt
rest_in_order at rest last (inr short) = subst (λ l. InPlaces at l) (sym short.1) (omega arith, tt)

pub settled_in_order : (h : List ℕ) (rs : List (Shown Item)) → DumpSettles h rs → InOrder (λ r. r.item.place) 0 rs
unfolding InPlaces
settled_in_order h rs (inl opening) = subst (λ l. InPlaces 0 l) (sym opening.shows) tt
settled_in_order h rs (inr (inl bad)) = subst (λ l. InPlaces 0 l) (sym bad.shows) (omega arith, tt)
settled_in_order h rs (inr (inr r)) =
    subst (λ l. InPlaces 0 l) (sym r.shows)
    (records_in_order 0 r.first r.records r.last (omega arith)
    (subst (λ n. InPlaces n r.last) (sym r.first_is) (rest_in_order r.at r.rest r.last r.shows_rest)))
