-- What each kind of input shows.
use Rattle.std.proofs.Common.{◌≡◌, ◌⊎◌, inl, inr, ℕ, ◌+◌, List, [], ◌∷◌, ◌++◌, length, length-append, refl, ap, subst, append-nil, Some, None, arith}
use Rattle.std.specs.List.{flat_map}
use Rattle.job_loop.specs.Shown.{Shown}
use Rattle.rec_store.specs.Dump.{DumpRecord, dump_record_bytes}
use Rattle.rec_store.specs.DumpLine.{IsBadLine}
use Rattle.rec_store.specs.DumpStore.{IsDumpFront, IsDump, IsStoreCut, IsOpeningPart, IsRecordCut, IsBadLength}
use Rattle.rec_store.specs.declared.dump_opening.DumpHead.{DumpHead}
use Rattle.rec_store.specs.declared.stop.StoreFault.TheVariants.{StoreCut, DumpLine, DumpLength}
use Rattle.rec_store.proofs.FaultLemmas.{cut-parts, bad_line-not_cut, bad_length-not_cut}
use Rattle.rec_store.proofs.PartLemmas.{record_part-nil}
use Rattle.dump_records.specs.declared.item.Item.{Item}
use Rattle.dump_records.specs.Capture.{shown_records, bad_record, ShowsRest, ShowsRecords, DumpEnds}

-- where the records of a front begin
first_of : (x : List ℕ) (head : DumpHead) (records : List DumpRecord) (rest : List ℕ)
    → IsDumpFront x head records rest → ℕ
first_of x head records rest f = length f.opening

front_shows : (x : List ℕ) (head : DumpHead) (records : List DumpRecord) (rest : List ℕ) (at : ℕ)
    (last : List (Shown Item)) (f : IsDumpFront x head records rest) → at + length rest ≡ length x
    → ShowsRest at rest last → ShowsRecords x (shown_records (first_of x head records rest f) records ++ last)
unfolding first_of
front_shows x head records rest at last f ends shows =
    let spelled = flat_map dump_record_bytes records in
    let size = ap (λ (l : List ℕ). length l) f.parts in
    record {
      head = head;
      records = records;
      rest = rest;
      front = f;
      first = length f.opening;
      at = at;
      first_is = omega (arith, ends, size, length-append f.opening (spelled ++ rest), length-append spelled rest);
      at_is = ends;
      last = last;
      shows_rest = shows;
      shows = refl;
    }

pub whole_shows : (x : List ℕ) (head : DumpHead) (records : List DumpRecord) → IsDump x head records
    → (first : ℕ) × DumpEnds x (shown_records first records) None
whole_shows x head records is =
    let first = first_of x head records [] is in (
      first,
      (
        inr (inr (subst (ShowsRecords x) (append-nil (shown_records first records))
            (front_shows x head records [] (length x) [] is (omega arith) (inl (record_part-nil, refl))))),
        λ cut. cut.not_whole head records is,
      ),
    )

pub cut_shows : (x : List ℕ) → IsStoreCut x → (rs : List (Shown Item)) × DumpEnds x rs (Some (StoreCut (length x)))
cut_shows x cut = go (cut-parts x cut)
  where
    go : IsOpeningPart x ⊎ IsRecordCut x → (rs : List (Shown Item)) × DumpEnds x rs (Some (StoreCut (length x)))
    go (inl part) = ([], (inl record { part = part; shows = refl }, (cut, refl)))
    go (inr r) =
        let size = ap (λ (l : List ℕ). length l) r.front.parts in
        let spelled = flat_map dump_record_bytes r.records in
        let at = length r.front.opening + length spelled in
        let ends : at + length r.rest ≡ length x =
        omega (arith, size, length-append r.front.opening (spelled ++ r.rest), length-append spelled r.rest) in (
          shown_records (first_of x r.head r.records r.rest r.front) r.records ++ [],
          (
            inr (inr (front_shows x r.head r.records r.rest at [] r.front ends (inl (r.part, refl)))),
            (cut, refl),
          ),
        )

pub line_shows : (x : List ℕ) (place : ℕ) → IsBadLine x place
    → DumpEnds x (bad_record (place + 1) (DumpLine place) ∷ []) None
line_shows x place bad = (inr (inl record { place = place; bad = bad; shows = refl }), bad_line-not_cut x place bad)

pub length_shows : (x : List ℕ) (place : ℕ) → IsBadLength x place
    → (rs : List (Shown Item)) × DumpEnds x (rs ++ bad_record (place + 2) (DumpLength place) ∷ []) None
length_shows x place bad = (
  shown_records (first_of x bad.head bad.records bad.rest bad.front) bad.records,
  (
    inr (inr (front_shows x bad.head bad.records bad.rest place (bad_record (place + 2) (DumpLength place) ∷ [])
        bad.front bad.place_is (inr (bad.short, refl)))),
    bad_length-not_cut x place bad,
  ),
)
