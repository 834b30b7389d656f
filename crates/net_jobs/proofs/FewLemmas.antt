-- A capture has few records: each has eight bytes at least.
use Rattle.std.proofs.Common.{◌≡◌, inl, inr, ℕ, ◌+◌, ◌*◌, ◌≤◌, List, [], ◌∷◌, length, length-append, refl, ap, ◌∙◌, arith}
use Rattle.std.specs.List.{flat_map}
use Rattle.job_loop.specs.Shown.{Shown}
use Rattle.rec_store.specs.Dump.{DumpRecord, dump_record_bytes}
use Rattle.rec_store.proofs.RecordLemmas.{length-dump_record}
use Rattle.dump_records.specs.declared.item.Item.{Item}
use Rattle.dump_records.specs.Capture.{shown_records, ShowsRest, DumpSettles}

pub length-shown : (at : ℕ) (records : List DumpRecord) → length (shown_records at records) ≡ length records
length-shown at [] = refl
length-shown at (r ∷ rs) = let rest = length-shown (at + (8 + length r.kept)) rs in omega (arith, rest)

records_few : (records : List DumpRecord) → 8 * length records ≤ length (flat_map dump_record_bytes records)
records_few [] = omega arith
records_few (r ∷ rs) =
    let rest = records_few rs in
    let size = length-append (dump_record_bytes r) (flat_map dump_record_bytes rs) in
    omega (arith, rest, size, length-dump_record r)

rest_few : (at : ℕ) (rest : List ℕ) (last : List (Shown Item)) → ShowsRest at rest last → length last ≤ 1
rest_few at rest last (inl part) = let is = ap (λ (l : List (Shown Item)). length l) part.1 in omega (arith, is)
rest_few at rest last (inr short) = let is = ap (λ (l : List (Shown Item)). length l) short.1 in omega (arith, is)

pub capture_few : (h : List ℕ) (rs : List (Shown Item)) → DumpSettles h rs → 8 * length rs ≤ length h + 8
capture_few h rs (inl opening) = let is = ap (λ (l : List (Shown Item)). length l) opening.shows in omega (arith, is)
capture_few h rs (inr (inl bad)) = let is = ap (λ (l : List (Shown Item)). length l) bad.shows in omega (arith, is)
capture_few h rs (inr (inr r)) =
    let is = ap (λ (l : List (Shown Item)). length l) r.shows ∙ length-append (shown_records r.first r.records) r.last in
    omega (
      arith,
      is,
      length-shown r.first r.records,
      records_few r.records,
      rest_few r.at r.rest r.last r.shows_rest,
      r.first_is,
      r.at_is,
    )
