-- Bytes behind a front of a capture that the machine stands for.
use Rattle.std.proofs.Common.{◌≡◌, ℕ, ◌+◌, ◌<◌, List, [], ◌∷◌, ◌++◌, length, length-append, take, drop, refl, sym, ap, ◌∙◌, subst, append_assoc, append-nil, arith}
use Rattle.std.proofs.lemmas.Grind.{flat_map-append}
use Rattle.std.specs.List.{flat_map}
use Rattle.std.specs.Int.{w16, to_be_bytes}
use Rattle.job_loop.specs.Shown.{Shown}
use Rattle.rec_store.specs.Dump.{DumpRecord, dump_record_bytes, packet_of_record}
use Rattle.rec_store.specs.DumpLine.{IsDumpLine}
use Rattle.rec_store.specs.DumpItem.{TellsRecord}
use Rattle.rec_store.specs.DumpStore.{AreBytes, IsDumpOpening}
use Rattle.rec_store.specs.declared.dump_item.DumpItem.{DumpItem}
use Rattle.rec_store.specs.declared.stop.StoreFault.TheVariants.{DumpLength}
use Rattle.opus_io.proofs.BytesLemmas.{AreBytes-append}
use Rattle.rec_store.proofs.ItemLemmas.{packet-taken}
use Rattle.rec_store.proofs.PartLemmas.{dump_head-of}
use Rattle.rec_store.proofs.RecordLemmas.{length-dump_record, short-longer}
use Rattle.rec_store.proofs.StoreLemmas.{front-more, front-longer, front-opening}
use Rattle.dump_records.specs.declared.item.Item.{Item}
use Rattle.dump_records.specs.declared.item.Found.TheVariants.{Record, Bad}
use Rattle.dump_records.specs.Capture.{shown_item, shown_record, shown_records, bad_record}
use Rattle.dump_records.specs.CaptureLaws.{shown_records-joined}
use Rattle.dump_records.specs.DumpForm.{InHead, InRecords, InRecord, InShort}

-- ---- the opening

pub head_begins : (h : List ℕ) → IsDumpLine h → InHead 0 h
head_begins h is = record { line = h; part = []; is_line = is; are = tt; parts = sym (append-nil h); count = refl }

pub head_more : (seen : ℕ) (h own : List ℕ) → InHead seen h → AreBytes own → InHead (seen + length own) (h ++ own)
head_more seen h own s bytes = record {
  line = s.line;
  part = s.part ++ own;
  is_line = s.is_line;
  are = AreBytes-append s.part own s.are bytes;
  parts = ap (λ l. l ++ own) s.parts ∙ append_assoc s.line s.part own;
  count = length-append s.part own ∙ ap (λ n. n + length own) s.count;
}

pub head_whole : (h : List ℕ) → InHead 16 h → InRecords h [] []
head_whole h s =
    let head = dump_head-of s.part s.are s.count in
    let opening : IsDumpOpening head.0 h =
    record { line = s.line; numbers = s.part; is_line = s.is_line; is_head = head.1; bytes_are = s.parts } in
    record {
      head = head.0;
      records = [];
      front = front-opening head.0 h opening;
      first = length h;
      first_is = omega arith;
      shows = refl;
    }

-- ---- records

spelled_more : (rs : List DumpRecord) (r : DumpRecord) → length (flat_map dump_record_bytes (rs ++ r ∷ []))
    ≡ length (flat_map dump_record_bytes rs) + length (dump_record_bytes r)
spelled_more rs r =
    ap (λ (l : List ℕ). length l) (flat_map-append dump_record_bytes rs (r ∷ [])
    ∙ ap (λ l. flat_map dump_record_bytes rs ++ l) (append-nil (dump_record_bytes r)))
    ∙ length-append (flat_map dump_record_bytes rs) (dump_record_bytes r)

-- what is told of a record is what is shown of it
shown_told : (place : ℕ) (bytes : List ℕ) (item : DumpItem) (size : ℕ) (t : TellsRecord bytes item size)
    → shown_record place t.told ≡ shown_item place (Record item) (take size (drop 8 bytes))
shown_told place bytes item size t =
    let r = t.told in
    ap (λ i. shown_item place (Record i) (packet_of_record r)) (sym t.item_is)
    ∙ ap (λ l. shown_item place (Record item) l) (sym (packet-taken r)
    ∙ ap (λ n. take n r.kept) (sym t.size_is) ∙ ap (λ l. take size (drop 8 l)) (sym t.bytes_are))

-- the rest becomes a whole record
records_whole : (h own : List ℕ) (rs : List (Shown Item)) (rest : List ℕ) (item : DumpItem) (size place : ℕ)
    → InRecords h rs rest → TellsRecord (rest ++ own) item size → place ≡ length h + length own
    → InRecords (h ++ own) (rs ++ shown_item place (Record item) (take size (drop 8 (rest ++ own))) ∷ []) []
records_whole h own rs rest item size place s t at =
    let r = t.told in
    let spelled = flat_map dump_record_bytes s.records in
    let record_size = ap (λ (l : List ℕ). length l) t.bytes_are in
    let size_of = length-dump_record r in
    let ends : s.first + length spelled + (8 + length r.kept) ≡ place =
    omega (arith, at, s.first_is, record_size, length-append rest own, size_of) in
    record {
      head = s.head;
      records = s.records ++ r ∷ [];
      front = front-more h own s.head s.records rest r s.front t.is_record t.bytes_are;
      first = s.first;
      first_is = omega (arith, at, ends, spelled_more s.records r, size_of, length-append h own);
      shows = ap (λ l. l ++ shown_item place (Record item) (take size (drop 8 (rest ++ own))) ∷ []) s.shows
          ∙ ap (λ x. shown_records s.first s.records ++ x ∷ []) (sym (shown_told place (rest ++ own) item size t)
          ∙ ap (λ n. shown_record n r) (sym ends))
          ∙ sym (shown_records-joined s.first s.records (r ∷ []));
    }

pub records_longer : (h own : List ℕ) (rs : List (Shown Item)) (rest : List ℕ) → InRecords h rs rest
    → InRecords (h ++ own) rs (rest ++ own)
records_longer h own rs rest s = record {
  head = s.head;
  records = s.records;
  front = front-longer h own s.head s.records rest s.front;
  first = s.first;
  first_is = omega (arith, s.first_is, length-append h own, length-append rest own);
  shows = s.shows;
}

pub record_begins : (h own : List ℕ) (rs : List (Shown Item)) → InRecords h rs [] → AreBytes own
    → InRecord own (h ++ own) rs
record_begins h own rs s bytes = record { before = records_longer h own rs [] s; are = bytes }

pub record_more : (came h own : List ℕ) (rs : List (Shown Item)) → InRecord came h rs → AreBytes own
    → InRecord (came ++ own) (h ++ own) rs
record_more came h own rs s bytes = record {
  before = records_longer h own rs came s.before;
  are = AreBytes-append came own s.are bytes;
}

-- its length is below 8
record_short : (start len : ℕ) (h own : List ℕ) (rs : List (Shown Item)) (rest : List ℕ) → InRecords h rs rest
    → start + length rest ≡ length h → len < 8 → rest ++ own ≡ to_be_bytes w16 len
    → InShort (h ++ own) (rs ++ bad_record (start + 2) (DumpLength start) ∷ [])
record_short start len h own rs rest s at short is = record {
  told = rs;
  rest = rest ++ own;
  before = records_longer h own rs rest s;
  at = start;
  begins = omega (arith, at, length-append rest own, length-append h own);
  short = record { len = len; short = short; more = []; bytes_are = is ∙ sym (append-nil (to_be_bytes w16 len)) };
  shows = refl;
}

-- bytes behind that change nothing
pub short_longer : (h own : List ℕ) (rs : List (Shown Item)) → InShort h rs → InShort (h ++ own) rs
short_longer h own rs s = record {
  told = s.told;
  rest = s.rest ++ own;
  before = records_longer h own s.told s.rest s.before;
  at = s.at;
  begins = omega (arith, s.begins, length-append s.rest own, length-append h own);
  short = short-longer s.rest own s.short;
  shows = s.shows;
}

-- ---- the record that stands

-- the rest becomes a whole record, and this is told of it
pub record_stands : (h own : List ℕ) (rs : List (Shown Item)) (rest : List ℕ) (item : Item) (told : DumpItem)
    (size place : ℕ) → InRecords h rs rest → TellsRecord (rest ++ own) told size → place ≡ length h + length own
    → item ≡ record { place = place; found = Record told }
    → InRecords (h ++ own) (rs ++ record { item = item; bytes = take size (drop 8 (rest ++ own)) } ∷ []) []
record_stands h own rs rest item told size place s t at is =
    subst (λ i. InRecords (h ++ own) (rs ++ record { item = i; bytes = take size (drop 8 (rest ++ own)) } ∷ []) [])
    (sym is) (records_whole h own rs rest told size place s t at)

-- its length is below 8
pub bad_stands : (h own : List ℕ) (rs : List (Shown Item)) (rest : List ℕ) (item : Item) (start len place : ℕ)
    → InRecords h rs rest → start + length rest ≡ length h → len < 8 → rest ++ own ≡ to_be_bytes w16 len
    → place ≡ start + 2 → item ≡ record { place = place; found = Bad (DumpLength start) }
    → InShort (h ++ own) (rs ++ record { item = item; bytes = [] } ∷ [])
bad_stands h own rs rest item start len place s at short spelled ends is =
    subst (λ i. InShort (h ++ own) (rs ++ record { item = i; bytes = [] } ∷ []))
    (sym (is ∙ ap (λ n. record { place = n; found = Bad (DumpLength start) }) ends))
    (record_short start len h own rs rest s at short spelled)
