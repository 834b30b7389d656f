-- Records of a capture one after another: how far two lists of bytes agree on them.
use Rattle.std.proofs.Common.{◌≡◌, ℕ, ◌+◌, ◌≤◌, List, [], ◌∷◌, ◌++◌, length, length-append, refl, sym, ap, ◌∙◌, append_assoc, append-nil, arith}
use Rattle.std.proofs.lemmas.Grind.{flat_map-append}
use Rattle.std.specs.List.{AllByRecursion, flat_map}
use Rattle.std.specs.Int.{w16, to_be_bytes}
use Rattle.rec_store.specs.Dump.{DumpRecord, IsDumpRecord, dump_record_head, dump_record_bytes}
use Rattle.rec_store.specs.DumpStore.{IsRecordPart, HasShortLength}
use Rattle.rec_store.proofs.DemoLemmas.{fronts_same}
use Rattle.rec_store.proofs.DumpLemmas.{short_same, dump_record-front}

-- no whole record stands at the front
abbrev pub IsNoRecord : List ℕ → Type 0
IsNoRecord bytes = (r : DumpRecord) (ys : List ℕ) → IsDumpRecord r → bytes ≡ dump_record_bytes r ++ ys → ⊥

pub length-dump_record : (r : DumpRecord) → length (dump_record_bytes r) ≡ 8 + length r.kept
length-dump_record r = length-append (dump_record_head (length r.kept) r.packet_length r.offset) r.kept

pub no_record-nil : IsNoRecord []
no_record-nil r ys is e =
    let size = ap (λ (l : List ℕ). length l) e in
    absurd (omega (arith, size, length-append (dump_record_bytes r) ys, length-dump_record r))

-- ---- lengths below 8

pub short-none : (bytes xs ys : List ℕ) (r : DumpRecord) → HasShortLength bytes → IsDumpRecord r
    → bytes ++ xs ≡ dump_record_bytes r ++ ys → ⊥
short-none bytes xs ys r short is e =
    let n = 8 + length r.kept in
    let left : bytes ++ xs ≡ to_be_bytes w16 short.len ++ (short.more ++ xs) =
    ap (λ l. l ++ xs) short.bytes_are ∙ append_assoc (to_be_bytes w16 short.len) short.more xs in
    let numbers = fronts_same (to_be_bytes w16 short.len) (to_be_bytes w16 n) (short.more ++ xs) _ refl
    (sym left ∙ e) in
    let same : short.len ≡ n = short_same short.len n (omega (arith, short.short)) is.length_fits numbers.0 in
    absurd (omega (arith, same, short.short))

pub short-no_record : (bytes : List ℕ) → HasShortLength bytes → IsNoRecord bytes
short-no_record bytes short r ys is e = short-none bytes [] ys r short is (append-nil bytes ∙ e)

pub short-longer : (bytes more : List ℕ) → HasShortLength bytes → HasShortLength (bytes ++ more)
short-longer bytes more short = record {
  len = short.len;
  short = short.short;
  more = short.more ++ more;
  bytes_are = ap (λ l. l ++ more) short.bytes_are ∙ append_assoc (to_be_bytes w16 short.len) short.more more;
}

pub short-size : (bytes : List ℕ) → HasShortLength bytes → 2 ≤ length bytes
short-size bytes short = omega (arith, ap (λ (l : List ℕ). length l) short.bytes_are)

-- ---- parts

pub part-no_record : (bytes : List ℕ) → IsRecordPart bytes → IsNoRecord bytes
part-no_record bytes part r ys is e =
    let whole : dump_record_bytes part.part_of ++ [] ≡ dump_record_bytes r ++ (ys ++ part.more) =
    append-nil (dump_record_bytes part.part_of) ∙ part.whole ∙ ap (λ l. l ++ part.more) e
    ∙ append_assoc (dump_record_bytes r) ys part.more in
    let behind = (dump_record-front part.part_of r [] (ys ++ part.more) part.is_record is whole).1 in
    let size = ap (λ (l : List ℕ). length l) behind in
    absurd (omega (arith, size, part.some, length-append ys part.more))

pub part-not_short : (bytes : List ℕ) → IsRecordPart bytes → HasShortLength bytes → ⊥
part-not_short bytes part short =
    short-none bytes part.more [] part.part_of short part.is_record
    (sym part.whole ∙ sym (append-nil (dump_record_bytes part.part_of)))

-- ---- many records

pub records-joined : (ps qs : List DumpRecord) → AllByRecursion IsDumpRecord ps → AllByRecursion IsDumpRecord qs
    → AllByRecursion IsDumpRecord (ps ++ qs)
records-joined [] qs a b = b
records-joined (p ∷ ps) qs a b = (a.0, records-joined ps qs a.1 b)

-- the records qs of longer bytes: first the records ps of the shorter ones, and then others
pub record Goes (ps qs : List DumpRecord) (rest rest' more : List ℕ) : Type 0 where
  pub others : List DumpRecord
  pub joined : qs ≡ ps ++ others
  pub are : AllByRecursion IsDumpRecord others
  pub behind : rest ++ more ≡ flat_map dump_record_bytes others ++ rest'

pub records_begin : (ps qs : List DumpRecord) (rest rest' more : List ℕ) → AllByRecursion IsDumpRecord ps
    → AllByRecursion IsDumpRecord qs
    → (flat_map dump_record_bytes ps ++ rest) ++ more ≡ flat_map dump_record_bytes qs ++ rest'
    → IsNoRecord rest' → Goes ps qs rest rest' more
records_begin [] qs rest rest' more a b e none = record { others = qs; joined = refl; are = b; behind = e }
records_begin (p ∷ ps) [] rest rest' more a b e none =
    absurd (none p ((flat_map dump_record_bytes ps ++ rest) ++ more) a.0 (sym e
    ∙ ap (λ l. l ++ more) (append_assoc (dump_record_bytes p) (flat_map dump_record_bytes ps) rest)
    ∙ append_assoc (dump_record_bytes p) (flat_map dump_record_bytes ps ++ rest) more))
records_begin (p ∷ ps) (q ∷ qs) rest rest' more a b e none =
    let both = dump_record-front p q ((flat_map dump_record_bytes ps ++ rest) ++ more)
    (flat_map dump_record_bytes qs ++ rest') a.0 b.0
    (sym (ap (λ l. l ++ more) (append_assoc (dump_record_bytes p) (flat_map dump_record_bytes ps) rest)
    ∙ append_assoc (dump_record_bytes p) (flat_map dump_record_bytes ps ++ rest) more)
    ∙ e ∙ append_assoc (dump_record_bytes q) (flat_map dump_record_bytes qs) rest') in
    let next = records_begin ps qs rest rest' more a.1 b.1 both.1 none in
    record {
      others = next.others;
      joined = ap (λ r. r ∷ qs) (sym both.0) ∙ ap (λ l. p ∷ l) next.joined;
      are = next.are;
      behind = next.behind;
    }

-- records one after another, and one more behind them
pub records-more : (ps : List DumpRecord) (r : DumpRecord) (rest own : List ℕ) → rest ++ own ≡ dump_record_bytes r
    → (flat_map dump_record_bytes ps ++ rest) ++ own ≡ flat_map dump_record_bytes (ps ++ r ∷ []) ++ []
records-more ps r rest own is =
    append_assoc (flat_map dump_record_bytes ps) rest own ∙ ap (λ l. flat_map dump_record_bytes ps ++ l) is
    ∙ ap (λ l. flat_map dump_record_bytes ps ++ l) (sym (append-nil (dump_record_bytes r)))
    ∙ sym (flat_map-append dump_record_bytes ps (r ∷ []))
    ∙ sym (append-nil (flat_map dump_record_bytes (ps ++ r ∷ [])))
