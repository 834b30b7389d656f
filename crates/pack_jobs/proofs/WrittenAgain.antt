-- Records that are written, each a packet in a spelling or a lost one, are read again as they are.
use Rattle.std.proofs.Common.{◌≡◌, ◌≢◌, ℕ, ◌+◌, ◌^◌, ◌<◌, ◌≤◌, List, [], ◌∷◌, ◌++◌, length, Option, None, map, flat_map, inl, inr, refl, sym, ap, ◌∙◌, subst, append-nil, arith}
use Rattle.std.specs.List.{AllByRecursion, concat}
use Rattle.job_loop.specs.Shown.{Shown}
use Rattle.rec_store.proofs.DemoLemmas.{NoWholeRecord-short}
use Rattle.opus_packet.specs.declared.shape.Shape.{Shape}
use Rattle.opus_packet.specs.PacketPrefix.{AreBytes}
use Rattle.opus_packet.specs.Value.{PacketValue}
use Rattle.opus_packet.proofs.BytesLemmas.{AreBytes-append}
use Rattle.opus_feed.specs.declared.framing.Framing.TheVariants.{Whole, SelfDelimited as Delimited}
use Rattle.opus_feed.specs.declared.padding.Padding.{Padding}
use Rattle.opus_words.specs.declared.form.Form.{Form}
use Rattle.opus_words.specs.declared.form.Form.TheVariants.{Raw, Demo, SelfDelimited}
use Rattle.pack_records.specs.declared.cut.Cut.{Cut}
use Rattle.pack_records.specs.declared.item.Item.{Item}
use Rattle.pack_records.specs.Demo.{StoreRecord, store_of, IsStoreRecord, ShowsStore}
use Rattle.pack_records.specs.DemoRests.{some_shows}
use Rattle.pack_records.specs.Framed.{Shows, end_records}
use Rattle.pack_records.specs.Holds.{Reads, HoldsPacket, packet_record, lost_record}
use Rattle.pack_records.proofs.DemoFronts.{undecided_short}
use Rattle.pack_records.proofs.LentLemmas.{lent_value-form, tail-few}
use Rattle.pack_records.proofs.ShowsLemmas.{none_first}
use Rattle.pack_records.proofs.FormLemmas.{value_of}
use Rattle.pack_jobs.specs.Records.{record_bytes}
use Rattle.pack_jobs.specs.Groups.{listed, packet_in, values_of}
use Rattle.pack_jobs.specs.PackEnds.{ends_in}
use Rattle.pack_jobs.proofs.KeptBytes.{kept_of}
use Rattle.pack_jobs.proofs.StoreBytes.{record-are}
use Rattle.pack_jobs.proofs.HeldLemmas.{framing_in, IsRangeIn}

-- ---- what is written

-- a packet in a spelling, as a record
pub record Spelling : Type 0 where
  pub range : ℕ
  pub value : PacketValue
  pub shape : Shape
  pub tail : List ℕ
  pub bytes : List ℕ

pub data Wrote : Type 0 where
  packet : Spelling → Wrote
  loss : ℕ → Wrote

abbrev pub range_in : Wrote → ℕ
range_in (packet s) = s.range
range_in (loss range) = range

abbrev pub payload_in : Wrote → List ℕ
payload_in (packet s) = s.bytes
payload_in (loss range) = []

abbrev pub values_in : Wrote → List PacketValue
values_in (packet s) = s.value ∷ []
values_in (loss range) = []

abbrev pub wrote_one : Form → Wrote → List ℕ
wrote_one form w = record_bytes form (range_in w) (payload_in w)

abbrev pub wrote_text : Form → List Wrote → List ℕ
wrote_text form ws = flat_map (wrote_one form) ws

pub record IsSpelling (form : Form) (s : Spelling) : Type 0 where
  pub in_form : IsRangeIn form s.range
  pub reads : Reads (framing_in form) s.value s.shape s.tail s.bytes
  pub are : AreBytes s.bytes
  pub some : 1 ≤ length s.bytes
  pub fits : length s.bytes < 2 ^ 32

-- only a store has lost records
abbrev pub IsLossRange : Form → ℕ → Type 0
IsLossRange Raw range = ⊥
IsLossRange Demo range = range < 2 ^ 32
IsLossRange SelfDelimited range = ⊥

abbrev pub IsWrote : Form → Wrote → Type 0
IsWrote form (packet s) = IsSpelling form s
IsWrote form (loss range) = IsLossRange form range

abbrev pub IsOne : List Wrote → Type 0
IsOne [] = ⊥
IsOne (w ∷ []) = IsWrote Raw w
IsOne (w ∷ v ∷ ws) = ⊥

-- an input of form raw is one packet
abbrev pub AreWrote : Form → List Wrote → Type 0
AreWrote Raw ws = IsOne ws
AreWrote Demo ws = AllByRecursion (IsWrote Demo) ws
AreWrote SelfDelimited ws = AllByRecursion (IsWrote SelfDelimited) ws

-- ---- what is read again of it

abbrev pub read_at : Padding → Form → ℕ → Wrote → Shown Item
read_at padding form start (packet s) =
    packet_record padding (framing_in form) start s.range s.value s.shape s.tail (length s.bytes)
read_at padding form start (loss range) = lost_record start range

-- where a record's bytes stand, and where the next record begins
abbrev pub bytes_at : Form → ℕ → ℕ
bytes_at Raw at = at
bytes_at Demo at = at + 8
bytes_at SelfDelimited at = at

abbrev pub next_at : Form → ℕ → ℕ → ℕ
next_at Raw at size = at + size
next_at Demo at size = at + (8 + size)
next_at SelfDelimited at size = at + size

abbrev pub read_from : Padding → Form → ℕ → List Wrote → List (Shown Item)
read_from padding form at [] = []
read_from padding form at (w ∷ ws) =
    read_at padding form (bytes_at form at) w ∷ read_from padding form (next_at form at (length (payload_in w))) ws

holds_at : (padding : Padding) (form : Form) (start : ℕ) (s : Spelling) → IsSpelling form s
    → HoldsPacket padding (framing_in form) start s.range s.bytes (read_at padding form start (packet s))
holds_at padding form start s is = record { value = s.value; shape = s.shape; tail = s.tail; reads = is.reads; shows = refl }

-- ---- a store

abbrev stored : Wrote → StoreRecord
stored w = record { range = range_in w; payload = payload_in w }

store-shows : (padding : Padding) (at : ℕ) (ws : List Wrote) → AllByRecursion (IsWrote Demo) ws
    → ShowsStore padding at (map stored ws) [] (read_from padding Demo at ws)
store-shows padding at [] is = inr record { undecided = undecided_short [] (omega arith); shows = refl }
store-shows padding at (packet s ∷ ws) is = (
  some_shows padding (at + 8) s.range s.bytes (read_at padding Demo (at + 8) (packet s)) (omega (arith, is.0.some))
      (inl (holds_at padding Demo (at + 8) s is.0)),
  store-shows padding (at + (8 + length s.bytes)) ws is.1,
)
store-shows padding at (loss range ∷ ws) is = (refl, store-shows padding (at + 8) ws is.1)

store-is : (w : Wrote) → IsWrote Demo w → IsStoreRecord (stored w)
store-is (packet s) is = record { range_fits = is.in_form; payload_fits = is.fits }
store-is (loss range) is = record { range_fits = is; payload_fits = omega arith }

store-are : (ws : List Wrote) → AllByRecursion (IsWrote Demo) ws → AllByRecursion IsStoreRecord (map stored ws)
store-are [] is = tt
store-are (w ∷ ws) is = (store-is w is.0, store-are ws is.1)

store-text : (ws : List Wrote) → wrote_text Demo ws ≡ store_of (map stored ws)
store-text [] = refl
store-text (w ∷ ws) = ap (λ l. wrote_one Demo w ++ l) (store-text ws)

payload-are : (form : Form) (w : Wrote) → IsWrote form w → AreBytes (payload_in w)
payload-are form (packet s) is = is.are
payload-are form (loss range) is = tt

store-bytes : (ws : List Wrote) → AllByRecursion (IsWrote Demo) ws → AreBytes (wrote_text Demo ws)
store-bytes [] is = tt
store-bytes (w ∷ ws) is =
    AreBytes-append (wrote_one Demo w) (wrote_text Demo ws) (record-are (range_in w) (payload_in w) (payload-are Demo w is.0))
    (store-bytes ws is.1)

-- ---- self-delimited packets

self-shows : (padding : Padding) (at : ℕ) (ws : List Wrote) → AllByRecursion (IsWrote SelfDelimited) ws
    → Shows padding end_records at (map payload_in ws) [] (read_from padding SelfDelimited at ws)
self-shows padding at [] is = refl
self-shows padding at (packet s ∷ ws) is = (
  subst (λ n. HoldsPacket padding Delimited at n s.bytes (read_at padding SelfDelimited at (packet s))) is.0.in_form
      (holds_at padding SelfDelimited at s is.0),
  self-shows padding (at + length s.bytes) ws is.1,
)
self-shows padding at (loss range ∷ ws) is = absurd is.0

self-text : (ws : List Wrote) → wrote_text SelfDelimited ws ≡ concat (map payload_in ws)
self-text [] = refl
self-text (w ∷ ws) = ap (λ l. payload_in w ++ l) (self-text ws)

self-bytes : (ws : List Wrote) → AllByRecursion (IsWrote SelfDelimited) ws → AreBytes (wrote_text SelfDelimited ws)
self-bytes [] is = tt
self-bytes (w ∷ ws) is =
    AreBytes-append (payload_in w) (wrote_text SelfDelimited ws) (payload-are SelfDelimited w is.0) (self-bytes ws is.1)

-- ---- all forms

raw-ends : (padding : Padding) (ws : List Wrote) → IsOne ws
    → ends_in Raw padding (wrote_text Raw ws) (read_from padding Raw 0 ws) None
raw-ends padding [] is = absurd is
raw-ends padding (packet s ∷ []) is =
    subst (λ l. ends_in Raw padding l (read_at padding Raw 0 (packet s) ∷ []) None) (sym (append-nil s.bytes)) (record {
      are_bytes = is.are;
      shown = read_at padding Raw 0 (packet s);
      holds = inl (subst (λ n. HoldsPacket padding Whole 0 n s.bytes (read_at padding Raw 0 (packet s))) is.in_form (holds_at padding Raw 0 s is));
      records_are = refl;
      cut_is = refl;
    })
raw-ends padding (loss range ∷ []) is = absurd is
raw-ends padding (w ∷ v ∷ ws) is = absurd is

-- a whole input is written, and these are its records
pub wrote-ends : (form : Form) (padding : Padding) (ws : List Wrote) → AreWrote form ws
    → ends_in form padding (wrote_text form ws) (read_from padding form 0 ws) None
wrote-ends Raw padding ws is = raw-ends padding ws is
wrote-ends Demo padding ws is = (
  [],
  record {
    are_bytes = store-bytes ws is;
    whole = map stored ws;
    are = store-are ws is;
    parts = store-text ws ∙ sym (append-nil (store_of (map stored ws)));
    none = NoWholeRecord-short [] (omega arith);
    shows = store-shows padding 0 ws is;
  },
  refl,
)
wrote-ends SelfDelimited padding ws is = (
  [],
  record {
    are_bytes = self-bytes ws is;
    packets = map payload_in ws;
    parts = self-text ws ∙ sym (append-nil (concat (map payload_in ws)));
    none = none_first;
    shows = self-shows padding 0 ws is;
  },
  refl,
)

-- ---- the values that are read again

read-value : (padding : Padding) (form : Form) (start : ℕ) (w : Wrote) → IsWrote form w
    → packet_in (read_at padding form start w).item.found (read_at padding form start w).bytes ≡ values_in w
read-value padding form start (packet s) is =
    ap listed (lent_value-form (framing_in form) s.value (kept_of padding s.tail)
    (value_of (framing_in form) s.value s.shape s.tail s.bytes is.reads) (tail-few padding s.tail))
read-value padding form start (loss range) is = refl

values-from : (padding : Padding) (form : Form) (at : ℕ) (ws : List Wrote) → AllByRecursion (IsWrote form) ws
    → values_of (read_from padding form at ws) ≡ flat_map values_in ws
values-from padding form at [] is = refl
values-from padding form at (w ∷ ws) is =
    ap (λ l. l ++ values_of (read_from padding form (next_at form at (length (payload_in w))) ws))
    (read-value padding form (bytes_at form at) w is.0)
    ∙ ap (λ l. values_in w ++ l) (values-from padding form (next_at form at (length (payload_in w))) ws is.1)

one-each : (ws : List Wrote) → IsOne ws → AllByRecursion (IsWrote Raw) ws
one-each [] is = absurd is
one-each (w ∷ []) is = (is, tt)
one-each (w ∷ v ∷ ws) is = absurd is

wrote-each : (form : Form) (ws : List Wrote) → AreWrote form ws → AllByRecursion (IsWrote form) ws
wrote-each Raw ws is = one-each ws is
wrote-each Demo ws is = is
wrote-each SelfDelimited ws is = is

pub wrote-values : (form : Form) (padding : Padding) (ws : List Wrote) → AreWrote form ws
    → values_of (read_from padding form 0 ws) ≡ flat_map values_in ws
wrote-values form padding ws is = values-from padding form 0 ws (wrote-each form ws is)

-- records of a form that can have several
pub each-wrote : (form : Form) (ws : List Wrote) → form ≢ Raw → AllByRecursion (IsWrote form) ws → AreWrote form ws
each-wrote Raw ws several is = absurd (several refl)
each-wrote Demo ws several is = is
each-wrote SelfDelimited ws several is = is

-- records that are as many as those of a whole input
one-wrote : (ws : List Wrote) → length ws ≡ 1 → AllByRecursion (IsWrote Raw) ws → IsOne ws
one-wrote [] one is = absurd (omega arith)
one-wrote (w ∷ []) one is = is.0
one-wrote (w ∷ v ∷ ws) one is = absurd (omega arith)

pub counted-wrote : (form : Form) (padding : Padding) (x : List ℕ) (rs : List (Shown Item)) (cut : Option Cut)
    → ends_in form padding x rs cut → (ws : List Wrote) → length ws ≡ length rs → AllByRecursion (IsWrote form) ws
    → AreWrote form ws
counted-wrote Raw padding x rs cut ends ws count is = one-wrote ws (count ∙ ap length ends.records_are) is
counted-wrote Demo padding x rs cut ends ws count is = is
counted-wrote SelfDelimited padding x rs cut ends ws count is = is
