-- What each record of a whole input holds.
use Rattle.std.proofs.Common.{◌≡◌, ◌⊎◌, ℕ, ◌+◌, ◌^◌, ◌<◌, ◌≤◌, false, if◌then◌else◌, List, [], ◌∷◌, length, Option, inl, inr, refl, sym, ap, ◌∙◌, subst, arith}
use Rattle.std.specs.List.{AllByRecursion, concat}
use Rattle.std.proofs.lemmas.Bool.{ltb-false, le-leb}
use Rattle.job_loop.specs.Shown.{Shown}
use Rattle.job_loop.specs.Meaning.{going, outcome}
use Rattle.job_loop.specs.declared.input_end.InputEnd.{InputEnd}
use Rattle.rec_store.specs.DemoStore.{demo_head, demo_record}
use Rattle.opus_packet.specs.declared.fault.Fault.{Fault}
use Rattle.opus_packet.specs.declared.shape.Shape.{Shape}
use Rattle.opus_packet.specs.Header.{padding_data}
use Rattle.opus_packet.specs.PacketPrefix.{AreBytes}
use Rattle.opus_packet.specs.Tail.{kept, counted, kept_bytes, max_tail}
use Rattle.opus_packet.specs.Value.{PacketValue}
use Rattle.opus_packet.proofs.BytesLemmas.{AreBytes-left, AreBytes-right}
use Rattle.opus_feed.specs.declared.framing.Framing.{Framing}
use Rattle.opus_feed.specs.declared.framing.Framing.TheVariants.{Whole, SelfDelimited as Delimited}
use Rattle.opus_feed.specs.declared.padding.Padding.{Padding}
use Rattle.opus_feed.specs.declared.padding.Padding.TheVariants.{Drop, Keep}
use Rattle.opus_feed.specs.Packets.{fault_of}
use Rattle.opus_words.specs.declared.form.Form.{Form}
use Rattle.opus_words.specs.declared.form.Form.TheVariants.{Raw, Demo, SelfDelimited}
use Rattle.pack_records.specs.declared.cut.Cut.{Cut}
use Rattle.pack_records.specs.declared.item.Found.{Found}
use Rattle.pack_records.specs.declared.item.Found.TheVariants.{Packet, Lost, Bad}
use Rattle.pack_records.specs.declared.item.Item.{Item}
use Rattle.pack_records.specs.Fits.{form_of, IsForm}
use Rattle.pack_records.specs.Holds.{Reads, HoldsPacket, Holds, bad_record, lost_record}
use Rattle.pack_records.specs.Raw.{RawEnds}
use Rattle.pack_records.specs.Demo.{StoreRecord, store_of, IsStoreRecord as IsStored, ShowsPayload, ShowsRest, ShowsStore}
use Rattle.pack_records.specs.Framed.{Shows, end_records}
use Rattle.pack_records.proofs.FormLemmas.{value_of}
use Rattle.pack_records.proofs.LentLemmas.{tail-few}
use Rattle.pack_jobs.specs.Norm.{is_long, norm}
use Rattle.pack_jobs.specs.Written.{IsTaken, AreTaken, IsGood, AreGood}
use Rattle.pack_jobs.specs.SameRecords.{IsPacketIn, IsStored as HasStored, IsLoneRecord, IsStoreRecord, AreRecordsOf}
use Rattle.pack_jobs.specs.PackEnds.{ends_in}
use Rattle.pack_jobs.proofs.KeptBytes.{kept_of}
use Rattle.pack_jobs.proofs.NormLemmas.{norm_taken}

-- ---- one record

abbrev pub framing_in : Form → Framing
framing_in Raw = Whole
framing_in Demo = Whole
framing_in SelfDelimited = Delimited

-- only a store has ranges
abbrev pub IsRangeIn : Form → ℕ → Type 0
IsRangeIn Raw range = range ≡ 0
IsRangeIn Demo range = range < 2 ^ 32
IsRangeIn SelfDelimited range = range ≡ 0

-- a record of bytes that are a packet
pub record HoldsBytes (form : Form) (padding : Padding) (r : Shown Item) : Type 0 where
  pub start : ℕ
  pub range : ℕ
  pub bytes : List ℕ
  pub in_form : IsRangeIn form range
  pub are : AreBytes bytes
  pub holds : HoldsPacket padding (framing_in form) start range bytes r

-- a record of a store without a payload
pub record IsLoss (r : Shown Item) : Type 0 where
  pub start : ℕ
  pub range : ℕ
  pub fits : range < 2 ^ 32
  pub shows : r ≡ lost_record start range

abbrev pub IsLossIn : Form → Shown Item → Type 0
IsLossIn Raw r = ⊥
IsLossIn Demo r = IsLoss r
IsLossIn SelfDelimited r = ⊥

pub record IsBadOne (r : Shown Item) : Type 0 where
  pub start : ℕ
  pub range : ℕ
  pub fault : Fault
  pub size : ℕ
  pub shows : r ≡ bad_record start range fault size

-- a record that holds a packet, or is lost
abbrev pub IsHeld : Form → Padding → Shown Item → Type 0
IsHeld form padding r = HoldsBytes form padding r ⊎ IsLossIn form r

-- any record of a whole input
abbrev pub IsRead : Form → Padding → Shown Item → Type 0
IsRead form padding r = IsHeld form padding r ⊎ IsBadOne r

-- ---- all records of a whole input

held_read : (form : Form) (padding : Padding) (start range : ℕ) (bytes : List ℕ) (r : Shown Item) → IsRangeIn form range
    → AreBytes bytes → Holds padding (framing_in form) start range bytes r → IsRead form padding r
held_read form padding start range bytes r in_form are (inl holds) =
    inl (inl record { start = start; range = range; bytes = bytes; in_form = in_form; are = are; holds = holds })
held_read form padding start range bytes r in_form are (inr bad) =
    inr record { start = start; range = range; fault = fault_of (framing_in form) bytes; size = length bytes; shows = bad.shows }

raw_read : (padding : Padding) (x : List ℕ) (rs : List (Shown Item)) (cut : Option Cut) → RawEnds padding x rs cut
    → AllByRecursion (IsRead Raw padding) rs
raw_read padding x rs cut ends =
    subst (AllByRecursion (IsRead Raw padding)) (sym ends.records_are)
    (held_read Raw padding 0 0 x ends.shown refl ends.are_bytes ends.holds, tt)

payload_read : (padding : Padding) (start range : ℕ) (payload : List ℕ) (r : Shown Item) → range < 2 ^ 32
    → AreBytes payload → ShowsPayload padding start range payload r → IsRead Demo padding r
payload_read padding start range [] r fits are shows =
    inl (inr record { start = start; range = range; fits = fits; shows = shows })
payload_read padding start range (b ∷ bs) r fits are shows = held_read Demo padding start range (b ∷ bs) r fits are shows

rest_read : (padding : Padding) (start : ℕ) (rest : List ℕ) (rs : List (Shown Item)) → ShowsRest start rest rs
    → AllByRecursion (IsRead Demo padding) rs
rest_read padding start rest rs (inl early) =
    subst (AllByRecursion (IsRead Demo padding)) (sym early.shows) (
      inr record { start = start + 8; range = early.range; fault = fault_of Whole early.part; size = length early.part; shows = refl },
      tt,
    )
rest_read padding start rest rs (inr none) = subst (AllByRecursion (IsRead Demo padding)) (sym none.shows) tt

store_read : (padding : Padding) (start : ℕ) (ss : List StoreRecord) (rest : List ℕ) (rs : List (Shown Item))
    → ShowsStore padding start ss rest rs → AllByRecursion IsStored ss → AreBytes (store_of ss)
    → AllByRecursion (IsRead Demo padding) rs
store_read padding start [] rest rs shows is are = rest_read padding start rest rs shows
store_read padding start (s ∷ ss) rest [] shows is are = absurd shows
store_read padding start (s ∷ ss) rest (r ∷ rs) shows is are =
    let own = AreBytes-left (demo_record s.range s.payload) (store_of ss) are in (
      payload_read padding (start + 8) s.range s.payload r is.0.range_fits
          (AreBytes-right (demo_head (length s.payload) s.range) s.payload own) shows.0,
      store_read padding (start + (8 + length s.payload)) ss rest rs shows.1 is.1
          (AreBytes-right (demo_record s.range s.payload) (store_of ss) are),
    )

end_read : (padding : Padding) (start : ℕ) (rest : List ℕ)
    → AllByRecursion (IsRead SelfDelimited padding) (end_records start rest)
end_read padding start [] = tt
end_read padding start (x ∷ xs) = (
  inr record { start = start; range = 0; fault = fault_of Delimited (x ∷ xs); size = length (x ∷ xs); shows = refl },
  tt,
)

self_read : (padding : Padding) (start : ℕ) (ps : List (List ℕ)) (rest : List ℕ) (rs : List (Shown Item))
    → Shows padding end_records start ps rest rs → AreBytes (concat ps) → AllByRecursion (IsRead SelfDelimited padding) rs
self_read padding start [] rest rs shows are =
    subst (AllByRecursion (IsRead SelfDelimited padding)) (sym shows) (end_read padding start rest)
self_read padding start (p ∷ ps) rest [] shows are = absurd shows
self_read padding start (p ∷ ps) rest (r ∷ rs) shows are = (
  inl (inl record { start = start; range = 0; bytes = p; in_form = refl; are = AreBytes-left p (concat ps) are; holds = shows.0 }),
  self_read padding (start + length p) ps rest rs shows.1 (AreBytes-right p (concat ps) are),
)

pub all_read : (form : Form) (padding : Padding) (x : List ℕ) (rs : List (Shown Item)) (cut : Option Cut)
    → ends_in form padding x rs cut → AllByRecursion (IsRead form padding) rs
all_read Raw padding x rs cut ends = raw_read padding x rs cut ends
all_read Demo padding x rs cut ends =
    let front = ends.1 in
    store_read padding 0 front.whole ends.0 rs front.shows front.are
    (AreBytes-left (store_of front.whole) ends.0 (subst AreBytes front.parts front.are_bytes))
all_read SelfDelimited padding x rs cut ends =
    let front = ends.1 in
    self_read padding 0 front.packets ends.0 rs front.shows
    (AreBytes-left (concat front.packets) ends.0 (subst AreBytes front.parts front.are_bytes))

-- ---- good ones

good_held : (form : Form) (padding : Padding) (r : Shown Item) → IsGood r.item.found → IsRead form padding r
    → IsHeld form padding r
good_held form padding r good (inl held) = held
good_held form padding r good (inr bad) = absurd (subst (λ (s : Shown Item). IsGood s.item.found) bad.shows good)

pub all_held : (form : Form) (padding : Padding) (rs : List (Shown Item)) → AreGood rs
    → AllByRecursion (IsRead form padding) rs → AllByRecursion (IsHeld form padding) rs
all_held form padding [] good are = tt
all_held form padding (r ∷ rs) good are =
    (good_held form padding r good.0 are.0, all_held form padding rs good.1 are.1)

pub held-form : (padding : Padding) (framing : Framing) (start range : ℕ) (bytes : List ℕ) (r : Shown Item)
    → HoldsPacket padding framing start range bytes r → IsForm framing r.bytes
held-form padding framing start range bytes r holds = record {
  value = holds.value;
  tail = kept_of padding holds.tail;
  is_value = value_of framing holds.value holds.shape holds.tail bytes holds.reads;
  small = tail-few padding holds.tail;
  bytes_are = ap (λ (s : Shown Item). s.bytes) holds.shows;
}

pub held-found : (padding : Padding) (framing : Framing) (start range : ℕ) (bytes : List ℕ) (r : Shown Item)
    (holds : HoldsPacket padding framing start range bytes r) → r.item.found ≡ Packet framing holds.shape (length bytes)
held-found padding framing start range bytes r holds = ap (λ (s : Shown Item). s.item.found) holds.shows

pub held-range : (padding : Padding) (framing : Framing) (start range : ℕ) (bytes : List ℕ) (r : Shown Item)
    → HoldsPacket padding framing start range bytes r → r.item.range ≡ range
held-range padding framing start range bytes r holds = ap (λ (s : Shown Item). s.item.range) holds.shows

-- ---- good records that an input of a form can have

lone_is : (form : Form) (padding : Padding) (r : Shown Item) (h : HoldsBytes form padding r) → h.range ≡ 0
    → IsLoneRecord (framing_in form) r
lone_is form padding r h none = record {
  range = held-range padding (framing_in form) h.start h.range h.bytes r h.holds ∙ none;
  packet = subst (λ f. IsPacketIn (framing_in form) f r.bytes)
      (sym (held-found padding (framing_in form) h.start h.range h.bytes r h.holds))
      (held-form padding (framing_in form) h.start h.range h.bytes r h.holds);
}

raw_is : (padding : Padding) (r : Shown Item) → IsHeld Raw padding r → IsLoneRecord Whole r
raw_is padding r (inl h) = lone_is Raw padding r h h.in_form
raw_is padding r (inr never) = absurd never

self_is : (padding : Padding) (r : Shown Item) → IsHeld SelfDelimited padding r → IsLoneRecord Delimited r
self_is padding r (inl h) = lone_is SelfDelimited padding r h h.in_form
self_is padding r (inr never) = absurd never

store_is : (padding : Padding) (r : Shown Item) → IsHeld Demo padding r → IsStoreRecord r
store_is padding r (inl h) =
    let same = held-range padding Whole h.start h.range h.bytes r h.holds in
    record {
      range = subst (λ n. n < 2 ^ 32) (sym same) h.in_form;
      stored = subst (λ f. HasStored f r.bytes) (sym (held-found padding Whole h.start h.range h.bytes r h.holds))
          (held-form padding Whole h.start h.range h.bytes r h.holds);
    }
store_is padding r (inr loss) =
    subst IsStoreRecord (sym loss.shows) (record { range = loss.fits; stored = tt })

store_are : (padding : Padding) (rs : List (Shown Item)) → AllByRecursion (IsHeld Demo padding) rs
    → AllByRecursion IsStoreRecord rs
store_are padding [] held = tt
store_are padding (r ∷ rs) held = (store_is padding r held.0, store_are padding rs held.1)

self_are : (padding : Padding) (rs : List (Shown Item)) → AllByRecursion (IsHeld SelfDelimited padding) rs
    → AllByRecursion (IsLoneRecord Delimited) rs
self_are padding [] held = tt
self_are padding (r ∷ rs) held = (self_is padding r held.0, self_are padding rs held.1)

records_are : (form : Form) (padding : Padding) (x : List ℕ) (rs : List (Shown Item)) (cut : Option Cut)
    → ends_in form padding x rs cut → AllByRecursion (IsHeld form padding) rs → AreRecordsOf form rs
records_are Raw padding x rs cut ends held =
    subst (AreRecordsOf Raw) (sym ends.records_are)
    (raw_is padding ends.shown (subst (AllByRecursion (IsHeld Raw padding)) ends.records_are held).0)
records_are Demo padding x rs cut ends held = store_are padding rs held
records_are SelfDelimited padding x rs cut ends held = self_are padding rs held

-- ---- what norm takes

taken_good : (padding : Padding) (found : Found) → IsTaken padding found → IsGood found
taken_good padding (Packet framing shape size) taken = tt
taken_good padding Lost taken = tt
taken_good padding (Bad fault) taken = absurd taken

pub all_good : (padding : Padding) (rs : List (Shown Item)) → AreTaken padding rs → AreGood rs
all_good padding [] taken = tt
all_good padding (r ∷ rs) taken = (taken_good padding r.item.found taken.0, all_good padding rs taken.1)

pub norm_records : (form : Form) (padding : Padding) (x : List ℕ) (rs : List (Shown Item)) (cut : Option Cut)
    (end : InputEnd Cut) (text : List ℕ) → ends_in form padding x rs cut
    → outcome (norm form padding) rs end ≡ going text tt → AreRecordsOf form rs
norm_records form padding x rs cut end text ends e =
    let good = all_good padding rs ((norm_taken form padding rs end text).0 e).0 in
    records_are form padding x rs cut ends (all_held form padding rs good (all_read form padding x rs cut ends))

-- ---- what is kept of padding bytes

reads-data : (framing : Framing) (v : PacketValue) (shape : Shape) (tail bytes : List ℕ)
    → Reads framing v shape tail bytes → length tail ≡ padding_data shape.pad
reads-data Whole v shape tail bytes reads = reads.padding
reads-data Delimited v shape tail bytes reads = reads.padding

few-kept : (tail : List ℕ) → length tail ≤ max_tail → kept_of Keep tail ≡ tail
few-kept tail few = ap (λ b. kept_bytes (if b then kept tail else counted (length tail))) (le-leb (length tail) max_tail few)

pub held-kept : (framing : Framing) (start range : ℕ) (bytes : List ℕ) (r : Shown Item)
    (holds : HoldsPacket Keep framing start range bytes r) → is_long Keep holds.shape ≡ false
    → r.bytes ≡ form_of framing holds.value holds.tail
held-kept framing start range bytes r holds short =
    let few = ltb-false max_tail (padding_data holds.shape.pad) short in
    let size = reads-data framing holds.value holds.shape holds.tail bytes holds.reads in
    ap (λ (s : Shown Item). s.bytes) holds.shows
    ∙ ap (form_of framing holds.value) (few-kept holds.tail (omega (arith, few, size)))

pub none-kept : (tail : List ℕ) → kept_of Drop tail ≡ []
none-kept [] = refl
none-kept (x ∷ xs) = refl

pub held-dropped : (framing : Framing) (start range : ℕ) (bytes : List ℕ) (r : Shown Item)
    (holds : HoldsPacket Drop framing start range bytes r) → r.bytes ≡ form_of framing holds.value []
held-dropped framing start range bytes r holds =
    ap (λ (s : Shown Item). s.bytes) holds.shows ∙ ap (form_of framing holds.value) (none-kept holds.tail)
