-- Each list of bytes is a store's records and a rest that begins with none, whatever reads a payload.
use Rattle.std.proofs.Common.{◌≡◌, ◌⊎◌, inl, inr, ℕ, zero, suc, ◌+◌, ◌^◌, ◌≤◌, ◌<◌, List, [], ◌∷◌, ◌++◌, length, take, drop, length-append, length-drop, refl, sym, ap, ◌∙◌, subst, append_assoc, arith}
use Rattle.std.proofs.lemmas.Bool.{cases_lt}
use Rattle.std.specs.declared.option.Option.{Option}
use Rattle.std.specs.List.{AllByRecursion}
use Rattle.opus_packet.specs.PacketPrefix.{AreBytes}
use Rattle.opus_packet.proofs.BytesLemmas.{AreBytes-left, AreBytes-right, AreBytes-drop}
use Rattle.rec_store.specs.DemoStore.{demo_head, demo_record, NoWholeRecord}
use Rattle.rec_store.proofs.DemoLemmas.{demo_head-of, demo_record-whole, NoWholeRecord-short, NoWholeRecord-cut}
use Rattle.pack_records.specs.declared.cut.Cut.{Cut}
use Rattle.pack_records.specs.Payloads.{Showing}
use Rattle.pack_records.specs.Stores.{StoreRecord, store_of, IsStoreRecord, CutPayload, cut_at, ShowsPayload, ShowsRest, ShowsStore, Ends}
use Rattle.pack_records.specs.StoreRests.{cut_once}

-- ---- bytes

-- too few bytes for a head; or a head and a part of its payload
data Rests (rest : List ℕ) : Type 0 where
  no_head : length rest < 8 → Rests rest
  some_head : (range : ℕ) (part : List ℕ) → CutPayload rest range part → Rests rest

-- whole records and a rest that begins with none
record StoreParts (x : List ℕ) : Type 0 where
  whole : List StoreRecord
  rest : List ℕ
  are : AllByRecursion IsStoreRecord whole
  parts : x ≡ store_of whole ++ rest
  none : NoWholeRecord rest
  last : Rests rest

only_rest : (x : List ℕ) → NoWholeRecord x → Rests x → StoreParts x
only_rest x none last = record { whole = []; rest = x; are = tt; parts = refl; none = none; last = last }

parts_cut : (x body : List ℕ) (len range : ℕ) → len < 2 ^ 32 → range < 2 ^ 32 → x ≡ demo_head len range ++ body
    → length body < len → StoreParts x
parts_cut x body len range len_fits range_fits is short =
    only_rest x (subst NoWholeRecord (sym is) (NoWholeRecord-cut len range body len_fits range_fits short))
    (some_head range body record {
      len = len;
      len_fits = len_fits;
      range_fits = range_fits;
      short = short;
      rest_is = is;
    })

parts_whole : (x body : List ℕ) (len range : ℕ) → len < 2 ^ 32 → range < 2 ^ 32 → x ≡ demo_head len range ++ body
    → len ≤ length body → StoreParts (drop len body) → StoreParts x
parts_whole x body len range len_fits range_fits is enough behind =
    let w = demo_record-whole len range body len_fits range_fits enough in
    let first = demo_record range (take len body) in
    record {
      whole = record { range = range; payload = take len body } ∷ behind.whole;
      rest = behind.rest;
      are = (w.0, behind.are);
      parts = is ∙ w.1 ∙ ap (λ l. first ++ l) behind.parts ∙ sym (append_assoc first (store_of behind.whole) behind.rest);
      none = behind.none;
      last = behind.last;
    }

-- so many bytes have parts
HaveParts : ℕ → Type 0
HaveParts most = (x : List ℕ) → length x ≤ most → AreBytes x → StoreParts x

payload_parts : (most len range : ℕ) (x : List ℕ) → HaveParts most → AreBytes x → len < 2 ^ 32 → range < 2 ^ 32
    → x ≡ demo_head len range ++ drop 8 x → 8 ≤ length x → length x ≤ suc most
    → (length (drop 8 x) < len) ⊎ (len ≤ length (drop 8 x)) → StoreParts x
unfolding HaveParts
payload_parts most len range x deeper are len_fits range_fits is long fits (inl short) =
    parts_cut x (drop 8 x) len range len_fits range_fits is short
payload_parts most len range x deeper are len_fits range_fits is long fits (inr enough) =
    parts_whole x (drop 8 x) len range len_fits range_fits is enough
    (deeper (drop len (drop 8 x))
    (omega (arith, long, fits, length-drop 8 x, length-drop len (drop 8 x)))
    (AreBytes-drop len (drop 8 x) (AreBytes-drop 8 x are)))

more_parts : (most : ℕ) (x : List ℕ) → HaveParts most → AreBytes x → length x ≤ suc most
    → (length x < 8) ⊎ (8 ≤ length x) → StoreParts x
more_parts most x deeper are fits (inl short) = only_rest x (NoWholeRecord-short x short) (no_head short)
more_parts most x deeper are fits (inr long) =
    let (len, range, len_fits, range_fits, is) = demo_head-of x are long in
    payload_parts most len range x deeper are len_fits range_fits is long fits (cases_lt (length (drop 8 x)) len)

have_parts : (most : ℕ) → HaveParts most
unfolding HaveParts
have_parts zero x fits are = only_rest x (NoWholeRecord-short x (omega (arith, fits))) (no_head (omega (arith, fits)))
have_parts (suc most) x fits are = more_parts most x (have_parts most) are fits (cases_lt (length x) 8)

parts_of : (x : List ℕ) → AreBytes x → StoreParts x
unfolding HaveParts
parts_of x are = have_parts (length x) x (omega arith) are

-- ---- what is shown of them

-- all bytes of a payload hold something
abbrev pub AllHold : {R : Type 0} → Showing R → Type 0
AllHold {R} w = (start range : ℕ) (bytes : List ℕ) → AreBytes bytes → (r : R) × w.holds start range bytes r

-- whether the first bytes of a payload decide its record is the same at all places and for all ranges
abbrev pub AllDecided : {R : Type 0} → Showing R → Type 0
AllDecided w =
    (part : List ℕ) → AreBytes part
    → ((start range : ℕ) → w.decides.early start range part) ⊎ ((start range : ℕ) → w.decides.early start range part → ⊥)

module _ {R : Type 0} (w : Showing R) (hold : AllHold w) (decided : AllDecided w) where
  payload_shown : (start range : ℕ) (payload : List ℕ) → AreBytes payload → (r : R) × ShowsPayload w start range payload r
  payload_shown start range [] are = (w.lost start range, refl)
  payload_shown start range (b ∷ bs) are = hold start range (b ∷ bs) are

  rest_shown : (at : ℕ) (rest : List ℕ) → Rests rest → AreBytes rest → (rs : List R) × ShowsRest w.decides at rest rs
  rest_shown at rest (no_head short) are = ([], inr record { undecided = never; shows = refl })
    where
      never : (start range : ℕ) (part : List ℕ) → CutPayload rest range part → w.decides.early start range part → ⊥
      never start range part c early =
          let size = ap (λ (l : List ℕ). length l) c.rest_is ∙ length-append (demo_head c.len range) part in
          omega (arith, short, size)
  rest_shown at rest (some_head range part c) are =
      go (decided part (AreBytes-right (demo_head c.len range) part (subst AreBytes c.rest_is are)))
    where
      go : ((start range : ℕ) → w.decides.early start range part) ⊎ ((start range : ℕ) → w.decides.early start range part → ⊥)
          → (rs : List R) × ShowsRest w.decides at rest rs
      go (inl early) = (
        w.decides.told (at + 8) range part (early (at + 8) range) ∷ [],
        inl record { range = range; part = part; payload = c; early = early (at + 8) range; shows = refl },
      )
      go (inr never) = ([], inr record { undecided = none; shows = refl })
        where
          none : (start other : ℕ) (front : List ℕ) → CutPayload rest other front → w.decides.early start other front → ⊥
          none start other front d early =
              let same : front ≡ part = (cut_once rest front part other range d c).1 in
              never start other (subst (w.decides.early start other) same early)

  store_shown : (at : ℕ) (ss : List StoreRecord) (rest : List ℕ) → Rests rest → AreBytes (store_of ss ++ rest)
      → (rs : List R) × ShowsStore w at ss rest rs
  store_shown at [] rest last are = rest_shown at rest last are
  store_shown at (s ∷ ss) rest last are =
      let head = demo_record s.range s.payload in
      let all : AreBytes (head ++ (store_of ss ++ rest)) = subst AreBytes (append_assoc head (store_of ss) rest) are in
      let own = AreBytes-right (demo_head (length s.payload) s.range) s.payload (AreBytes-left head (store_of ss ++ rest) all) in
      let first = payload_shown (at + 8) s.range s.payload own in
      let behind = store_shown (at + (8 + length s.payload)) ss rest last (AreBytes-right head (store_of ss ++ rest) all) in
      (first.0 ∷ behind.0, (first.1, behind.1))

  pub store_has_records : (x : List ℕ) → AreBytes x → (rs : List R) × (cut : Option Cut) × Ends w x rs cut
  store_has_records x are =
      let p = parts_of x are in
      let shown = store_shown 0 p.whole p.rest p.last (subst AreBytes p.parts are) in (
        shown.0,
        cut_at (length x) p.rest,
        (
          p.rest,
          record {
            are_bytes = are;
            whole = p.whole;
            are = p.are;
            parts = p.parts;
            none = p.none;
            shows = shown.1;
          },
          refl,
        ),
      )
