-- More bytes of a store behind those whose records are known.
use Rattle.std.proofs.Common.{◌≡◌, inl, inr, ℕ, ◌+◌, ◌<◌, List, [], ◌∷◌, ◌++◌, length, refl, sym, ap, ◌∙◌, subst, length-append, append_assoc, append-nil, arith}
use Rattle.std.specs.List.{AllByRecursion}
use Rattle.opus_packet.specs.PacketPrefix.{AreBytes}
use Rattle.opus_packet.proofs.BytesLemmas.{AreBytes-append, AreBytes-right}
use Rattle.rec_store.specs.DemoStore.{demo_head, demo_record, IsDemoRecord, NoWholeRecord}
use Rattle.rec_store.proofs.DemoLemmas.{length-demo_record, NoWholeRecord-short, NoWholeRecord-cut}
use Rattle.pack_records.specs.Payloads.{Deciding, Showing, IsShowing}
use Rattle.pack_records.specs.Stores.{StoreRecord, store_of, IsStoreRecord, CutPayload, ShowsPayload, IsUndecided, ShowsRest, ShowsStore, IsStoreFront}
use Rattle.pack_records.specs.StoreRests.{cut_once, part_more, early_whole}

pub store_joined : (ps qs : List StoreRecord) → store_of (ps ++ qs) ≡ store_of ps ++ store_of qs
store_joined [] qs = refl
store_joined (p ∷ ps) qs =
    ap (λ l. demo_record p.range p.payload ++ l) (store_joined ps qs)
    ∙ sym (append_assoc (demo_record p.range p.payload) (store_of ps) (store_of qs))

are_joined : (ps qs : List StoreRecord) → AllByRecursion IsStoreRecord ps → AllByRecursion IsStoreRecord qs
    → AllByRecursion IsStoreRecord (ps ++ qs)
are_joined [] qs a b = b
are_joined (p ∷ ps) qs a b = (a.0, are_joined ps qs a.1 b)

pub cut_none : (rest part : List ℕ) (range : ℕ) → CutPayload rest range part → NoWholeRecord rest
cut_none rest part range c =
    subst NoWholeRecord (sym c.rest_is) (NoWholeRecord-cut c.len range part c.len_fits c.range_fits c.short)

-- ---- a rest of which nothing is decided

pub undecided_short : {R : Type 0} (d : Deciding R) (rest : List ℕ) → length rest < 8 → IsUndecided d rest
undecided_short d rest short start range part c early =
    let size = ap (λ (l : List ℕ). length l) c.rest_is in
    absurd (omega (arith, short, size, length-append (demo_head c.len range) part))

pub undecided_by : {R : Type 0} (d : Deciding R) (rest part : List ℕ) (range : ℕ) → CutPayload rest range part
    → ((start : ℕ) → d.early start range part → ⊥) → IsUndecided d rest
undecided_by d rest part range c never start range' part' c' early =
    let same = cut_once rest part part' range range' c c' in
    never start (subst (λ n. d.early start n part) (sym same.0) (subst (d.early start range') (sym same.1) early))

last_open : {R : Type 0} (d : Deciding R) (at : ℕ) (rest : List ℕ) (last : List R) → IsUndecided d rest
    → ShowsRest d at rest last → last ≡ []
last_open d at rest last still (inl e) = absurd (still (at + 8) e.range e.part e.payload e.early)
last_open d at rest last still (inr o) = o.shows

module _ {R : Type 0} (w : Showing R) where
  -- whole records stay, and what is shown of the rest changes
  store_more : (at : ℕ) (whole tail : List StoreRecord) (rest rest' : List ℕ) (rs extra : List R)
      → ((last : List R) → ShowsRest w.decides (at + length (store_of whole)) rest last
      → ShowsStore w (at + length (store_of whole)) tail rest' (last ++ extra))
      → ShowsStore w at whole rest rs → ShowsStore w at (whole ++ tail) rest' (rs ++ extra)
  store_more at [] tail rest rest' rs extra step shows =
      let same : at ≡ at + 0 = omega arith in
      subst (λ n. ShowsStore w n tail rest' (rs ++ extra)) (sym same)
      (step rs (subst (λ n. ShowsRest w.decides n rest rs) same shows))
  store_more at (s ∷ ss) tail rest rest' [] extra step shows = absurd shows
  store_more at (s ∷ ss) tail rest rest' (r ∷ rs) extra step shows =
      let size = length-append (demo_record s.range s.payload) (store_of ss) in
      let first = length-demo_record s.range s.payload in
      let place : at + (8 + length s.payload) + length (store_of ss) ≡ at + length (store_of (s ∷ ss)) =
      omega (arith, size, first) in (
        shows.0,
        store_more (at + (8 + length s.payload)) ss tail rest rest' rs extra
            (λ last is. subst (λ n. ShowsStore w n tail rest' (last ++ extra)) (sym place)
            (step last (subst (λ n. ShowsRest w.decides n rest last) place is))) shows.1,
      )

  pub begun_size : (h : List ℕ) (rs : List R) (rest : List ℕ) (f : IsStoreFront w h rs rest)
      → length (store_of f.whole) + length rest ≡ length h
  begun_size h rs rest f =
      let size = ap (λ (l : List ℕ). length l) f.parts in
      omega (arith, size, length-append (store_of f.whole) rest)

  pub rest_bytes : (h : List ℕ) (rs : List R) (rest : List ℕ) → IsStoreFront w h rs rest → AreBytes rest
  rest_bytes h rs rest f = AreBytes-right (store_of f.whole) rest (subst AreBytes f.parts f.are_bytes)

  front_more : (h own rest rest' : List ℕ) (rs extra : List R) (tail : List StoreRecord) (f : IsStoreFront w h rs rest)
      → AreBytes own → rest ++ own ≡ store_of tail ++ rest' → AllByRecursion IsStoreRecord tail → NoWholeRecord rest'
      → ((last : List R) → ShowsRest w.decides (length (store_of f.whole)) rest last
      → ShowsStore w (length (store_of f.whole)) tail rest' (last ++ extra))
      → IsStoreFront w (h ++ own) (rs ++ extra) rest'
  front_more h own rest rest' rs extra tail f bytes is are none step =
      let same : length (store_of f.whole) ≡ 0 + length (store_of f.whole) = omega arith in
      record {
        are_bytes = AreBytes-append h own f.are_bytes bytes;
        whole = f.whole ++ tail;
        are = are_joined f.whole tail f.are are;
        parts = ap (λ l. l ++ own) f.parts ∙ append_assoc (store_of f.whole) rest own ∙ ap (λ l. store_of f.whole ++ l) is
            ∙ sym (append_assoc (store_of f.whole) (store_of tail) rest')
            ∙ ap (λ l. l ++ rest') (sym (store_joined f.whole tail));
        none = none;
        shows = store_more 0 f.whole tail rest rest' rs extra
            (subst (λ n. (last : List R) → ShowsRest w.decides n rest last → ShowsStore w n tail rest' (last ++ extra))
            same step) f.shows;
      }

  -- nothing came
  pub front_none : IsStoreFront w [] [] []
  front_none = record {
    are_bytes = tt;
    whole = [];
    are = tt;
    parts = refl;
    none = NoWholeRecord-short [] (omega arith);
    shows = inr record { undecided = undecided_short w.decides [] (omega arith); shows = refl };
  }

  -- a rest goes on and stays undecided
  pub front_open : (h own rest : List ℕ) (rs : List R) → IsStoreFront w h rs rest → AreBytes own
      → IsUndecided w.decides rest → NoWholeRecord (rest ++ own) → IsUndecided w.decides (rest ++ own)
      → IsStoreFront w (h ++ own) rs (rest ++ own)
  front_open h own rest rs f bytes still none still' =
      subst (λ l. IsStoreFront w (h ++ own) l (rest ++ own)) (append-nil rs)
      (front_more h own rest (rest ++ own) rs [] [] f bytes refl tt none
      (λ last shows. inr record {
        undecided = still';
        shows = append-nil last ∙ last_open w.decides (length (store_of f.whole)) rest last still shows;
      }))

  -- it becomes a whole record
  pub front_whole : (h own rest payload : List ℕ) (range : ℕ) (rs : List R) (r : R) (f : IsStoreFront w h rs rest)
      → AreBytes own → IsUndecided w.decides rest → rest ++ own ≡ demo_record range payload → IsDemoRecord range payload
      → ShowsPayload w (length (store_of f.whole) + 8) range payload r → IsStoreFront w (h ++ own) (rs ++ r ∷ []) []
  front_whole h own rest payload range rs r f bytes still is is_record shown =
      let at = length (store_of f.whole) in
      let tail : List StoreRecord = record { range = range; payload = payload } ∷ [] in
      front_more h own rest [] rs (r ∷ []) tail f bytes
      (is ∙ sym (append-nil (demo_record range payload)) ∙ sym (append-nil (demo_record range payload ++ [])))
      (is_record, tt) (NoWholeRecord-short [] (omega arith))
      (λ last shows. subst (λ l. ShowsStore w at tail [] (l ++ r ∷ [])) (sym (last_open w.decides at rest last still shows))
      (shown, inr record { undecided = undecided_short w.decides [] (omega arith); shows = refl }))

  -- its record is decided
  pub front_early : (h own rest part : List ℕ) (range : ℕ) (rs : List R) (r : R) (f : IsStoreFront w h rs rest)
      → AreBytes own → IsUndecided w.decides rest → CutPayload (rest ++ own) range part
      → (early : w.decides.early (length (store_of f.whole) + 8) range part)
      → r ≡ w.decides.told (length (store_of f.whole) + 8) range part early
      → IsStoreFront w (h ++ own) (rs ++ r ∷ []) (rest ++ own)
  front_early h own rest part range rs r f bytes still c early is =
      let at = length (store_of f.whole) in
      front_more h own rest (rest ++ own) rs (r ∷ []) [] f bytes refl tt (cut_none (rest ++ own) part range c)
      (λ last shows. subst (λ l. ShowsRest w.decides at (rest ++ own) (l ++ r ∷ []))
      (sym (last_open w.decides at rest last still shows))
      (inl record { range = range; part = part; payload = c; early = early; shows = ap (λ x. x ∷ []) is }))

-- ---- a rest whose record is decided

-- the record that is shown of it
record LastEarly {R : Type 0} (d : Deciding R) (start range : ℕ) (part : List ℕ) (last : List R) : Type 0 where
  early : d.early start range part
  shows : last ≡ d.told start range part early ∷ []

last_early : {R : Type 0} (d : Deciding R) (at start : ℕ) (rest part : List ℕ) (range : ℕ) (last : List R)
    → CutPayload rest range part → d.early start range part → ShowsRest d at rest last
    → LastEarly d (at + 8) range part last
last_early d at start rest part range last c early (inl e) =
    let same = cut_once rest e.part part e.range range e.payload c in
    let first : LastEarly d (at + 8) e.range e.part last = record { early = e.early; shows = e.shows } in
    subst (λ n. LastEarly d (at + 8) n part last) same.0 (subst (λ l. LastEarly d (at + 8) e.range l last) same.1 first)
last_early d at start rest part range last c early (inr o) = absurd (o.undecided start range part c early)

pub part_own : (rest part own : List ℕ) (range : ℕ) → CutPayload rest range part → AreBytes rest → AreBytes own
    → AreBytes (part ++ own)
part_own rest part own range c are bytes = part_more rest part own range c (AreBytes-append rest own are bytes)

module _ {R : Type 0} (w : Showing R) (place : R → ℕ) (laws : IsShowing w place) where
  -- it goes on
  pub front_skip : (h own rest part : List ℕ) (start range : ℕ) (rs : List R) → IsStoreFront w h rs rest → AreBytes own
      → CutPayload rest range part → w.decides.early start range part → CutPayload (rest ++ own) range (part ++ own)
      → IsStoreFront w (h ++ own) rs (rest ++ own)
  front_skip h own rest part start range rs f bytes cut early cut' =
      let at = length (store_of f.whole) in
      let are = part_own rest part own range cut (rest_bytes w h rs rest f) bytes in
      subst (λ l. IsStoreFront w (h ++ own) l (rest ++ own)) (append-nil rs)
      (front_more w h own rest (rest ++ own) rs [] [] f bytes refl tt (cut_none (rest ++ own) (part ++ own) range cut')
      (λ last shows.
      let l = last_early w.decides at start rest part range last cut early shows in
      let stays = laws.early_stays (at + 8) range part own are l.early in
      inl record {
        range = range;
        part = part ++ own;
        payload = cut';
        early = stays.longer;
        shows = append-nil last ∙ l.shows ∙ ap (λ x. x ∷ []) (sym stays.same);
      }))

  -- its payload is whole
  pub front_skipped : (h own rest part : List ℕ) (start range : ℕ) (rs : List R) → IsStoreFront w h rs rest
      → AreBytes own → CutPayload rest range part → w.decides.early start range part
      → rest ++ own ≡ demo_record range (part ++ own) → IsDemoRecord range (part ++ own)
      → IsStoreFront w (h ++ own) rs []
  front_skipped h own rest part start range rs f bytes cut early is is_record =
      let at = length (store_of f.whole) in
      let are = part_own rest part own range cut (rest_bytes w h rs rest f) bytes in
      let tail : List StoreRecord = record { range = range; payload = part ++ own } ∷ [] in
      subst (λ l. IsStoreFront w (h ++ own) l []) (append-nil rs)
      (front_more w h own rest [] rs [] tail f bytes
      (is ∙ sym (append-nil (demo_record range (part ++ own))) ∙ sym (append-nil (demo_record range (part ++ own) ++ [])))
      (is_record, tt) (NoWholeRecord-short [] (omega arith))
      (λ last shows.
      let l = last_early w.decides at start rest part range last cut early shows in
      subst (λ k. ShowsStore w at tail [] (k ++ [])) (sym l.shows) (
        early_whole w place laws (at + 8) range part own are l.early,
        inr record { undecided = undecided_short w.decides [] (omega arith); shows = refl },
      )))
