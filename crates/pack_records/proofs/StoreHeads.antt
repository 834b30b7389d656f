-- The machine of a store, at the head of a record.
use Rattle.std.proofs.Common.{◌≡◌, ℕ, ◌+◌, ◌<◌, ◌≤◌, ◌^◌, Bool, true, false, List, [], ◌∷◌, ◌++◌, take, drop, length, refl, sym, ap, ◌∙◌, subst, length-append, append-nil, take-append-drop, length-drop, arith}
use Rattle.job_loop.specs.Forms.{HasFed}
use Rattle.opus_packet.specs.PacketPrefix.{AreBytes}
use Rattle.rec_store.specs.DemoStore.{demo_head, demo_record}
use Rattle.rec_store.proofs.DemoLemmas.{NoWholeRecord-short}
use Rattle.pack_records.specs.declared.store.Store.{Store}
use Rattle.pack_records.specs.declared.store.Mode.TheVariants.{Head}
use Rattle.pack_records.specs.Payloads.{Reading, IsReading, IsHere}
use Rattle.pack_records.specs.Stores.{ShowsPayload, IsStoreFront, store_of}
use Rattle.pack_records.specs.StoreRests.{some_shows}
use Rattle.pack_records.specs.StoreStands.{StoreStands, StandsIn, IsOpened, IsLost, IsOpen}
use Rattle.pack_records.proofs.StoreFronts.{undecided_short, undecided_by, begun_size, cut_none, front_none, front_open, front_whole}
use Rattle.pack_records.proofs.StoreSteps.{cut_of}

module _ {P L R : Type 0} (m : Reading P L R) where
  -- nothing came
  pub nothing_stands : (s : Store P) → s.mode ≡ Head → s.head.items ≡ [] → StoreStands m s [] []
  nothing_stands s mode none = record {
    rest = [];
    front = front_none (m.shows (m.layout s.payload));
    stands = subst (λ k. StandsIn m k s [] []) (sym mode) (sym none);
  }

  rest_head : (s : Store P) (h : List ℕ) (rs : List R) → s.mode ≡ Head → (stands : StoreStands m s h rs)
      → stands.rest ≡ s.head.items
  rest_head s h rs mode stands = subst (λ k. StandsIn m k s h stands.rest) mode stands.stands

  rest_small : (s : Store P) (h : List ℕ) (rs : List R) → s.mode ≡ Head → (stands : StoreStands m s h rs)
      → length stands.rest < 8
  rest_small s h rs mode stands = subst (λ (l : List ℕ). length l < 8) (sym (rest_head s h rs mode stands)) s.short

  -- the head isn't whole
  pub head_part : (s new : Store P) (own h : List ℕ) (rs : List R) → s.mode ≡ Head → AreBytes own
      → new.mode ≡ s.mode → new.payload ≡ s.payload → new.head.items ≡ s.head.items ++ own → StoreStands m s h rs
      → StoreStands m new (h ++ own) rs
  head_part s new own h rs mode bytes mode' payload head stands =
      let w = m.shows (m.layout s.payload) in
      let rest = stands.rest in
      let is : rest ++ own ≡ new.head.items = ap (λ l. l ++ own) (rest_head s h rs mode stands) ∙ sym head in
      let short : length (rest ++ own) < 8 = subst (λ (l : List ℕ). length l < 8) (sym is) new.short in
      record {
        rest = rest ++ own;
        front = subst (λ p. IsStoreFront (m.shows (m.layout p)) (h ++ own) rs (rest ++ own)) (sym payload)
            (front_open w h own rest rs stands.front bytes
            (undecided_short w.decides rest (rest_small s h rs mode stands)) (NoWholeRecord-short (rest ++ own) short)
            (undecided_short w.decides (rest ++ own) short));
        stands = subst (λ k. StandsIn m k new (h ++ own) (rest ++ own)) (sym (mode' ∙ mode)) is;
      }

module _ {P L R : Type 0} (m : Reading P L R) (laws : IsReading m) where
  -- the record has no payload
  lost_fed : (s new : Store P) (own h : List ℕ) (rs : List R) (start range : ℕ) → s.mode ≡ Head → AreBytes own
      → s.head.items ++ own ≡ demo_head 0 range → range < 2 ^ 32 → new.head.items ≡ []
      → m.layout new.payload ≡ m.layout s.payload → start ≡ length h + length own → IsLost m new start range
      → StoreStands m s h rs
      → StoreStands m new (h ++ own) (rs ++ m.current new.payload own ∷ [])
      × (m.place (m.current new.payload own) ≡ length h + length own)
  lost_fed s new own h rs start range mode bytes head fits none same at lost stands =
      let w = m.shows (m.layout s.payload) in
      let rest = stands.rest in
      let r = m.current new.payload own in
      let is : rest ++ own ≡ demo_head 0 range = ap (λ l. l ++ own) (rest_head m s h rs mode stands) ∙ head in
      let size = ap (λ (l : List ℕ). length l) is in
      let begins : start ≡ length (store_of stands.front.whole) + 8 =
      omega (arith, at, begun_size w h rs rest stands.front, size, length-append rest own) in
      let shown : r ≡ w.lost start range = subst (λ l. r ≡ (m.shows l).lost start range) same (lost.shown own) in (
        record {
          rest = [];
          front = subst (λ l. IsStoreFront (m.shows l) (h ++ own) (rs ++ r ∷ []) []) (sym same)
              (front_whole w h own rest [] range rs r stands.front bytes
              (undecided_short w.decides rest (rest_small m s h rs mode stands)) (is ∙ sym (append-nil (demo_head 0 range)))
              (record { range_fits = fits; payload_fits = omega arith })
              (shown ∙ ap (λ n. w.lost n range) begins));
          stands = subst (λ k. StandsIn m k new (h ++ own) []) (sym lost.mode) (sym none);
        },
        ap m.place shown ∙ (laws.showing (m.layout s.payload)).lost_place start range ∙ at,
      )

  -- the payload is to come
  open_fed : (s new : Store P) (own h : List ℕ) (rs : List R) (start len range : ℕ) → s.mode ≡ Head → AreBytes own
      → s.head.items ++ own ≡ demo_head len range → len < 2 ^ 32 → range < 2 ^ 32 → new.head.items ≡ []
      → m.layout new.payload ≡ m.layout s.payload → start ≡ length h + length own → IsOpen m new start len range
      → StoreStands m s h rs → StoreStands m new (h ++ own) rs
  open_fed s new own h rs start len range mode bytes head len_fits fits none same at opened stands =
      let w = m.shows (m.layout s.payload) in
      let showing = laws.showing (m.layout s.payload) in
      let rest = stands.rest in
      let is : rest ++ own ≡ demo_head len range = ap (λ l. l ++ own) (rest_head m s h rs mode stands) ∙ head in
      let none_yet : len ≡ length {A = ℕ} [] + len = omega arith in
      let o : IsOpened len range (rest ++ own) [] =
      record {
        some = opened.some;
        len_fits = omega (arith, len_fits);
        range_fits = fits;
        rest_is = is ∙ sym (append-nil (demo_head len range)) ∙ ap (λ n. demo_head n range ++ []) none_yet;
      } in
      let cut = cut_of len range (rest ++ own) [] o in
      record {
        rest = rest ++ own;
        front = subst (λ l. IsStoreFront (m.shows l) (h ++ own) rs (rest ++ own)) (sym same)
            (front_open w h own rest rs stands.front bytes
            (undecided_short w.decides rest (rest_small m s h rs mode stands)) (cut_none (rest ++ own) [] range cut)
            (undecided_by w.decides (rest ++ own) [] range cut
            (λ n early. omega (arith, showing.early_some n range [] early))));
        stands = subst (λ k. StandsIn m k new (h ++ own) (rest ++ own)) (sym opened.mode) (
          [],
          subst (λ n. IsOpened new.left n (rest ++ own) []) (sym opened.range_is)
              (subst (λ n. IsOpened n range (rest ++ own) []) (sym opened.left_is) o),
          subst (λ n. m.stands new.payload n []) (sym opened.start_is) opened.stands,
          omega (arith, opened.start_is, at, length-append h own),
          none,
        );
      }

  -- the head is whole
  pub head_fed : (s new : Store P) (own h : List ℕ) (rs : List R) (start len range : ℕ) (whole : Bool)
      → s.mode ≡ Head → AreBytes own → s.head.items ++ own ≡ demo_head len range → len < 2 ^ 32 → range < 2 ^ 32
      → new.head.items ≡ [] → m.layout new.payload ≡ m.layout s.payload → start ≡ length h + length own
      → (whole ≡ true → (len ≡ 0) × IsLost m new start range) → (whole ≡ false → IsOpen m new start len range)
      → StoreStands m s h rs
      → HasFed (StoreStands m new) m.place (m.current new.payload own) whole h rs own (length h + length own)
  head_fed s new own h rs start len range true mode bytes head len_fits fits none same at lost opened stands =
      lost_fed s new own h rs start range mode bytes (head ∙ ap (λ n. demo_head n range) (lost refl).0) fits none same at
      (lost refl).1 stands
  head_fed s new own h rs start len range false mode bytes head len_fits fits none same at lost opened stands =
      open_fed s new own h rs start len range mode bytes head len_fits fits none same at (opened refl) stands

  -- the record lies whole in what was fed
  pub here_fed : (s new : Store P) (own h : List ℕ) (rs : List R) (start len range : ℕ) → s.mode ≡ Head
      → s.head.items ≡ [] → AreBytes own → new.mode ≡ s.mode → new.head ≡ s.head
      → m.layout new.payload ≡ m.layout s.payload → demo_head len range ≡ take 8 own → length own ≡ 8 + len → 1 ≤ len
      → len < 2 ^ 32 → range < 2 ^ 32 → start ≡ length h + 8 → IsHere m new.payload start range 8 own
      → StoreStands m s h rs
      → StoreStands m new (h ++ own) (rs ++ m.current new.payload own ∷ [])
      × (m.place (m.current new.payload own) ≡ length h + length own)
  here_fed s new own h rs start len range mode none bytes mode' head same front size some len_fits fits at here stands =
      let w = m.shows (m.layout s.payload) in
      let rest = stands.rest in
      let r = m.current new.payload own in
      let payload = drop 8 own in
      let empty : rest ≡ [] = rest_head m s h rs mode stands ∙ none in
      let rest_size = ap (λ (l : List ℕ). length l) empty in
      let long : length payload ≡ len = omega (arith, size, length-drop 8 own) in
      let is : rest ++ own ≡ demo_record range payload =
      ap (λ l. l ++ own) empty ∙ sym (take-append-drop 8 own) ∙ ap (λ l. l ++ payload) (sym front)
      ∙ ap (λ n. demo_head n range ++ payload) (sym long) in
      let begins : start ≡ length (store_of stands.front.whole) + 8 =
      omega (arith, at, begun_size w h rs rest stands.front, rest_size) in
      let holds : w.holds start range payload r = subst (λ l. (m.shows l).holds start range payload r) same here.shown in
      let place = here.place in (
        record {
          rest = [];
          front = subst (λ l. IsStoreFront (m.shows l) (h ++ own) (rs ++ r ∷ []) []) (sym same)
              (front_whole w h own rest payload range rs r stands.front bytes
              (undecided_short w.decides rest (rest_small m s h rs mode stands)) is
              (record { range_fits = fits; payload_fits = subst (λ n. n < 2 ^ 32) (sym long) len_fits })
              (subst (λ n. ShowsPayload w n range payload r) begins
              (some_shows w start range payload r (omega (arith, some, long)) holds)));
          stands = subst (λ k. StandsIn m k new (h ++ own) []) (sym (mode' ∙ mode)) (sym (ap (λ a. a.items) head ∙ none));
        },
        omega (arith, place, at, size),
      )
