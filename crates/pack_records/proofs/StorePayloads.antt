-- The machine of a store, within a payload that is read in pieces.
use Rattle.std.proofs.Common.{◌≡◌, inl, inr, ℕ, ◌+◌, ◌≤◌, Bool, true, List, [], ◌∷◌, ◌++◌, length, sym, ap, ◌∙◌, subst, length-append, arith}
use Rattle.job_loop.specs.Forms.{HasFed}
use Rattle.opus_packet.specs.PacketPrefix.{AreBytes}
use Rattle.pack_records.specs.declared.store.Store.{Store}
use Rattle.pack_records.specs.declared.store.Mode.TheVariants.{Head, Payload, Skip}
use Rattle.pack_records.specs.Payloads.{Showing, IsShowing, Reading, IsReading, IsDecided}
use Rattle.pack_records.specs.Stores.{ShowsPayload, IsUndecided, IsStoreFront, store_of}
use Rattle.pack_records.specs.StoreRests.{some_shows, early_shows}
use Rattle.pack_records.specs.StoreStands.{StoreStands, StandsIn, IsOpened, IsPassed}
use Rattle.pack_records.proofs.StoreSteps.{cut_of, opened_more, opened_whole, start_is}
use Rattle.pack_records.proofs.StoreFronts.{undecided_by, cut_none, front_open, front_whole, front_early, rest_bytes, part_own}

-- a record stands
pub fed_whole : {P L R : Type 0} (m : Reading P L R) (new : Store P) (own h : List ℕ) (rs : List R) (at : ℕ) (stop : Bool)
    → stop ≡ true → length h + length own ≡ at
    → StoreStands m new (h ++ own) (rs ++ m.current new.payload own ∷ [])
    × (m.place (m.current new.payload own) ≡ length h + length own)
    → HasFed (StoreStands m new) m.place (m.current new.payload own) stop h rs own at
fed_whole m new own h rs at stop is size fed =
    subst (λ b. HasFed (StoreStands m new) m.place (m.current new.payload own) b h rs own at) (sym is)
    (fed.0, fed.1 ∙ size)

module _ {P L R : Type 0} (m : Reading P L R) (laws : IsReading m) where
  -- nothing of what came of a payload is decided
  rest_open : (p : P) (start left range : ℕ) (rest part : List ℕ) → IsOpened left range rest part
      → m.stands p start part → IsUndecided (m.shows (m.layout p)).decides rest
  rest_open p start left range rest part o reads =
      undecided_by (m.shows (m.layout p)).decides rest part range (cut_of left range rest part o)
      (λ n early. laws.undecided p start n range part reads early)

  -- no record stands yet
  pub more_fed : (s new : Store P) (own h : List ℕ) (rs : List R) → s.mode ≡ Payload → AreBytes own
      → s.left ≡ length own + new.left → new.mode ≡ Payload → new.head ≡ s.head → new.start ≡ s.start
      → new.range ≡ s.range → m.layout new.payload ≡ m.layout s.payload
      → ((part : List ℕ) → m.stands s.payload s.start part → s.start + length part ≡ length h
      → m.stands new.payload s.start (part ++ own))
      → StoreStands m s h rs → StoreStands m new (h ++ own) rs
  more_fed s new own h rs mode bytes left mode' head start range same taken stands =
      go (subst (λ k. StandsIn m k s h stands.rest) mode stands.stands)
    where
      go : StandsIn m Payload s h stands.rest → StoreStands m new (h ++ own) rs
      go (part, o, reads, at, none) =
          let w = m.shows (m.layout s.payload) in
          let rest = stands.rest in
          let o' = opened_more s.left new.left s.range rest part own o left new.some in
          let cut' = cut_of new.left s.range (rest ++ own) (part ++ own) o' in
          let reads' = taken part reads at in
          let still' : IsUndecided w.decides (rest ++ own) =
          subst (λ l. IsUndecided (m.shows l).decides (rest ++ own)) same
          (rest_open new.payload s.start new.left s.range (rest ++ own) (part ++ own) o' reads') in
          record {
            rest = rest ++ own;
            front = subst (λ l. IsStoreFront (m.shows l) (h ++ own) rs (rest ++ own)) (sym same)
                (front_open w h own rest rs stands.front bytes
                (rest_open s.payload s.start s.left s.range rest part o reads)
                (cut_none (rest ++ own) (part ++ own) s.range cut') still');
            stands = subst (λ k. StandsIn m k new (h ++ own) (rest ++ own)) (sym mode') (
              part ++ own,
              subst (λ n. IsOpened new.left n (rest ++ own) (part ++ own)) (sym range) o',
              subst (λ n. m.stands new.payload n (part ++ own)) (sym start) reads',
              omega (arith, start, at, length-append part own, length-append h own),
              ap (λ a. a.items) head ∙ none,
            );
          }

  -- the payload is whole
  pub end_fed : (s new : Store P) (mid p : P) (own h : List ℕ) (rs : List R) (start range : ℕ) → s.mode ≡ Payload
      → AreBytes own → 1 ≤ length own → s.left ≡ length own → new.mode ≡ Head → new.head ≡ s.head
      → m.layout mid ≡ m.layout s.payload → p ≡ mid → m.layout new.payload ≡ m.layout p → start ≡ s.start
      → range ≡ s.range
      → ((part : List ℕ) → m.stands s.payload s.start part → s.start + length part ≡ length h
      → m.stands mid s.start (part ++ own))
      → ((all : List ℕ) → m.stands p start all → start + length all ≡ length h + length own → (last : List ℕ)
      → (m.shows (m.layout p)).holds start range all (m.current new.payload last))
      → StoreStands m s h rs
      → StoreStands m new (h ++ own) (rs ++ m.current new.payload own ∷ [])
      × (m.place (m.current new.payload own) ≡ length h + length own)
  end_fed s new mid p own h rs start range mode bytes some left mode' head same is same' start_same range_same taken holds
      stands =
      go (subst (λ k. StandsIn m k s h stands.rest) mode stands.stands)
    where
      go : StandsIn m Payload s h stands.rest
          → StoreStands m new (h ++ own) (rs ++ m.current new.payload own ∷ [])
          × (m.place (m.current new.payload own) ≡ length h + length own)
      go (part, o, reads, at, none) =
          let w = m.shows (m.layout s.payload) in
          let showing = laws.showing (m.layout s.payload) in
          let rest = stands.rest in
          let r = m.current new.payload own in
          let parts = opened_whole s.left s.range rest part own o left in
          let whole_part : m.stands mid start (part ++ own) =
          subst (λ n. m.stands mid n (part ++ own)) (sym start_same) (taken part reads at) in
          let size : start + length (part ++ own) ≡ length h + length own =
          omega (arith, start_same, at, length-append part own) in
          let layout : m.layout p ≡ m.layout s.payload = ap m.layout is ∙ same in
          let held : w.holds start range (part ++ own) r =
          subst (λ l. (m.shows l).holds start range (part ++ own) r) layout
          (holds (part ++ own) (subst (λ q. m.stands q start (part ++ own)) (sym is) whole_part) size own) in
          let begins : start ≡ length (store_of stands.front.whole) + 8 =
          start_same ∙ start_is m s h part rs stands s.start o at in
          let shown : ShowsPayload w (length (store_of stands.front.whole) + 8) s.range (part ++ own) r =
          subst (λ n. ShowsPayload w (length (store_of stands.front.whole) + 8) n (part ++ own) r) range_same
          (subst (λ n. ShowsPayload w n range (part ++ own) r) begins
          (some_shows w start range (part ++ own) r (omega (arith, some, length-append part own)) held)) in
          let never : w.decides.early start range (part ++ own) → ⊥ =
          λ early. laws.undecided mid start start range (part ++ own) whole_part
          (subst (λ l. (m.shows l).decides.early start range (part ++ own)) (sym same) early) in (
            record {
              rest = [];
              front = subst (λ l. IsStoreFront (m.shows l) (h ++ own) (rs ++ r ∷ []) []) (sym (same' ∙ layout))
                  (front_whole w h own rest (part ++ own) s.range rs r stands.front bytes
                  (rest_open s.payload s.start s.left s.range rest part o reads) parts.1 parts.0 shown);
              stands = subst (λ k. StandsIn m k new (h ++ own) []) (sym mode') (sym (ap (λ a. a.items) head ∙ none));
            },
            showing.holds_place start range (part ++ own) r held never ∙ size,
          )

  -- its record is decided
  pub bad_fed : (s mid new : Store P) (count : ℕ) (own h : List ℕ) (rs : List R) → s.mode ≡ Payload → AreBytes own
      → 1 ≤ count → length own ≡ count → IsPassed mid new count Skip → mid.left ≡ s.left → mid.head ≡ s.head
      → mid.start ≡ s.start → mid.range ≡ s.range → m.layout new.payload ≡ m.layout s.payload
      → ((part : List ℕ) → m.stands s.payload s.start part → s.start + length part ≡ length h
      → IsDecided m new.payload s.start s.range (part ++ own))
      → StoreStands m s h rs
      → StoreStands m new (h ++ own) (rs ++ m.current new.payload own ∷ [])
      × (m.place (m.current new.payload own) ≡ length h + length own)
  bad_fed s mid new count own h rs mode bytes some size passed left head start range same taken stands =
      go (subst (λ k. StandsIn m k s h stands.rest) mode stands.stands)
    where
      w : Showing R
      w = m.shows (m.layout s.payload)

      showing : IsShowing w m.place
      showing = laws.showing (m.layout s.payload)

      r : R
      r = m.current new.payload own

      front_by : (part : List ℕ) → IsOpened s.left s.range stands.rest part → m.stands s.payload s.start part
          → s.start + length part ≡ length h → s.head.items ≡ []
          → (early : w.decides.early s.start s.range (part ++ own))
          → r ≡ w.decides.told s.start s.range (part ++ own) early → IsPassed mid new count Skip
          → StoreStands m new (h ++ own) (rs ++ r ∷ [])
      front_by part o reads at none early is (inl over) =
          let rest = stands.rest in
          let cut = cut_of s.left s.range rest part o in
          let are = part_own rest part own s.range cut (rest_bytes w h rs rest stands.front) bytes in
          let parts = opened_whole s.left s.range rest part own o (sym left ∙ sym over.all ∙ sym size) in
          let shown : ShowsPayload w (length (store_of stands.front.whole) + 8) s.range (part ++ own) r =
          subst (λ n. ShowsPayload w n s.range (part ++ own) r) (start_is m s h part rs stands s.start o at)
          (subst (ShowsPayload w s.start s.range (part ++ own)) (sym is)
          (early_shows w m.place showing s.start s.range (part ++ own) are early)) in
          record {
            rest = [];
            front = subst (λ l. IsStoreFront (m.shows l) (h ++ own) (rs ++ r ∷ []) []) (sym same)
                (front_whole w h own rest (part ++ own) s.range rs r stands.front bytes
                (rest_open s.payload s.start s.left s.range rest part o reads) parts.1 parts.0 shown);
            stands = subst (λ k. StandsIn m k new (h ++ own) []) (sym over.mode)
                (sym (ap (λ a. a.items) (over.head ∙ head) ∙ none));
          }
      front_by part o reads at none early is (inr l) =
          let rest = stands.rest in
          let o' = opened_more s.left new.left s.range rest part own o (sym left ∙ l.left ∙ ap (λ n. n + new.left) (sym size)) new.some in
          let begun = start_is m s h part rs stands s.start o at in
          let front : IsStoreFront w (h ++ own) (rs ++ r ∷ []) (rest ++ own) =
          subst (λ n. (e : w.decides.early n s.range (part ++ own)) → r ≡ w.decides.told n s.range (part ++ own) e
          → n ≡ length (store_of stands.front.whole) + 8 → IsStoreFront w (h ++ own) (rs ++ r ∷ []) (rest ++ own))
          (sym begun)
          (λ e told at_it. front_early w h own rest (part ++ own) s.range rs r stands.front bytes
          (rest_open s.payload s.start s.left s.range rest part o reads)
          (cut_of new.left s.range (rest ++ own) (part ++ own) o') e told) early is begun in
          record {
            rest = rest ++ own;
            front = subst (λ l. IsStoreFront (m.shows l) (h ++ own) (rs ++ r ∷ []) (rest ++ own)) (sym same) front;
            stands = subst (λ k. StandsIn m k new (h ++ own) (rest ++ own)) (sym l.mode_is) (
              part ++ own,
              subst (λ n. IsOpened new.left n (rest ++ own) (part ++ own)) (sym (l.range ∙ range)) o',
              subst (λ k. (m.shows k).decides.early new.start new.range (part ++ own)) (sym same)
                  (subst (λ n. w.decides.early n new.range (part ++ own)) (sym (l.start ∙ start))
                  (subst (λ n. w.decides.early s.start n (part ++ own)) (sym (l.range ∙ range)) early)),
              ap (λ a. a.items) (l.head ∙ head) ∙ none,
            );
          }

      go : StandsIn m Payload s h stands.rest
          → StoreStands m new (h ++ own) (rs ++ r ∷ []) × (m.place r ≡ length h + length own)
      go (part, o, reads, at, none) =
          let t = taken part reads at in
          let d = subst (λ k. (early : (m.shows k).decides.early s.start s.range (part ++ own))
          × (r ≡ (m.shows k).decides.told s.start s.range (part ++ own) early)
          × (m.place ((m.shows k).decides.told s.start s.range (part ++ own) early) ≡ s.start + length (part ++ own)))
          same (t.early, t.shown own, t.place) in (
            front_by part o reads at none d.0 d.1 passed,
            ap m.place d.1 ∙ d.2 ∙ omega (arith, at, length-append part own),
          )
