-- The machine of a store, within a payload.
use Rattle.std.proofs.Common.{◌≡◌, inl, inr, ℕ, ◌+◌, ◌<◌, ◌≤◌, ◌^◌, List, [], ◌++◌, length, sym, ap, ◌∙◌, subst, length-append, append_assoc, arith}
use Rattle.opus_packet.specs.PacketPrefix.{AreBytes}
use Rattle.rec_store.specs.DemoStore.{demo_head, demo_record, IsDemoRecord}
use Rattle.pack_records.specs.declared.store.Store.{Store}
use Rattle.pack_records.specs.declared.store.Mode.TheVariants.{Skip}
use Rattle.pack_records.specs.Payloads.{Showing, IsShowing, Reading, IsReading}
use Rattle.pack_records.specs.Stores.{CutPayload, IsStoreFront, store_of}
use Rattle.pack_records.specs.StoreStands.{StoreStands, StandsIn, IsOpened, IsPassed}
use Rattle.pack_records.proofs.StoreFronts.{begun_size, rest_bytes, part_own, front_skip, front_skipped}

-- ---- a payload of which a part came

pub cut_of : (left range : ℕ) (rest part : List ℕ) → IsOpened left range rest part → CutPayload rest range part
cut_of left range rest part o = record {
  len = length part + left;
  len_fits = o.len_fits;
  range_fits = o.range_fits;
  short = omega (arith, o.some);
  rest_is = o.rest_is;
}

pub opened_more : (left left' range : ℕ) (rest part own : List ℕ) → IsOpened left range rest part
    → left ≡ length own + left' → 1 ≤ left' → IsOpened left' range (rest ++ own) (part ++ own)
opened_more left left' range rest part own o is some =
    let size : length part + left ≡ length (part ++ own) + left' = omega (arith, is, length-append part own) in
    record {
      some = some;
      len_fits = subst (λ n. n < 2 ^ 32) size o.len_fits;
      range_fits = o.range_fits;
      rest_is = ap (λ l. l ++ own) o.rest_is ∙ append_assoc (demo_head (length part + left) range) part own
          ∙ ap (λ n. demo_head n range ++ (part ++ own)) size;
    }

pub opened_whole : (left range : ℕ) (rest part own : List ℕ) → IsOpened left range rest part → left ≡ length own
    → IsDemoRecord range (part ++ own) × (rest ++ own ≡ demo_record range (part ++ own))
opened_whole left range rest part own o is =
    let size : length part + left ≡ length (part ++ own) = omega (arith, is, length-append part own) in (
      record { range_fits = o.range_fits; payload_fits = subst (λ n. n < 2 ^ 32) size o.len_fits },
      ap (λ l. l ++ own) o.rest_is ∙ append_assoc (demo_head (length part + left) range) part own
          ∙ ap (λ n. demo_head n range ++ (part ++ own)) size,
    )

module _ {P L R : Type 0} (m : Reading P L R) where
  -- where the payload starts
  pub start_is : (s : Store P) (h part : List ℕ) (rs : List R) (stands : StoreStands m s h rs) (start : ℕ)
      → IsOpened s.left s.range stands.rest part → start + length part ≡ length h
      → start ≡ length (store_of stands.front.whole) + 8
  start_is s h part rs stands start o at =
      let size = begun_size (m.shows (m.layout s.payload)) h rs stands.rest stands.front in
      let rest = ap (λ (l : List ℕ). length l) o.rest_is in
      omega (arith, at, size, rest, length-append (demo_head (length part + s.left) s.range) part)

  -- ---- within a payload that is decided

  pub skip_fed : IsReading m → (s new : Store P) (own h : List ℕ) (rs : List R) → s.mode ≡ Skip → AreBytes own
      → IsPassed s new (length own) Skip → new.payload ≡ s.payload → StoreStands m s h rs → StoreStands m new (h ++ own) rs
  skip_fed laws s new own h rs mode bytes passed payload stands =
      go (subst (λ k. StandsIn m k s h stands.rest) mode stands.stands) passed
    where
      w : Showing R
      w = m.shows (m.layout s.payload)

      showing : IsShowing w m.place
      showing = laws.showing (m.layout s.payload)

      go : StandsIn m Skip s h stands.rest → IsPassed s new (length own) Skip → StoreStands m new (h ++ own) rs
      go (part, o, early, head) (inl over) =
          let parts = opened_whole s.left s.range stands.rest part own o (sym over.all) in
          record {
            rest = [];
            front = subst (λ p. IsStoreFront (m.shows (m.layout p)) (h ++ own) rs []) (sym payload)
                (front_skipped w m.place showing h own stands.rest part s.start s.range rs stands.front bytes
                (cut_of s.left s.range stands.rest part o) early parts.1 parts.0);
            stands = subst (λ k. StandsIn m k new (h ++ own) []) (sym over.mode) (sym (ap (λ a. a.items) over.head ∙ head));
          }
      go (part, o, early, head) (inr l) =
          let o' = opened_more s.left new.left s.range stands.rest part own o l.left new.some in
          let c = cut_of s.left s.range stands.rest part o in
          let are = part_own stands.rest part own s.range c (rest_bytes w h rs stands.rest stands.front) bytes in
          let on : w.decides.early s.start s.range (part ++ own) =
          (showing.early_stays s.start s.range part own are early).longer in
          record {
            rest = stands.rest ++ own;
            front = subst (λ p. IsStoreFront (m.shows (m.layout p)) (h ++ own) rs (stands.rest ++ own)) (sym payload)
                (front_skip w m.place showing h own stands.rest part s.start s.range rs stands.front bytes c early
                (cut_of new.left s.range (stands.rest ++ own) (part ++ own) o'));
            stands = subst (λ k. StandsIn m k new (h ++ own) (stands.rest ++ own)) (sym l.mode_is) (
              part ++ own,
              subst (λ n. IsOpened new.left n (stands.rest ++ own) (part ++ own)) (sym l.range) o',
              subst (λ p. (m.shows (m.layout p)).decides.early new.start new.range (part ++ own)) (sym payload)
                  (subst (λ n. w.decides.early n new.range (part ++ own)) (sym l.start)
                  (subst (λ n. w.decides.early s.start n (part ++ own)) (sym l.range) on)),
              ap (λ a. a.items) l.head ∙ head,
            );
          }
