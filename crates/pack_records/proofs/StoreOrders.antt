-- The records of a store come in the order in which they are decided, whatever reads a payload.
use Rattle.std.proofs.Common.{inl, inr, ℕ, ◌+◌, ◌≤◌, List, [], ◌∷◌, length, sym, ap, ◌∙◌, subst, arith}
use Rattle.job_loop.specs.FirstFault.{InOrder}
use Rattle.opus_packet.specs.PacketPrefix.{AreBytes}
use Rattle.opus_packet.proofs.BytesLemmas.{AreBytes-right}
use Rattle.rec_store.specs.DemoStore.{demo_head}
use Rattle.pack_records.specs.Payloads.{Showing, IsShowing}
use Rattle.pack_records.specs.Stores.{StoreRecord, store_of, ShowsPayload, ShowsRest, ShowsStore, Settles}

-- a record is decided within its bytes, of which the first stands at `start`
abbrev pub IsWithin : ℕ → ℕ → ℕ → Type 0
IsWithin start size place = (start ≤ place) × (place ≤ start + size)

-- every record that shows some bytes is
abbrev pub AreWithin : {R : Type 0} → Showing R → (R → ℕ) → Type 0
AreWithin {R} w place =
    (start range : ℕ) (bytes : List ℕ) (r : R) → w.holds start range bytes r → IsWithin start (length bytes) (place r)

module _ {R : Type 0} (w : Showing R) (place : R → ℕ) (laws : IsShowing w place) (within : AreWithin w place) where
  shown_within : (start range : ℕ) (payload : List ℕ) (r : R) → ShowsPayload w start range payload r
      → IsWithin start (length payload) (place r)
  shown_within start range [] r shows =
      let is = ap place shows ∙ laws.lost_place start range in
      (omega (arith, is), omega (arith, is))
  shown_within start range (b ∷ bs) r shows = within start range (b ∷ bs) r shows

  rest_in_order : (from at : ℕ) (rest : List ℕ) (rs : List R) → from ≤ at → AreBytes rest → ShowsRest w.decides at rest rs
      → InOrder place from rs
  rest_in_order from at rest rs less are (inr o) = subst (InOrder place from) (sym o.shows) tt
  rest_in_order from at rest rs less are (inl e) =
      let part = AreBytes-right (demo_head e.payload.len e.range) e.part (subst AreBytes e.payload.rest_is are) in
      let r = w.decides.told (at + 8) e.range e.part e.early in
      let low = (within (at + 8) e.range e.part r (laws.early_holds (at + 8) e.range e.part part e.early)).0 in
      subst (InOrder place from) (sym e.shows) (omega (arith, less, low), tt)

  store_in_order : (from at : ℕ) (ss : List StoreRecord) (rest : List ℕ) (rs : List R) → from ≤ at → AreBytes rest
      → ShowsStore w at ss rest rs → InOrder place from rs
  store_in_order from at [] rest rs less are shows = rest_in_order from at rest rs less are shows
  store_in_order from at (s ∷ ss) rest [] less are shows = absurd shows
  store_in_order from at (s ∷ ss) rest (r ∷ rs) less are shows =
      let (low, high) = shown_within (at + 8) s.range s.payload r shows.0 in (
        omega (arith, less, low),
        store_in_order (place r) (at + (8 + length s.payload)) ss rest rs (omega (arith, high)) are shows.1,
      )

  pub settled_in_order : (h : List ℕ) (rs : List R) → Settles w h rs → InOrder place 0 rs
  settled_in_order h rs (rest, f) =
      store_in_order 0 0 f.whole rest rs (omega arith)
      (AreBytes-right (store_of f.whole) rest (subst AreBytes f.parts f.are_bytes)) f.shows
