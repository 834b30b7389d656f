-- An input that is one payload, whatever reads it.
use Rattle.std.specs.Prelude.{◌≡◌, ◌⊎◌, ℕ, List, [], ◌∷◌, Bool, true, false, Option, None}
use Rattle.opus_packet.specs.PacketPrefix.{AreBytes}
use Rattle.pack_records.specs.declared.cut.Cut.{Cut}
use Rattle.pack_records.specs.Payloads.{Deciding, Showing, Reading}

-- the bytes decide the record, however they go on, and one record shows that
pub record OneRecord {R : Type 0} (d : Deciding R) (h : List ℕ) (rs : List R) : Type 0 where
  pub early : d.early 0 0 h
  pub records_are : rs ≡ d.told 0 0 h early ∷ []

-- nothing is decided
pub record NoneYet {R : Type 0} (d : Deciding R) (h : List ℕ) (rs : List R) : Type 0 where
  pub undecided : d.early 0 0 h → ⊥
  pub records_are : rs ≡ []

-- bytes settle the record that they decide, and no other
pub record Settles {R : Type 0} (d : Deciding R) (h : List ℕ) (rs : List R) : Type 0 where
  pub are_bytes : AreBytes h
  pub shows : OneRecord d h rs ⊎ NoneYet d h rs

-- the whole input is one record, which shows what it holds; it is never cut
pub record Ends {R : Type 0} (w : Showing R) (h : List ℕ) (rs : List R) (cut : Option Cut) : Type 0 where
  pub are_bytes : AreBytes h
  pub shown : R
  pub holds : w.holds 0 0 h shown
  pub records_are : rs ≡ shown ∷ []
  pub cut_is : cut ≡ None

-- what bytes settle, in the words of the reader of the payload
pub record SaysSettles {R : Type 0} (d : Deciding R) (Own : List ℕ → List R → Type 0) : Type 0 where
  pub to_own : (h : List ℕ) (rs : List R) → Settles d h rs → Own h rs
  pub from_own : (h : List ℕ) (rs : List R) → Own h rs → Settles d h rs

-- the record stands, or the bytes decide nothing yet
abbrev pub StandsAt : {P L R : Type 0} → Reading P L R → Bool → P → List ℕ → List R → Type 0
StandsAt m true p h rs = OneRecord (m.shows (m.layout p)).decides h rs
StandsAt m false p h rs = m.stands p 0 h × (rs ≡ [])

-- a machine was fed these bytes, and these records stand
pub record RawStands {P L R : Type 0} (m : Reading P L R) (over : Bool) (p : P) (h : List ℕ) (rs : List R) : Type 0 where
  pub are_bytes : AreBytes h
  pub at : StandsAt m over p h rs
