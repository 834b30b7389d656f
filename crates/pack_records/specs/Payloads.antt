-- What is shown of a payload, and what reads one, as values.
use Rattle.std.specs.Prelude.{◌≡◌, ℕ, ◌+◌, ◌-◌, ◌<◌, List, ◌++◌, length, take, drop, Option, None, Some}
use Rattle.opus_packet.specs.PacketPrefix.{AreBytes}

-- What the first bytes of a payload decide, however it goes on. The first of them stands at a place, and a range goes
-- with it.
pub record Deciding (R : Type 0) : Type 1 where
  pub early : ℕ → ℕ → List ℕ → Type 0
  -- the record that is decided
  pub told : (start range : ℕ) (part : List ℕ) → early start range part → R

-- what records show
pub record Showing (R : Type 0) : Type 1 where
  -- the record shows what these bytes hold, of which the first stands at a place
  pub holds : ℕ → ℕ → List ℕ → R → Type 0
  -- no payload
  pub lost : ℕ → ℕ → R
  pub decides : Deciding R

-- What is decided early stays, and is what a whole payload that begins so holds.
pub record StaysEarly {R : Type 0} (d : Deciding R) (start range : ℕ) (part more : List ℕ)
    (early : d.early start range part) : Type 0 where
  pub longer : d.early start range (part ++ more)
  pub same : d.told start range (part ++ more) longer ≡ d.told start range part early

pub record IsShowing {R : Type 0} (w : Showing R) (place : R → ℕ) : Type 0 where
  pub holds_once : (start range : ℕ) (bytes : List ℕ) (r s : R) → w.holds start range bytes r
      → w.holds start range bytes s → r ≡ s
  pub early_some : (start range : ℕ) (part : List ℕ) → w.decides.early start range part → 0 < length part
  pub early_stays : (start range : ℕ) (part more : List ℕ) → AreBytes (part ++ more)
      → (early : w.decides.early start range part) → StaysEarly w.decides start range part more early
  pub early_holds : (start range : ℕ) (part : List ℕ) → AreBytes part → (early : w.decides.early start range part)
      → w.holds start range part (w.decides.told start range part early)
  -- a record that wasn't decided early is decided at its end
  pub holds_place : (start range : ℕ) (bytes : List ℕ) (r : R) → w.holds start range bytes r
      → (w.decides.early start range bytes → ⊥) → place r ≡ start + length bytes
  pub lost_place : (start range : ℕ) → place (w.lost start range) ≡ start

-- What reads a payload: what it never changes, what that shows, when a record was decided, the bytes of a payload that it
-- stands for, which decide nothing yet, and the record that stands, which can be lent with the bytes taken last.
pub record Reading (P L R : Type 0) : Type 1 where
  pub layout : P → L
  pub shows : L → Showing R
  pub place : R → ℕ
  pub stands : P → ℕ → List ℕ → Type 0
  pub current : P → List ℕ → R
  pub ready : P → List ℕ → Type 0

pub record IsReading {P L R : Type 0} (m : Reading P L R) : Type 0 where
  pub showing : (l : L) → IsShowing (m.shows l) m.place
  -- bytes of which nothing is decided decide nothing early
  pub undecided : (p : P) (begun start range : ℕ) (part : List ℕ) → m.stands p begun part
      → (m.shows (m.layout p)).decides.early start range part → ⊥

-- ---- what its calls say

-- these bytes of a payload decide the record that stands
pub record IsDecided {P L R : Type 0} (m : Reading P L R) (p : P) (start range : ℕ) (bytes : List ℕ) : Type 0 where
  pub early : (m.shows (m.layout p)).decides.early start range bytes
  pub shown : (own : List ℕ) → m.current p own ≡ (m.shows (m.layout p)).decides.told start range bytes early
  pub place : m.place ((m.shows (m.layout p)).decides.told start range bytes early) ≡ start + length bytes

-- a piece came behind h, whose first byte stands at `start`: it decides nothing yet, or its first bytes do
abbrev pub Takes : {P L R : Type 0} → Reading P L R → P → ℕ → ℕ → List ℕ → List ℕ → Option ℕ → Type 0
Takes m p start range h piece None = m.stands p start (h ++ piece)
Takes m p start range h piece (Some count) = IsDecided m p start range (h ++ take count piece)

-- The record that stands shows the payload, all of which lies behind the first bytes of those taken last, and it is
-- decided at its end.
pub record IsHere {P L R : Type 0} (m : Reading P L R) (p : P) (start range before : ℕ) (own : List ℕ) : Type 0 where
  pub shown : (m.shows (m.layout p)).holds start range (drop before own) (m.current p own)
  pub place : m.place (m.current p own) ≡ start + (length own - before)
