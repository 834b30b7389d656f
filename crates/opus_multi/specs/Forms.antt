-- The written forms of multistream packets: this project's own choice among the spellings of RFC 7845, section 3.
use Rattle.std.specs.Prelude.{ℕ, ◌≤◌, List, [], ◌∷◌, ◌++◌, length}
use Rattle.opus_packet.specs.Value.{PacketValue, IsPacketValue}
use Rattle.opus_packet.specs.Tail.{max_tail}
use Rattle.opus_packet.specs.Held.{HeldRead}
use Rattle.opus_packet.specs.Canonical.{canonical, canonical_self_delimited, kept_form, kept_self_delimited}

-- one form of all but the last, and another of the last
abbrev pub forms : {A : Type 0} → (A → List ℕ) → (A → List ℕ) → List A → List ℕ
forms self whole [] = []
forms self whole (a ∷ []) = whole a
forms self whole (a ∷ b ∷ more) = self a ++ forms self whole (b ∷ more)

-- the canonical multistream form
abbrev pub canonical_multistream : List PacketValue → List ℕ
canonical_multistream vs = forms canonical_self_delimited canonical vs

-- a value without padding bytes
abbrev pub bare : PacketValue → HeldRead
bare v = record { value = v; tail = [] }

-- a value, and padding bytes that can be kept
pub record IsKeptValue (h : HeldRead) : Type 0 where
  pub value : IsPacketValue h.value
  pub tail : length h.tail ≤ max_tail

-- the kept form of one value with its padding bytes
abbrev pub kept_of : HeldRead → List ℕ
kept_of h = kept_form h.value h.tail

abbrev pub kept_self_of : HeldRead → List ℕ
kept_self_of h = kept_self_delimited h.value h.tail

-- the kept multistream form
abbrev pub kept_multistream : List HeldRead → List ℕ
kept_multistream hs = forms kept_self_of kept_of hs
