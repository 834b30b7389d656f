-- Frame lengths that stay where they were spelled (RFC 6716, 3.2.1).
use Rattle.std.specs.Prelude.{◌≡◌, ℕ, ◌*◌, ◌≤◌, List, [], ◌∷◌, length, take, sum, flat_map, All, Option, Some, None}
use Rattle.opus_flen.specs.FrameLength.{length_bytes}
use Rattle.opus_packet.specs.declared.spelled.Spelled.{Spelled}
use Rattle.opus_packet.specs.Value.{max_frame}
use Rattle.opus_packet.specs.HeaderRead.{lengths_read}

abbrev pub list_or_none : Option (List ℕ) → List ℕ
list_or_none (Some ns) = ns
list_or_none None = []

-- the lengths that so many bytes spell, one after another
abbrev pub lengths_in : ℕ → List ℕ → List ℕ
lengths_in count bytes = list_or_none (lengths_read count bytes)

-- the bytes spell so many lengths of frames, and nothing else
pub record SpellsLengths (count : ℕ) (bytes : List ℕ) : Type 0 where
  pub own : bytes ≡ flat_map length_bytes (lengths_in count bytes)
  pub counted : length (lengths_in count bytes) ≡ count
  pub each : All (λ n. n ≤ max_frame) (lengths_in count bytes)

-- the lengths that a `Spelled` stands for
abbrev pub lengths_of : Spelled → List ℕ
lengths_of s = lengths_in s.count s.bytes.now

-- its bytes spell its lengths, and its sum is theirs
pub record AreGiven (s : Spelled) : Type 0 where
  pub spells : SpellsLengths s.count s.bytes.now
  pub sum_is : s.sum ≡ sum (lengths_of s)
  pub most : s.count ≤ 47
  pub low : s.sum ≤ 59925
  pub short : length s.bytes.now ≤ 2 * s.count

-- so many lengths stand at the front of the bytes
pub record AreLengths (count : ℕ) (bytes : List ℕ) (s : Spelled) : Type 0 where
  pub given : AreGiven s
  pub counted : s.count ≡ count
  pub read : lengths_read count bytes ≡ Some (lengths_of s)
  pub within : length s.bytes.now ≤ length bytes
  pub front : s.bytes.now ≡ take (length s.bytes.now) bytes

-- so many lengths stand first, or they aren't all there
abbrev pub ReadsLengths : ℕ → List ℕ → Option Spelled → Type 0
ReadsLengths count bytes (Some s) = AreLengths count bytes s
ReadsLengths count bytes None = lengths_read count bytes ≡ None

-- the first of so many lengths and the bytes that spell those that are left
pub record SplitsTo (count left : ℕ) (bytes : List ℕ) (first : ℕ) (rest : List ℕ) : Type 0 where
  pub are : lengths_in count bytes ≡ first ∷ lengths_in left rest
  pub spells : SpellsLengths left rest
  pub small : first ≤ max_frame
