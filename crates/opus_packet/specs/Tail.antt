-- The padding bytes at a packet's end (RFC 6716, 3.2.5), kept or counted.
use Rattle.std.specs.Prelude.{◌≡◌, ℕ, ◌≤◌, nat_le, if◌then◌else◌, List, [], length}
use Rattle.opus_packet.specs.declared.tail.Tail as declared
use Rattle.opus_packet.specs.declared.tail.Tail.TheVariants.{Bytes, Dropped}

-- the bytes; or how many there are
pub data TailRead : Type 0 where
  kept : List ℕ → TailRead
  counted : ℕ → TailRead

-- a tail as plain numbers
abbrev pub tail_value : declared.Tail → TailRead
tail_value (Bytes bytes) = kept bytes.now
tail_value (Dropped count) = counted count

-- most bytes that are kept: this project's limit
abbrev pub max_tail : ℕ
max_tail = 65535

-- what is kept of some padding bytes
abbrev pub tail_of : List ℕ → TailRead
tail_of bytes = if nat_le (length bytes) max_tail then kept bytes else counted (length bytes)

-- how many bytes there are
abbrev pub tail_length : TailRead → ℕ
tail_length (kept bytes) = length bytes
tail_length (counted count) = count

-- the bytes that are kept
abbrev pub kept_bytes : TailRead → List ℕ
kept_bytes (kept bytes) = bytes
kept_bytes (counted count) = []

-- the bytes are kept
abbrev pub IsKept : TailRead → Type 0
IsKept (kept bytes) = length bytes ≤ max_tail
IsKept (counted count) = ⊥

-- no more bytes are kept than may be
abbrev pub IsWithinMost : TailRead → Type 0
IsWithinMost (kept bytes) = length bytes ≤ max_tail
IsWithinMost (counted count) = Unit {0}

-- a packet with this padding total can have the tail
pub record IsTail (tail : TailRead) (pad : ℕ) : Type 0 where
  pub none : pad ≡ 0 → tail_length tail ≡ 0
  pub most : IsWithinMost tail
