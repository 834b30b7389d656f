-- What comes behind a header, and what is kept of it.
use Rattle.std.specs.Prelude.{◌≡◌, ℕ, ◌+◌, ◌-◌, ◌<◌, nat_le, if◌then◌else◌, List, ◌++◌, length, take, min, vec_len, vec_capacity}
use Rattle.opus_packet.specs.declared.fault.Rule.TheVariants.{R2}
use Rattle.opus_packet.specs.Header.{Header, body_size, padding_data}
use Rattle.opus_feed.specs.declared.framing.Framing.{Framing}
use Rattle.opus_feed.specs.declared.framing.Framing.TheVariants.{Whole, SelfDelimited}
use Rattle.opus_feed.specs.declared.padding.Padding.{Padding}
use Rattle.opus_feed.specs.declared.padding.Padding.TheVariants.{Drop, Keep}
use Rattle.opus_feed.specs.declared.body.Body.{Body}
use Rattle.opus_feed.specs.declared.place.Place.{Place}
use Rattle.opus_feed.specs.declared.place.Place.TheVariants.{Opening, Filling, Full, Failed}

-- bytes of memory: 48 frames of 1,275 bytes, and with Keep 65,535 bytes of padding
abbrev pub memory_of : Padding → ℕ
memory_of Drop = 61200
memory_of Keep = 126735

-- how many of so many padding bytes are kept: with Keep all, where they are at most 65,535
abbrev pub kept_tail : Padding → ℕ → ℕ
kept_tail Drop count = 0
kept_tail Keep count = if nat_le count 65535 then count else 0

-- bytes behind a header, where the last frame has n
abbrev pub bytes_behind : Header → ℕ → ℕ
bytes_behind h n = body_size h.sizes n + padding_data h.shape.pad

-- and those of them that are kept
abbrev pub kept_behind : Padding → Header → ℕ → ℕ
kept_behind padding h n = body_size h.sizes n + kept_tail padding (padding_data h.shape.pad)

-- how much can come and is kept may have changed
pub record IsStarted (old new : Body) : Type 0 where
  pub bytes_are : new.bytes ≡ old.bytes
  pub kept_is : new.kept ≡ old.kept
  pub came_is : new.came ≡ old.came
  pub front_is : new.front ≡ old.front

-- so many bytes of a piece came: as many as can come, of which those are kept that there is room for
pub record Fills (old : Body) (piece : List ℕ) (used : ℕ) (new : Body) : Type 0 where
  pub used_is : used ≡ min (length piece) (old.limit - old.came)
  pub came_is : new.came ≡ old.came + used
  pub kept_is : new.kept ≡ min new.room new.came
  pub bytes_are : take new.kept new.bytes.items ≡ take old.kept old.bytes.items ++ take (new.kept - old.kept) piece
  pub memory : vec_len new.bytes ≡ vec_len old.bytes
  pub capacity : vec_capacity new.bytes ≡ vec_capacity old.bytes
  pub front_is : new.front ≡ old.front
  pub limit_is : new.limit ≡ old.limit
  pub room_is : new.room ≡ old.room

-- more bytes can come: always in an undelimited packet, whose end the bytes don't tell
abbrev pub IsGoing : Framing → Body → Type 0
IsGoing Whole b = Unit {0}
IsGoing SelfDelimited b = b.came < b.limit

-- where a feed stands behind so many bytes of a piece, of which so many came
abbrev pub StandsBehind : Framing → Body → ℕ → ℕ → Place → Type 0
StandsBehind framing b size used (Opening stage) = ⊥
StandsBehind framing b size used Filling = (used ≡ size) × IsGoing framing b
StandsBehind framing b size used Full = (framing ≡ SelfDelimited) × (b.came ≡ b.limit)
StandsBehind framing b size used (Failed rule) =
    (framing ≡ Whole) × (used < size) × (rule ≡ R2)
