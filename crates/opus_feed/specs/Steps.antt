-- What a feed says, by where it stands.
use Rattle.std.specs.Prelude.{ℕ}
use Rattle.opus_packet.specs.PacketFault.{fault}
use Rattle.opus_feed.specs.declared.place.Place.{Place}
use Rattle.opus_feed.specs.declared.place.Place.TheVariants.{Opening, Filling, Full, Failed}
use Rattle.opus_feed.specs.declared.step.Step.{Step}
use Rattle.opus_feed.specs.declared.step.Step.TheVariants.{More, Done, Refused}

-- what `feed` says where so many bytes came that a packet can have, and so many of the last piece
abbrev pub step_at : Place → ℕ → ℕ → Step
step_at (Opening stage) size used = More
step_at Filling size used = More
step_at Full size used = Done used
step_at (Failed rule) size used = Refused (fault rule size)

-- more bytes can come
abbrev pub IsReading : Place → Type 0
IsReading (Opening stage) = Unit {0}
IsReading Filling = Unit {0}
IsReading Full = ⊥
IsReading (Failed rule) = ⊥

-- a packet is whole
abbrev pub IsWhole : Place → Type 0
IsWhole (Opening stage) = ⊥
IsWhole Filling = ⊥
IsWhole Full = Unit {0}
IsWhole (Failed rule) = ⊥

-- no more bytes come
abbrev pub IsOver : Place → Type 0
IsOver (Opening stage) = ⊥
IsOver Filling = ⊥
IsOver Full = Unit {0}
IsOver (Failed rule) = Unit {0}
