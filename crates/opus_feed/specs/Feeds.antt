-- What a feed stands for, and that nothing changes any more.
use Rattle.std.specs.Prelude.{◌≡◌, ℕ, ◌≤◌, List, Result, Ok, Err, ⊤, vec_capacity}
use Rattle.opus_packet.specs.PacketPrefix.{AreBytes}
use Rattle.opus_packet.specs.declared.fault.Fault.{Fault}
use Rattle.opus_feed.specs.Holding.{held_of}
use Rattle.opus_feed.specs.Stands.{StandsAt, EndsAt, fault_at}
use Rattle.opus_feed.specs.Steps.{IsReading, IsWhole}
use Rattle.opus_feed.specs.declared.feed.Feed.{Feed}
use Rattle.opus_feed.specs.declared.place.Place.{Place}
use Rattle.opus_feed.specs.declared.place.Place.TheVariants.{Opening, Filling, Full, Failed}
use Rattle.opus_feed.specs.declared.step.Step.{Step}
use Rattle.opus_feed.specs.declared.step.Step.TheVariants.{More, Done, Refused}

-- these bytes came since the last reset, and `finish` wasn't called
pub record Stands (feed : Feed) (bytes : List ℕ) : Type 0 where
  pub are_bytes : AreBytes bytes
  pub at : StandsAt feed.framing feed.place feed.head feed.body bytes
  pub held : feed.body.kept ≡ held_of feed.framing feed.padding bytes

-- these bytes came since the last reset and before the first `finish`
pub record Ended (feed : Feed) (bytes : List ℕ) : Type 0 where
  pub are_bytes : AreBytes bytes
  pub at : EndsAt feed.framing feed.place feed.head feed.body bytes
  pub held : feed.body.kept ≡ held_of feed.framing feed.padding bytes

-- the bytes of memory that a feed has for what it keeps
abbrev pub room_in : Feed → ℕ
room_in feed = vec_capacity feed.body.bytes

-- no packet can follow, and the fault is this
abbrev pub HasFailed : Fault → Feed → Type 0
HasFailed f feed = (feed.place ≡ Failed f.rule) × (f ≡ fault_at f.rule feed.body)

-- where a feed stands behind a step, for a piece of so many bytes
abbrev pub Tells : Step → Feed → ℕ → Type 0
Tells More feed size = IsReading feed.place
Tells (Done used) feed size = IsWhole feed.place × (used ≤ size)
Tells (Refused f) feed size = HasFailed f feed

-- once a packet is whole, or none can follow, a piece changes nothing
abbrev pub AgainAt : Place → Feed → Step → Feed → Type 0
AgainAt (Opening stage) old result new = Unit {0}
AgainAt Filling old result new = Unit {0}
AgainAt Full old result new = (result ≡ Done 0) × (new ≡ old)
AgainAt (Failed rule) old result new = (result ≡ Refused (fault_at rule old.body)) × (new ≡ old)

abbrev pub Again : Feed → Step → Feed → Type 0
Again old result new = AgainAt old.place old result new

-- the same of `finish`
abbrev pub TellsEnd : Result ⊤ Fault → Feed → Type 0
TellsEnd (Ok done) feed = IsWhole feed.place
TellsEnd (Err f) feed = HasFailed f feed

abbrev pub AgainEndAt : Place → Feed → Result ⊤ Fault → Feed → Type 0
AgainEndAt (Opening stage) old result new = Unit {0}
AgainEndAt Filling old result new = Unit {0}
AgainEndAt Full old result new = (result ≡ Ok tt) × (new ≡ old)
AgainEndAt (Failed rule) old result new = (result ≡ Err (fault_at rule old.body)) × (new ≡ old)

abbrev pub AgainEnd : Feed → Result ⊤ Fault → Feed → Type 0
AgainEnd old result new = AgainEndAt old.place old result new

abbrev pub StaysOverAt : Place → Feed → Feed → Type 0
StaysOverAt (Opening stage) old new = Unit {0}
StaysOverAt Filling old new = Unit {0}
StaysOverAt Full old new = new ≡ old
StaysOverAt (Failed rule) old new = new ≡ old

abbrev pub StaysOver : Feed → Feed → Type 0
StaysOver old new = StaysOverAt old.place old new
