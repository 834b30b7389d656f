-- What a feed stands for: the bytes that it took since the last reset.
use Rattle.std.specs.Prelude.{◌≡◌, ℕ, ◌+◌, ◌≤◌, List, ◌++◌, length, take}
use Rattle.opus_packet.specs.declared.fault.Rule.{Rule}
use Rattle.opus_packet.specs.declared.fault.Fault.{Fault}
use Rattle.opus_packet.specs.PacketFault.{fault}
use Rattle.opus_packet.specs.PacketPrefix.{AreBytes}
use Rattle.opus_feed.specs.declared.framing.Framing.{Framing}
use Rattle.opus_feed.specs.declared.framing.Framing.TheVariants.{Whole, SelfDelimited}
use Rattle.opus_feed.specs.declared.stage.Stage.TheVariants.{Ready}
use Rattle.opus_feed.specs.declared.head.Head.{Head}
use Rattle.opus_feed.specs.declared.body.Body.{Body}
use Rattle.opus_feed.specs.declared.place.Place.{Place}
use Rattle.opus_feed.specs.declared.place.Place.TheVariants.{Opening, Filling, Full, Failed}
use Rattle.opus_feed.specs.Heads.{spelling}
use Rattle.opus_feed.specs.Packets.{Refuses, IsNone, fault_of}

-- the bytes begin with the header, and those that came stand behind it; what is kept of them stands first
pub record Holds (framing : Framing) (h : Head) (b : Body) (bytes : List ℕ) : Type 0 where
  pub behind : List ℕ
  pub bytes_are : bytes ≡ spelling framing Ready h ++ behind
  pub came : b.came ≤ length behind
  pub kept_are : take b.kept b.bytes.items ≡ take b.kept behind

-- and nothing else
pub record Takes (framing : Framing) (h : Head) (b : Body) (bytes : List ℕ) : Type 0 where
  pub holds : Holds framing h b bytes
  pub all : length holds.behind ≡ b.came

-- a self-delimited packet stands first: bytes behind it change nothing
abbrev pub StandsWhole : Framing → Head → Body → List ℕ → Type 0
StandsWhole Whole h b bytes = ⊥
StandsWhole SelfDelimited h b bytes = Holds SelfDelimited h b bytes

-- the fault where so many bytes came that a packet can have
abbrev pub fault_at : Rule → Body → Fault
fault_at rule b = fault rule (b.front + b.came)

-- before `finish`
abbrev pub StandsAt : Framing → Place → Head → Body → List ℕ → Type 0
StandsAt framing (Opening stage) h b bytes = bytes ≡ spelling framing stage h
StandsAt framing Filling h b bytes = Takes framing h b bytes
StandsAt framing Full h b bytes = StandsWhole framing h b bytes
StandsAt framing (Failed rule) h b bytes =
    (more : List ℕ) → AreBytes (bytes ++ more) → Refuses framing (fault_at rule b) (bytes ++ more)

-- a packet is whole: all of the bytes, or a self-delimited one at their front
abbrev pub EndsWhole : Framing → Head → Body → List ℕ → Type 0
EndsWhole Whole h b bytes = Takes Whole h b bytes
EndsWhole SelfDelimited h b bytes = Holds SelfDelimited h b bytes

-- after `finish`
abbrev pub EndsAt : Framing → Place → Head → Body → List ℕ → Type 0
EndsAt framing (Opening stage) h b bytes = ⊥
EndsAt framing Filling h b bytes = ⊥
EndsAt framing Full h b bytes = EndsWhole framing h b bytes
EndsAt framing (Failed rule) h b bytes = IsNone framing bytes × (fault_at rule b ≡ fault_of framing bytes)
