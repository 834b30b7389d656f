-- What a recorder stands for, and what it makes of a piece: this project's own.
use Rattle.std.specs.Prelude.{◌≡◌, ℕ, ◌≤◌, List, [], ◌∷◌, ◌++◌, take}
use Rattle.opus_packet.specs.declared.fault.Fault.{Fault}
use Rattle.opus_packet.specs.Value.{PacketValue}
use Rattle.opus_packet.specs.Canonical.{canonical}
use Rattle.opus_packet.specs.SelfPrefix.{IsSelfDelimitedPrefix}
use Rattle.opus_self.specs.BecomesSelf.{BeginsWithNone}
use Rattle.opus_feed.specs.Packets.{Refuses}
use Rattle.opus_feed.specs.Steps.{IsReading}
use Rattle.opus_feed.specs.Feeds.{Stands, HasFailed}
use Rattle.opus_feed.specs.declared.framing.Framing.TheVariants.{SelfDelimited}
use Rattle.rec_store.specs.DemoStore.{demo_record}
use Rattle.example_recorder.specs.Stream.{IsStream}
use Rattle.example_recorder.specs.declared.recorder.Recorder.{Recorder}
use Rattle.example_recorder.specs.declared.took.Took.{Took}
use Rattle.example_recorder.specs.declared.took.Took.TheVariants.{More, Record, Refused}

-- These bytes came since it began, and spell these packets, which are recorded, and a rest. No packet stands first in the
-- rest, and none was refused.
pub record RecorderStands (r : Recorder) (bytes : List ℕ) (recorded : List PacketValue) : Type 0 where
  pub rest : List ℕ
  pub stream : IsStream recorded rest bytes
  pub none : BeginsWithNone rest
  pub stands : Stands r.feed rest
  pub reading : IsReading r.feed.place

-- it refuses all that comes
abbrev pub IsRefusing : Fault → Recorder → Type 0
IsRefusing f r = HasFailed f r.feed

-- all of the piece came, and a packet can follow
pub record HasWaited (bytes : List ℕ) (recorded : List PacketValue) (new : Recorder) (before after : List ℕ) : Type 0 where
  pub stands : RecorderStands new bytes recorded
  pub prefix : IsSelfDelimitedPrefix stands.rest
  pub nothing : after ≡ before

-- so many bytes of the piece came, at least one, and end a packet, whose record was appended
pub record HasRecorded
    (bytes : List ℕ) (recorded : List PacketValue) (used : ℕ) (new : Recorder) (before after : List ℕ) : Type 0 where
  pub value : PacketValue
  pub stands : RecorderStands new bytes (recorded ++ value ∷ [])
  pub some : 1 ≤ used
  pub appended : after ≡ before ++ demo_record 0 (canonical value)

-- behind these packets no packet can begin, and the fault is that of the rest
pub record HasRefused
    (bytes : List ℕ) (recorded : List PacketValue) (f : Fault) (new : Recorder) (before after : List ℕ) : Type 0 where
  pub rest : List ℕ
  pub stream : IsStream recorded rest bytes
  pub refuses : Refuses SelfDelimited f rest
  pub refusing : IsRefusing f new
  pub nothing : after ≡ before

-- what a piece does behind these bytes, of which these packets are recorded
abbrev pub HasTaken : List ℕ → List PacketValue → List ℕ → Took → Recorder → List ℕ → List ℕ → Type 0
HasTaken bytes recorded piece More new before after = HasWaited (bytes ++ piece) recorded new before after
HasTaken bytes recorded piece (Record used) new before after =
    HasRecorded (bytes ++ take used piece) recorded used new before after
HasTaken bytes recorded piece (Refused f) new before after = HasRefused (bytes ++ piece) recorded f new before after

-- at most so many bytes were taken
abbrev pub IsWithin : ℕ → Took → Type 0
IsWithin size More = Unit {0}
IsWithin size (Record used) = used ≤ size
IsWithin size (Refused f) = Unit {0}

-- the same refusal again, and nothing changed
pub record Again (f : Fault) (old : Recorder) (took : Took) (new : Recorder) (before after : List ℕ) : Type 0 where
  pub refused : took ≡ Refused f
  pub same : new ≡ old
  pub nothing : after ≡ before
