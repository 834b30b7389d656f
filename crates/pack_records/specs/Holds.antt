-- What the bytes of a record hold, as a job sees it.
use Rattle.std.specs.Prelude.{◌≡◌, ℕ, ◌+◌, List, [], length, min, ◌⊎◌}
use Rattle.job_loop.specs.Shown.{Shown}
use Rattle.opus_packet.specs.declared.shape.Shape.{Shape}
use Rattle.opus_packet.specs.declared.fault.Fault.{Fault}
use Rattle.opus_packet.specs.Value.{PacketValue}
use Rattle.opus_packet.specs.Tail.{kept_bytes}
use Rattle.opus_packet.specs.PacketGrammar.{IsPacket}
use Rattle.opus_packet.specs.SelfGrammar.{IsSelfDelimited}
use Rattle.opus_feed.specs.declared.framing.Framing.{Framing}
use Rattle.opus_feed.specs.declared.framing.Framing.TheVariants.{Whole, SelfDelimited}
use Rattle.opus_feed.specs.declared.padding.Padding.{Padding}
use Rattle.opus_feed.specs.Tails.{tail_kept}
use Rattle.opus_feed.specs.Packets.{IsNone, fault_of}
use Rattle.pack_records.specs.declared.item.Found.{Found}
use Rattle.pack_records.specs.declared.item.Found.TheVariants.{Packet, Lost, Bad}
use Rattle.pack_records.specs.declared.item.Item.{Item}
use Rattle.pack_records.specs.Fits.{form_of}

-- all of the bytes spell the value in a framing and a shape, with these padding bytes at their end
abbrev pub Reads : Framing → PacketValue → Shape → List ℕ → List ℕ → Type 0
Reads Whole v shape tail bytes = IsPacket v shape tail bytes
Reads SelfDelimited v shape tail bytes = IsSelfDelimited v shape tail bytes

-- a record of these parts
abbrev pub record_of : ℕ → ℕ → ℕ → Found → List ℕ → Shown Item
record_of start place range found bytes = record {
  item = record { start = start; place = place; range = range; found = found };
  bytes = bytes;
}

-- A record that holds a packet of so many bytes, decided at its end: its value is shown in the kept form, with the
-- padding bytes that are kept.
abbrev pub packet_record : Padding → Framing → ℕ → ℕ → PacketValue → Shape → List ℕ → ℕ → Shown Item
packet_record padding framing start range v shape tail size =
    record_of start (start + size) range (Packet framing shape size)
    (form_of framing v (kept_bytes (tail_kept padding tail)))

-- A record of so many bytes that hold no packet. It is decided behind the byte at the fault's place, or at its end.
abbrev pub bad_record : ℕ → ℕ → Fault → ℕ → Shown Item
bad_record start range fault size = record_of start (start + min (fault.place + 1) size) range (Bad fault) []

-- a record that holds a lost packet
abbrev pub lost_record : ℕ → ℕ → Shown Item
lost_record start range = record_of start start range Lost []

-- the bytes from `start` on are a packet, and the record shows it
pub record HoldsPacket (padding : Padding) (framing : Framing) (start range : ℕ) (bytes : List ℕ)
    (r : Shown Item) : Type 0 where
  pub value : PacketValue
  pub shape : Shape
  pub tail : List ℕ
  pub reads : Reads framing value shape tail bytes
  pub shows : r ≡ packet_record padding framing start range value shape tail (length bytes)

-- the bytes from `start` on are no packet, or begin with none, and the record shows their fault
pub record HoldsBad (framing : Framing) (start range : ℕ) (bytes : List ℕ) (r : Shown Item) : Type 0 where
  pub none : IsNone framing bytes
  pub shows : r ≡ bad_record start range (fault_of framing bytes) (length bytes)

-- one of both
abbrev pub Holds : Padding → Framing → ℕ → ℕ → List ℕ → Shown Item → Type 0
Holds padding framing start range bytes r =
    HoldsPacket padding framing start range bytes r ⊎ HoldsBad framing start range bytes r
