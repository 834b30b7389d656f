-- What the numbers of a record say of the bytes that are lent with them.
use Rattle.std.specs.Prelude.{◌≡◌, ℕ, ◌≤◌, List, [], length}
use Rattle.opus_packet.specs.Value.{PacketValue, IsPacketValue}
use Rattle.opus_packet.specs.Tail.{max_tail}
use Rattle.opus_packet.specs.Canonical.{kept_form, kept_self_delimited}
use Rattle.opus_feed.specs.declared.framing.Framing.{Framing}
use Rattle.opus_feed.specs.declared.framing.Framing.TheVariants.{Whole, SelfDelimited}
use Rattle.pack_records.specs.declared.item.Found.{Found}
use Rattle.pack_records.specs.declared.item.Found.TheVariants.{Packet, Lost, Bad}
use Rattle.pack_records.specs.declared.item.Item.{Item}

-- the kept form of a value and its padding bytes, in a framing
abbrev pub form_of : Framing → PacketValue → List ℕ → List ℕ
form_of Whole v tail = kept_form v tail
form_of SelfDelimited v tail = kept_self_delimited v tail

-- some packet's kept form
pub record IsForm (framing : Framing) (bytes : List ℕ) : Type 0 where
  pub value : PacketValue
  pub tail : List ℕ
  pub is_value : IsPacketValue value
  pub small : length tail ≤ max_tail
  pub bytes_are : bytes ≡ form_of framing value tail

-- a packet is lent in its kept form, and nothing of any other record
abbrev pub FoundFits : Found → List ℕ → Type 0
FoundFits (Packet framing shape size) bytes = IsForm framing bytes
FoundFits Lost bytes = bytes ≡ []
FoundFits (Bad fault) bytes = bytes ≡ []

abbrev pub ItemFits : Item → List ℕ → Type 0
ItemFits item bytes = FoundFits item.found bytes
