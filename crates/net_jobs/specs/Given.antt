-- What a sender is given of a store, by the store's own records.
use Rattle.std.specs.Prelude.{◌≡◌, ℕ, List, [], ◌∷◌, map, Option, None, Some}
use Rattle.std.specs.List.{AllByRecursion}
use Rattle.job_loop.specs.Shown.{Shown}
use Rattle.opus_packet.specs.declared.shape.Shape.{Shape}
use Rattle.opus_packet.specs.Value.{PacketValue, IsPacketValue}
use Rattle.opus_packet.specs.PacketGrammar.{Spells}
use Rattle.pack_records.specs.declared.item.Item.{Item}
use Rattle.pack_records.specs.Demo.{StoreRecord}
use Rattle.net_jobs.specs.Send.{given_of}

-- what the sender is given of records, as they are shown
abbrev pub given_all : List (Shown Item) → List (Option PacketValue)
given_all rs = map (λ r. given_of r.item.found r.bytes) rs

-- a payload is a packet of this value, in any shape and with any padding bytes; or there is none, where it is lost
abbrev pub IsPayloadOf : List ℕ → Option PacketValue → Type 0
IsPayloadOf payload None = payload ≡ []
IsPayloadOf payload (Some v) = (shape : Shape) × Spells v shape payload

-- the records of a store hold these packets, one by one
abbrev pub HoldOneByOne : List StoreRecord → List (Option PacketValue) → Type 0
HoldOneByOne [] [] = Unit {0}
HoldOneByOne [] (g ∷ gs) = ⊥
HoldOneByOne (s ∷ ss) [] = ⊥
HoldOneByOne (s ∷ ss) (g ∷ gs) = IsPayloadOf s.payload g × HoldOneByOne ss gs

-- packets, and lost ones
abbrev pub IsSent : Option PacketValue → Type 0
IsSent None = Unit {0}
IsSent (Some v) = IsPacketValue v

abbrev pub AreSent : List (Option PacketValue) → Type 0
AreSent records = AllByRecursion IsSent records
