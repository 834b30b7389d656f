-- How a fault of a line is told.
use Rattle.std.specs.Prelude.{ℕ, List, [], codes}
use Rattle.opus_sdp.specs.declared.fault.SdpFault.{SdpFault}
use Rattle.opus_sdp.specs.declared.fault.SdpFault.TheVariants.{Prefix, PayloadType, Codec, Name, Repeat, Value, NoMemory}

-- where it points, from the line's first byte
abbrev pub fault_place : SdpFault → ℕ
fault_place Prefix = 0
fault_place (PayloadType place) = place
fault_place (Codec place) = place
fault_place (Name place) = place
fault_place (Repeat place) = place
fault_place (Value place) = place
fault_place NoMemory = 0

-- its text; it is never want of memory
abbrev pub sdp_fault_text : SdpFault → List ℕ
sdp_fault_text Prefix = codes "prefix"
sdp_fault_text (PayloadType place) = codes "payload type"
sdp_fault_text (Codec place) = codes "codec"
sdp_fault_text (Name place) = codes "name"
sdp_fault_text (Repeat place) = codes "repeat"
sdp_fault_text (Value place) = codes "value"
sdp_fault_text NoMemory = []
