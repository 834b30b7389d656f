-- A datagram as an arrival.
use Rattle.std.specs.Prelude.{◌≡◌, ℕ, ◌^◌, ◌≤◌, List, Some}
use Rattle.rtp_packet.specs.RtpValue.{RtpValue}
use Rattle.rtp_packet.specs.RtpBytes.{IsRtp}
use Rattle.rtp_packet.specs.RtpFault.{rtp_fault}
use Rattle.rtp_ends.specs.Numbers.{Heard}
use Rattle.example_gateway.specs.declared.fault.GatewayFault.{GatewayFault}
use Rattle.example_gateway.specs.declared.fault.GatewayFault.TheVariants.{NotRtp, Full, OutOfMemory}

-- what a receiver hears of an RTP packet
abbrev pub heard_of : RtpValue → Heard
heard_of p = record { seq = p.seq; stamp = p.stamp; payload = p.payload }

-- the bytes are an RTP packet
abbrev pub IsSomeRtp : List ℕ → Type 0
IsSomeRtp bytes = (p : RtpValue) × IsRtp p bytes

-- why bytes aren't taken behind so many arrivals: the first check that fails; or they are a packet, and 2^40 arrived, or
-- there is no memory
abbrev pub HasCause : List ℕ → ℕ → GatewayFault → Type 0
HasCause bytes arrivals (NotRtp fault) = rtp_fault bytes ≡ Some fault
HasCause bytes arrivals Full = IsSomeRtp bytes × (2 ^ 40 ≤ arrivals)
HasCause bytes arrivals OutOfMemory = IsSomeRtp bytes
