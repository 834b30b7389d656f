-- Lines of both kinds.
use Rattle.std.specs.Prelude.{◌≤◌, ℕ, if◌then◌else◌, List, codes, Option}
use Rattle.opus_sdp.specs.Grammar.{IsRtpmapLine, IsFmtpLine}
use Rattle.opus_sdp.specs.Fault.{begins_with, rtpmap_fault, fmtp_fault}
use Rattle.opus_sdp.specs.Printed.{rtpmap_text, fmtp_text, IsFmtp}
use Rattle.opus_sdp.specs.declared.fmtp.Rtpmap.{Rtpmap}
use Rattle.opus_sdp.specs.declared.fmtp.Fmtp.{Fmtp}
use Rattle.opus_sdp.specs.declared.fault.SdpFault.{SdpFault}

-- what a line says
pub data SdpValue : Type 0 where
  OfRtpmap : Rtpmap → SdpValue
  OfFmtp : Fmtp → SdpValue

abbrev pub IsSdpLine : SdpValue → List ℕ → Type 0
IsSdpLine (OfRtpmap r) line = IsRtpmapLine r line
IsSdpLine (OfFmtp m) line = IsFmtpLine m line

abbrev pub sdp_fault : List ℕ → Option SdpFault
sdp_fault line = if begins_with (codes "a=rtpmap:") line then rtpmap_fault line else fmtp_fault line

abbrev pub sdp_text : SdpValue → List ℕ
sdp_text (OfRtpmap r) = rtpmap_text r
sdp_text (OfFmtp m) = fmtp_text m

-- a value that a line may have
abbrev pub IsSdpValue : SdpValue → Type 0
IsSdpValue (OfRtpmap r) = r.payload_type ≤ 127
IsSdpValue (OfFmtp m) = IsFmtp m
