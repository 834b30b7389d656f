-- What a line says in which there is no fault.
use Rattle.std.specs.Prelude.{List, ℕ, map}
use Rattle.text_numbers.specs.Number.{value_of}
use Rattle.opus_sdp.specs.Params.{fmtp_of}
use Rattle.opus_sdp.specs.Parts.{param_of}
use Rattle.opus_sdp.specs.Fault.{word_in, parts_in}
use Rattle.opus_sdp.specs.declared.fmtp.Rtpmap.{Rtpmap}
use Rattle.opus_sdp.specs.declared.fmtp.Fmtp.{Fmtp}

abbrev pub fmtp_in : List ℕ → Fmtp
fmtp_in line = fmtp_of (value_of (word_in 7 line)) (map param_of (parts_in line))

abbrev pub rtpmap_in : List ℕ → Rtpmap
rtpmap_in line = record { payload_type = value_of (word_in 9 line) }
