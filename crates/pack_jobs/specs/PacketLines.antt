-- The lines that tell of a packet: one of the packet, and one of each of its frames.
use Rattle.std.specs.Prelude.{ℕ, zero, suc, ◌+◌, ◌/◌, ◌%◌, ◌^◌, Bool, true, false, List, [], ◌∷◌, ◌++◌, length, Option, Some, None, codes, decimal}
use Rattle.opus_toc.specs.Configuration.{samples_of, mode_of, bandwidth_of}
use Rattle.opus_toc.specs.Flags.{frame_flags}
use Rattle.opus_toc.specs.declared.toc.Mode.{Mode}
use Rattle.opus_toc.specs.declared.toc.Mode.TheVariants.{Silk, Hybrid, Celt}
use Rattle.opus_toc.specs.declared.toc.Band.{Band}
use Rattle.opus_toc.specs.declared.toc.Band.TheVariants.{Narrow, Medium, Wide, SuperWide, Full}
use Rattle.opus_toc.specs.declared.silk_flags.Flags.{Flags}
use Rattle.opus_packet.specs.Value.{PacketValue}
use Rattle.opus_packet.specs.declared.shape.Shape.{Shape}

-- ---- names (RFC 6716, 2.1.3 and 3.1)

abbrev pub mode_name : Mode → List ℕ
mode_name Silk = codes "silk"
mode_name Hybrid = codes "hybrid"
mode_name Celt = codes "celt"

abbrev pub band_name : Band → List ℕ
band_name Narrow = codes "nb"
band_name Medium = codes "mb"
band_name Wide = codes "wb"
band_name SuperWide = codes "swb"
band_name Full = codes "fb"

abbrev pub channels_name : Bool → List ℕ
channels_name false = codes "mono"
channels_name true = codes "stereo"

-- `K.S`: stream S of record K
abbrev pub stream_name : ℕ → ℕ → List ℕ
stream_name number stream = decimal number ++ codes "." ++ decimal stream

-- ---- the line of a packet

-- `config C MODE BAND N samples CH`, where N counts the samples at 48 kHz of a frame
unfoldable pub kind_text : ℕ → Bool → List ℕ
kind_text config stereo =
    codes "config " ++ decimal config ++ codes " " ++ mode_name (mode_of config) ++ codes " "
    ++ band_name (bandwidth_of config) ++ codes " " ++ decimal (samples_of config) ++ codes " samples "
    ++ channels_name stereo

-- `code X, M frames, pad P, B bytes`, as the packet was spelled; P counts the bytes of the padding's length too
unfoldable pub spelling_text : Shape → ℕ → ℕ → List ℕ
spelling_text shape count size =
    codes "code " ++ decimal shape.code ++ codes ", " ++ decimal count ++ codes " frames, pad " ++ decimal shape.pad
    ++ codes ", " ++ decimal size ++ codes " bytes"

-- a packet of stream S of record K, in the shape and the size in bytes that it was spelled in
unfoldable pub packet_line : ℕ → ℕ → Shape → ℕ → PacketValue → List ℕ
packet_line number stream shape size v =
    stream_name number stream ++ codes ": " ++ kind_text v.config v.stereo ++ codes ", "
    ++ spelling_text shape (length v.frames) size ++ 10 ∷ []

-- ---- the line of a frame

-- the lowest `count` bits of a number as digits, the highest first
abbrev pub bit_digits : ℕ → ℕ → List ℕ
bit_digits zero bits = []
bit_digits (suc count) bits = (48 + (bits / 2 ^ count) % 2) ∷ bit_digits count bits

abbrev pub bit_digit : Bool → ℕ
bit_digit false = 48
bit_digit true = 49

-- ` NAME V/F`: the VAD bits of a channel in the order of its SILK frames, and its LBRR bit
abbrev pub channel_text : List ℕ → ℕ → ℕ → Bool → List ℕ
channel_text name count vad lbrr = name ++ bit_digits count vad ++ codes "/" ++ bit_digit lbrr ∷ []

-- side is there in stereo alone
abbrev pub side_text : Bool → Flags → List ℕ
side_text false f = []
side_text true f = channel_text (codes " side ") f.silk_frames f.vad_side f.lbrr_side

-- the flags at the front of a frame, if it has some (RFC 6716, 4.2.3)
abbrev pub flags_text : Bool → Option Flags → List ℕ
flags_text stereo None = []
flags_text stereo (Some f) =
    channel_text (codes " mid ") f.silk_frames f.vad_mid f.lbrr_mid ++ side_text stereo f

-- `K.S.I: L bytes` and the flags, of frame I
unfoldable pub frame_line : ℕ → ℕ → ℕ → ℕ → Bool → List ℕ → List ℕ
frame_line number stream index config stereo frame =
    stream_name number stream ++ codes "." ++ decimal index ++ codes ": " ++ decimal (length frame) ++ codes " bytes"
    ++ flags_text stereo (frame_flags config stereo frame) ++ 10 ∷ []

-- frames, of which the first has this number
abbrev pub frame_lines : ℕ → ℕ → ℕ → ℕ → Bool → List (List ℕ) → List ℕ
frame_lines number stream index config stereo [] = []
frame_lines number stream index config stereo (frame ∷ frames) =
    frame_line number stream index config stereo frame ++ frame_lines number stream (index + 1) config stereo frames

-- ---- both

abbrev pub packet_lines : ℕ → ℕ → Shape → ℕ → PacketValue → List ℕ
packet_lines number stream shape size v =
    packet_line number stream shape size v ++ frame_lines number stream 0 v.config v.stereo v.frames
