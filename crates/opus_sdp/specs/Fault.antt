-- The first fault of a line from left to right. The order is this project's.
use Rattle.std.specs.Prelude.{ℕ, ◌+◌, Bool, not, ◌&&◌, nat_lt, if◌then◌else◌, List, [], ◌∷◌, ◌++◌, length, take, drop, codes, Option, None, Some}
use Rattle.std.specs.List.{position_or_len, before_first}
use Rattle.std.specs.Option.{option_or}
use Rattle.std.specs.Str.{bytes_eq}
use Rattle.opus_sdp.specs.Text.{is_blank, is_equals, trim}
use Rattle.opus_sdp.specs.PayloadType.{is_payload_type}
use Rattle.opus_sdp.specs.Table.{same_name, is_named, is_allowed}
use Rattle.opus_sdp.specs.Grammar.{is_name}
use Rattle.opus_sdp.specs.Parts.{Part, parts_of, name_of, value_at, param_of}
use Rattle.opus_sdp.specs.declared.param.Param.{Param}
use Rattle.opus_sdp.specs.declared.fault.SdpFault.{SdpFault}
use Rattle.opus_sdp.specs.declared.fault.SdpFault.TheVariants.{Prefix, PayloadType, Codec, Name, Repeat, Value}

abbrev pub begins_with : List ℕ → List ℕ → Bool
begins_with front line = bytes_eq (take (length front) line) front

-- behind the first bytes, so many: the word up to the first blank, its end, and what follows it

abbrev pub word_in : ℕ → List ℕ → List ℕ
word_in front line = before_first is_blank (drop front line)

abbrev pub word_end : ℕ → List ℕ → ℕ
word_end front line = front + length (word_in front line)

abbrev pub rest_in : ℕ → List ℕ → List ℕ
rest_in front line = drop (word_end front line) line

-- the line begins as this, and with a payload type behind it
abbrev pub front_fault : List ℕ → List ℕ → Option SdpFault
front_fault front line =
    if not (begins_with front line) then Some Prefix
    else if not (is_payload_type (word_in (length front) line)) then Some (PayloadType (length front))
    else None

-- the parameter has an `=`, and a name in front of it
abbrev pub has_name : List ℕ → Bool
has_name text = nat_lt (position_or_len is_equals text) (length text) && is_name (name_of text)

-- what is wrong with a parameter behind these
abbrev pub fault_after : List Param → Part → Option SdpFault
fault_after before p =
    if not (has_name p.text) then Some (Name p.at)
    else if is_named (name_of p.text) before then Some (Repeat p.at)
    else if not (is_allowed (name_of p.text) (value_at p).text) then Some (Value (value_at p).at)
    else None

abbrev pub first_fault : List Param → List Part → Option SdpFault
first_fault before [] = None
first_fault before (p ∷ parts) =
    option_or (fault_after before p) (first_fault (before ++ param_of p ∷ []) parts)

-- the parameters of a line `a=fmtp:`
abbrev pub parts_in : List ℕ → List Part
parts_in line = parts_of (word_end 7 line) (rest_in 7 line)

unfoldable pub fmtp_fault : List ℕ → Option SdpFault
fmtp_fault line = option_or (front_fault (codes "a=fmtp:") line) (first_fault [] (parts_in line))

abbrev pub codec_fault : List ℕ → Option SdpFault
codec_fault line =
    if same_name (trim (rest_in 9 line)) (codes "opus/48000/2") then None else Some (Codec (word_end 9 line))

unfoldable pub rtpmap_fault : List ℕ → Option SdpFault
rtpmap_fault line = option_or (front_fault (codes "a=rtpmap:") line) (codec_fault line)
