-- The printed lines, without a newline at the end. The order of the parameters is this project's.
use Rattle.std.specs.Prelude.{◌≡◌, ◌≤◌, ℕ, Bool, true, false, if◌then◌else◌, List, [], ◌∷◌, ◌++◌, codes, Option, option_map, IfSome}
use Rattle.std.specs.List.{filter_map, zip}
use Rattle.std.specs.Fmt.{decimal}
use Rattle.opus_sdp.specs.Table.{Row, table, row_of, is_named}
use Rattle.opus_sdp.specs.Grammar.{is_name, IsValue}
use Rattle.opus_sdp.specs.declared.fmtp.Rtpmap.{Rtpmap}
use Rattle.opus_sdp.specs.declared.fmtp.Fmtp.{Fmtp}
use Rattle.opus_sdp.specs.declared.param.Param.{Param}

abbrev pub flag_number : Option Bool → Option ℕ
flag_number flag = option_map (λ is. if is then 1 else 0) flag

-- the numbers in the order of the table
abbrev pub numbers_of : Fmtp → List (Option ℕ)
numbers_of m = m.max_playback_rate ∷ m.max_capture_rate ∷ m.max_average_bitrate ∷ flag_number m.stereo
    ∷ flag_number m.sprop_stereo ∷ flag_number m.cbr ∷ flag_number m.in_band_fec ∷ flag_number m.dtx ∷ []

-- the parameter of a row, if it has a number
abbrev pub row_param : Row × Option ℕ → Option Param
row_param p = option_map (λ n. record { name = p.0.name; value = decimal n }) p.1

-- known ones in the order of the table, and then the others

abbrev pub known_params : Fmtp → List Param
known_params m = filter_map row_param (zip table (numbers_of m))

abbrev pub printed_params : Fmtp → List Param
printed_params m = known_params m ++ m.others

abbrev pub param_text : Param → List ℕ
param_text p = p.name ++ 61 ∷ p.value

-- the parameters, each behind a byte: the first behind this one, and the others behind `;`
abbrev pub params_after : ℕ → List Param → List ℕ
params_after separator [] = []
params_after separator (p ∷ params) = separator ∷ (param_text p ++ params_after 59 params)

unfoldable pub fmtp_text : Fmtp → List ℕ
fmtp_text m = codes "a=fmtp:" ++ (decimal m.payload_type ++ params_after 32 (printed_params m))

unfoldable pub rtpmap_text : Rtpmap → List ℕ
rtpmap_text r = codes "a=rtpmap:" ++ (decimal r.payload_type ++ codes " opus/48000/2")

-- names that aren't known and aren't those of the parameters before, and values
abbrev pub AreOthers : List Param → List Param → Type 0
AreOthers before [] = Unit {0}
AreOthers before (p ∷ params) = (is_name p.name ≡ true) × IsValue p.value × (row_of p.name ≡ 8)
    × (is_named p.name before ≡ false) × AreOthers (before ++ p ∷ []) params

-- a value that a line may have
pub record IsFmtp (m : Fmtp) : Type 0 where
  pub payload_type : m.payload_type ≤ 127
  pub max_playback_rate : IfSome m.max_playback_rate (λ n. (8000 ≤ n) × (n ≤ 48000))
  pub max_capture_rate : IfSome m.max_capture_rate (λ n. (8000 ≤ n) × (n ≤ 48000))
  pub max_average_bitrate : IfSome m.max_average_bitrate (λ n. (6000 ≤ n) × (n ≤ 510000))
  pub others : AreOthers [] m.others
