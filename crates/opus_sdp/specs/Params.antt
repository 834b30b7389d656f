-- What the parameters of a line say together.
use Rattle.std.specs.Prelude.{ℕ, ◌==◌, Bool, List, find, filter, Option, option_map}
use Rattle.text_numbers.specs.Number.{value_of}
use Rattle.opus_sdp.specs.Table.{row_of}
use Rattle.opus_sdp.specs.declared.fmtp.Fmtp.{Fmtp}
use Rattle.opus_sdp.specs.declared.param.Param.{Param}

-- the number of the parameter in this row of the table, if there is one
abbrev pub number : ℕ → List Param → Option ℕ
number row params = option_map (λ p. value_of p.value) (find (λ p. row_of p.name == row) params)

abbrev pub flag : ℕ → List Param → Option Bool
flag row params = option_map (λ n. n == 1) (number row params)

-- the parameters that aren't known, as they were written
abbrev pub others : List Param → List Param
others params = filter (λ p. row_of p.name == 8) params

abbrev pub fmtp_of : ℕ → List Param → Fmtp
fmtp_of n params = record {
  payload_type = n;
  max_playback_rate = number 0 params;
  max_capture_rate = number 1 params;
  max_average_bitrate = number 2 params;
  stereo = flag 3 params;
  sprop_stereo = flag 4 params;
  cbr = flag 5 params;
  in_band_fec = flag 6 params;
  dtx = flag 7 params;
  others = others params;
}
