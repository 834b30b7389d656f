-- What is printed of a value is a line that says it.
use Rattle.std.proofs.Common.{◌≡◌, ◌<◌, ◌≤◌, ◌^◌, ℕ, ◌+◌, Bool, true, false, not, ◌==◌, List, [], ◌∷◌, ◌++◌, map, get_or, Option, None, Some, option_map, append-nil, refl, sym, ap, ◌∙◌, lit<, arith}
use Rattle.std.specs.Prelude.{codes}
use Rattle.std.specs.List.{filter_map, join_with_byte}
use Rattle.std.specs.Fmt.{decimal}
use Rattle.std.proofs.lemmas.Bool.{and_from, le-leb, eq-eqb}
use Rattle.opus_sdp.specs.Text.{is_blank, trim_end}
use Rattle.text_numbers.specs.Number.{is_digit}
use Rattle.opus_sdp.specs.Table.{Row, table, row_of}
use Rattle.opus_sdp.specs.Params.{number, others, fmtp_of}
use Rattle.opus_sdp.specs.Grammar.{are_blank, is_name, is_value_byte, IsValue, SpellsParam, AreSpelled, SpellsParams, IsFmtpLine, IsRtpmapLine}
use Rattle.opus_sdp.specs.Printed.{flag_number, numbers_of, printed_params, param_text, params_after, fmtp_text, rtpmap_text, AreOthers, IsFmtp}
use Rattle.opus_sdp.specs.declared.param.Param.{Param}
use Rattle.opus_sdp.specs.declared.fmtp.Fmtp.{Fmtp}
use Rattle.opus_sdp.specs.declared.fmtp.Rtpmap.{Rtpmap}
use Rattle.text_numbers.proofs.NumberLemmas.{decimal-digits}
use Rattle.opus_sdp.proofs.TextLemmas.{list_all_weaker, digit-no_blank, digit-value}
use Rattle.opus_sdp.proofs.SpelledLemmas.{trim_end-full, trim_start-full}
use Rattle.opus_sdp.proofs.ValueLemmas.{AreWritten}
use Rattle.opus_sdp.proofs.RowsLemmas.{AreRows, FitRows, row_params, are_from, table-rows, value-fits, rows-number, rows-others}
use Rattle.opus_sdp.proofs.PrintedLemmas.{printed-allowed}

-- names and values

decimal-value : (n : ℕ) → n < 2 ^ 64 → IsValue (decimal n)
decimal-value n fits =
    let digits = decimal-digits n fits in
    let full = list_all_weaker is_digit (λ b. not (is_blank b)) digit-no_blank (decimal n) digits in
    record {
      bytes = list_all_weaker is_digit is_value_byte digit-value (decimal n) digits;
      bare = ap trim_end (trim_start-full (decimal n) full) ∙ trim_end-full (decimal n) full;
    }

rows-written : (i : ℕ) (rows : List Row) (numbers : List (Option ℕ)) (more : List Param) → AreRows i rows → FitRows rows numbers
    → AreWritten more → AreWritten (row_params rows numbers ++ more)
rows-written i [] [] more are fit written = written
rows-written i [] (o ∷ numbers) more are fit written = absurd fit
rows-written i (r ∷ rows) [] more are fit written = absurd fit
rows-written i (r ∷ rows) (None ∷ numbers) more are fit written = rows-written (i + 1) rows numbers more are.5 fit.1 written
rows-written i (r ∷ rows) (Some n ∷ numbers) more are fit written =
    let small = are.4 in
    let most = fit.0.1 in
    (are.3, decimal-value n (omega arith), rows-written (i + 1) rows numbers more are.5 fit.1 written)

others-written : (before params : List Param) → AreOthers before params → AreWritten params
others-written before [] are = tt
others-written before (p ∷ params) are = (are.0, are.1, others-written (before ++ p ∷ []) params are.4)

printed-written : (m : Fmtp) → IsFmtp m → AreWritten (printed_params m)
printed-written m is =
    rows-written 0 table (numbers_of m) m.others table-rows (value-fits m is) (others-written [] m.others is.others)

-- the pieces of the printed text

spells-text : (p : Param) (front : List ℕ) → are_blank front ≡ true → is_name p.name ≡ true → IsValue p.value
    → SpellsParam p (front ++ param_text p)
spells-text p front blank name value = record {
  before = front;
  between = [];
  behind = [];
  after = [];
  spelled = ap (λ l. front ++ l) (sym (append-nil ((p.name ++ []) ++ 61 ∷ p.value) ∙ ap (λ l. l ++ 61 ∷ p.value) (append-nil p.name)));
  blank_before = blank;
  blank_between = refl;
  blank_behind = refl;
  blank_after = refl;
  name = name;
  value = value;
}

rest-spelled : (params : List Param) → AreWritten params → AreSpelled (map Some params) (map param_text params)
rest-spelled [] written = tt
rest-spelled (p ∷ params) written = (spells-text p [] refl written.0 written.1, rest-spelled params written.2)

rest-joined : (text : List ℕ) (params : List Param) → text ++ params_after 59 params ≡ join_with_byte 59 (text ∷ map param_text params)
rest-joined text [] = append-nil text
rest-joined text (p ∷ params) = ap (λ l. text ++ 59 ∷ l) (rest-joined (param_text p) params)

all-kept : (params : List Param) → params ≡ filter_map (λ (piece : Option Param). piece) (map Some params)
all-kept [] = refl
all-kept (p ∷ params) = ap (λ l. p ∷ l) (all-kept params)

params-spelled : (params : List Param) → AreWritten params → SpellsParams params (params_after 32 params)
params-spelled [] written = record { pieces = []; texts = []; apart = refl; joined = refl; spelled = tt; are = refl }
params-spelled (p ∷ params) written = record {
  pieces = map Some (p ∷ params);
  texts = (32 ∷ param_text p) ∷ map param_text params;
  apart = refl;
  joined = rest-joined (32 ∷ param_text p) params;
  spelled = (spells-text p (32 ∷ []) refl written.0 written.1, rest-spelled params written.2);
  are = all-kept (p ∷ params);
}

-- the value of the printed text

others-from : (before params : List Param) → AreOthers before params → are_from 8 params ≡ true
others-from before [] are = refl
others-from before (p ∷ params) are =
    let row = are.2 in
    and_from _ _ (le-leb 8 (row_of p.name) (omega arith)) (others-from (before ++ p ∷ []) params are.4)

others-all : (before params : List Param) → AreOthers before params → others params ≡ params
others-all before [] are = refl
others-all before (p ∷ params) are =
    rw (eq-eqb (row_of p.name) 8 are.2) (ap (λ l. p ∷ l) (others-all (before ++ p ∷ []) params are.4))

flag-back : (flag : Option Bool) → option_map (λ n. n == 1) (flag_number flag) ≡ flag
flag-back None = refl
flag-back (Some true) = refl
flag-back (Some false) = refl

printed-number : (m : Fmtp) (k : ℕ) → IsFmtp m → k < 8 → number (0 + k) (printed_params m) ≡ get_or (numbers_of m) k None
printed-number m k is within =
    rows-number 0 table (numbers_of m) m.others k table-rows (value-fits m is) (others-from [] m.others is.others) within

same_value : (m k : Fmtp) → k.payload_type ≡ m.payload_type → k.max_playback_rate ≡ m.max_playback_rate
    → k.max_capture_rate ≡ m.max_capture_rate → k.max_average_bitrate ≡ m.max_average_bitrate → k.stereo ≡ m.stereo
    → k.sprop_stereo ≡ m.sprop_stereo → k.cbr ≡ m.cbr → k.in_band_fec ≡ m.in_band_fec → k.dtx ≡ m.dtx → k.others ≡ m.others → k ≡ m
same_value m k payload_type playback capture bitrate stereo sprop cbr fec dtx rest i = record {
  payload_type = payload_type i;
  max_playback_rate = playback i;
  max_capture_rate = capture i;
  max_average_bitrate = bitrate i;
  stereo = stereo i;
  sprop_stereo = sprop i;
  cbr = cbr i;
  in_band_fec = fec i;
  dtx = dtx i;
  others = rest i;
}

printed-flag : (m : Fmtp) (k : ℕ) (flag : Option Bool) → IsFmtp m → k < 8 → get_or (numbers_of m) k None ≡ flag_number flag
    → option_map (λ n. n == 1) (number (0 + k) (printed_params m)) ≡ flag
printed-flag m k flag is within said =
    ap (option_map (λ (n : ℕ). n == 1)) (printed-number m k is within ∙ said) ∙ flag-back flag

printed-value : (m : Fmtp) → IsFmtp m → m ≡ fmtp_of m.payload_type (printed_params m)
printed-value m is =
    sym (same_value m (fmtp_of m.payload_type (printed_params m)) refl
    (printed-number m 0 is (lit< tt)) (printed-number m 1 is (lit< tt)) (printed-number m 2 is (lit< tt))
    (printed-flag m 3 m.stereo is (lit< tt) refl) (printed-flag m 4 m.sprop_stereo is (lit< tt) refl)
    (printed-flag m 5 m.cbr is (lit< tt) refl) (printed-flag m 6 m.in_band_fec is (lit< tt) refl)
    (printed-flag m 7 m.dtx is (lit< tt) refl)
    (rows-others 0 table (numbers_of m) m.others table-rows ∙ others-all [] m.others is.others))

pub fmtp-printed : (m : Fmtp) → IsFmtp m → IsFmtpLine m (fmtp_text m)
unfolding fmtp_text
fmtp-printed m is = record {
  params = printed_params m;
  text = params_after 32 (printed_params m);
  fits = is.payload_type;
  spelled = refl;
  behind = params-spelled (printed_params m) (printed-written m is);
  allowed = printed-allowed m is;
  value = printed-value m is;
}

pub rtpmap-printed : (r : Rtpmap) → r.payload_type ≤ 127 → IsRtpmapLine r (rtpmap_text r)
unfolding rtpmap_text
rtpmap-printed r fits = record {
  between = 32 ∷ [];
  codec = codes "opus/48000/2";
  after = [];
  fits = fits;
  spelled = refl;
  some = lit< tt;
  blank_between = refl;
  blank_after = refl;
  opus = refl;
}
