-- What a line says is a value that a line may have.
use Rattle.std.proofs.Common.{◌≡◌, ◌<◌, ◌≤◌, ◌^◌, ℕ, Bool, true, false, not, ◌==◌, cond, List, [], ◌∷◌, ◌++◌, find, Option, None, Some, option_map, IfSome, refl, sym, subst, ◌∙◌, arith}
use Rattle.std.specs.List.{filter_map}
use Rattle.std.proofs.lemmas.Bool.{eqb-true, eqb-false}
use Rattle.std.proofs.lemmas.List.Sums.{prefix_len-le-length}
use Rattle.text_numbers.specs.Number.{value_of}
use Rattle.opus_sdp.specs.Table.{table, row_at, row_of, same_name, is_named, is_allowed}
use Rattle.opus_sdp.specs.Params.{number, others, fmtp_of}
use Rattle.opus_sdp.specs.Grammar.{is_name, IsValue, AreSpelled, AreAllowed, IsFmtpLine}
use Rattle.opus_sdp.specs.Printed.{AreOthers, IsFmtp}
use Rattle.opus_sdp.specs.declared.param.Param.{Param}
use Rattle.opus_sdp.specs.declared.fmtp.Fmtp.{Fmtp}
use Rattle.text_numbers.proofs.NumberLemmas.{number_within-spelled}
use Rattle.opus_sdp.proofs.TableLemmas.{length-table, is_allowed-row}
use Rattle.opus_sdp.proofs.ParamsLemmas.{is_named-other, others-known, others-other}

-- a row's number is one that the row allows

abbrev pub IsWithin : ℕ → ℕ → Type 0
IsWithin row n = ((row_at row).least ≤ n) × (n ≤ (row_at row).most)

number-at : (row : ℕ) (p : Param) (params : List Param) (here : Bool) → (row_of p.name == row) ≡ here → row < 8
    → (row_at row).most < 2 ^ 64 → is_allowed p.name p.value ≡ true → IfSome (number row params) (IsWithin row)
    → IfSome (option_map (λ (q : Param). value_of q.value) (cond here (Some p) (find (λ q. row_of q.name == row) params))) (IsWithin row)
number-at row p params true at known small allowed rest =
    let spelled = number_within-spelled (row_at row).least (row_at row).most p.value small
    (sym (is_allowed-row p.name p.value row known (eqb-true (row_of p.name) row at)) ∙ allowed) in
    (spelled.least, spelled.most)
number-at row p params false at known small allowed rest = rest

allowed-number : (row : ℕ) (before params : List Param) → row < 8 → (row_at row).most < 2 ^ 64 → AreAllowed before params
    → IfSome (number row params) (IsWithin row)
allowed-number row before [] known small allowed = tt
allowed-number row before (p ∷ params) known small allowed =
    number-at row p params (row_of p.name == row) refl known small allowed.1
    (allowed-number row (before ++ p ∷ []) params known small allowed.2)

-- names and values

abbrev pub AreWritten : List Param → Type 0
AreWritten [] = Unit {0}
AreWritten (p ∷ params) = (is_name p.name ≡ true) × IsValue p.value × AreWritten params

spelled-written : (pieces : List (Option Param)) (texts : List (List ℕ)) → AreSpelled pieces texts
    → AreWritten (filter_map (λ piece. piece) pieces)
spelled-written [] [] are = tt
spelled-written [] (text ∷ texts) are = absurd are
spelled-written (None ∷ pieces) [] are = absurd are
spelled-written (Some q ∷ pieces) [] are = absurd are
spelled-written (None ∷ pieces) (text ∷ texts) are = spelled-written pieces texts are.1
spelled-written (Some q ∷ pieces) (text ∷ texts) are = (are.0.name, are.0.value, spelled-written pieces texts are.1)

-- the others

row_of-most : (name : List ℕ) → row_of name ≤ 8
row_of-most name =
    let size = length-table in
    let most = prefix_len-le-length (λ r. not (same_name r.name name)) table in
    omega arith

others-at : (before params : List Param) (p : Param) (here : Bool) → (row_of p.name == 8) ≡ here → is_name p.name ≡ true
    → IsValue p.value → is_named p.name before ≡ false → AreOthers (others (before ++ p ∷ [])) (others params)
    → AreOthers (others before) (cond here (p ∷ others params) (others params))
others-at before params p true at name value new rest =
    let row = eqb-true (row_of p.name) 8 at in
    (name, value, row, sym (is_named-other p.name row before) ∙ new, subst (λ l. AreOthers l (others params)) (others-other before p row) rest)
others-at before params p false at name value new rest =
    let most = row_of-most p.name in
    let known : row_of p.name < 8 = let other = eqb-false (row_of p.name) 8 at in omega arith in
    subst (λ l. AreOthers l (others params)) (others-known before p known) rest

others-are : (before params : List Param) → AreWritten params → AreAllowed before params → AreOthers (others before) (others params)
others-are before [] written allowed = tt
others-are before (p ∷ params) written allowed =
    others-at before params p (row_of p.name == 8) refl written.0 written.1 allowed.0
    (others-are (before ++ p ∷ []) params written.2 allowed.2)

-- together

params-value : (n : ℕ) (params : List Param) → n ≤ 127 → AreWritten params → AreAllowed [] params → IsFmtp (fmtp_of n params)
unfolding table
params-value n params fits written allowed = record {
  payload_type = fits;
  max_playback_rate = allowed-number 0 [] params (omega arith) (omega arith) allowed;
  max_capture_rate = allowed-number 1 [] params (omega arith) (omega arith) allowed;
  max_average_bitrate = allowed-number 2 [] params (omega arith) (omega arith) allowed;
  others = others-are [] params written allowed;
}

pub line-value : (m : Fmtp) (line : List ℕ) → IsFmtpLine m line → IsFmtp m
line-value m line is =
    let written = subst AreWritten (sym is.behind.are) (spelled-written is.behind.pieces is.behind.texts is.behind.spelled) in
    subst IsFmtp (sym is.value) (params-value m.payload_type is.params is.fits written is.allowed)
