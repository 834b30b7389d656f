-- The lines (RFC 7587, 6.1 and 7). Blanks and ranges are this project's.
use Rattle.std.specs.Prelude.{◌≡◌, ◌<◌, ◌≤◌, ℕ, ◌==◌, Bool, true, false, not, ◌&&◌, ◌||◌, nat_lt, List, [], ◌∷◌, ◌++◌, length, codes, Option, None, Some}
use Rattle.std.specs.List.{list_all, filter_map, join_with_byte}
use Rattle.std.specs.Fmt.{decimal}
use Rattle.std.specs.Char.{is_ascii_alphanumeric}
use Rattle.opus_sdp.specs.Text.{is_blank, trim}
use Rattle.opus_sdp.specs.Table.{same_name, is_named, is_allowed}
use Rattle.opus_sdp.specs.Params.{fmtp_of}
use Rattle.opus_sdp.specs.declared.fmtp.Rtpmap.{Rtpmap}
use Rattle.opus_sdp.specs.declared.fmtp.Fmtp.{Fmtp}
use Rattle.opus_sdp.specs.declared.param.Param.{Param}

abbrev pub are_blank : List ℕ → Bool
are_blank text = list_all is_blank text

-- a letter, a digit, `-`, `_` or `.`
abbrev pub is_name_byte : ℕ → Bool
is_name_byte b = is_ascii_alphanumeric b || ((b == 45) || ((b == 95) || (b == 46)))

abbrev pub is_name : List ℕ → Bool
is_name name = nat_lt 0 (length name) && list_all is_name_byte name

-- neither `;` nor a newline
abbrev pub is_value_byte : ℕ → Bool
is_value_byte b = not (b == 59) && not (b == 10)

-- a value, which may be empty: no blank stands at its ends
pub record IsValue (value : List ℕ) : Type 0 where
  pub bytes : list_all is_value_byte value ≡ true
  pub bare : trim value ≡ value

-- a parameter: its name, `=` and its value, with blanks around each
pub record SpellsParam (p : Param) (text : List ℕ) : Type 0 where
  pub before : List ℕ
  pub between : List ℕ
  pub behind : List ℕ
  pub after : List ℕ
  pub spelled : text ≡ before ++ (((p.name ++ between) ++ 61 ∷ (behind ++ p.value)) ++ after)
  pub blank_before : are_blank before ≡ true
  pub blank_between : are_blank between ≡ true
  pub blank_behind : are_blank behind ≡ true
  pub blank_after : are_blank after ≡ true
  pub name : is_name p.name ≡ true
  pub value : IsValue p.value

-- each piece of the line is a parameter, or blanks alone
abbrev pub AreSpelled : List (Option Param) → List (List ℕ) → Type 0
AreSpelled [] [] = Unit {0}
AreSpelled [] (text ∷ texts) = ⊥
AreSpelled (param ∷ params) [] = ⊥
AreSpelled (None ∷ params) (text ∷ texts) = (are_blank text ≡ true) × AreSpelled params texts
AreSpelled (Some p ∷ params) (text ∷ texts) = SpellsParam p text × AreSpelled params texts

-- the text is empty, or begins with a blank
abbrev pub is_apart : List ℕ → Bool
is_apart [] = true
is_apart (b ∷ text) = is_blank b

-- what follows the payload type: nothing, or a blank and pieces with a `;` between each two
pub record SpellsParams (params : List Param) (text : List ℕ) : Type 0 where
  pub pieces : List (Option Param)
  pub texts : List (List ℕ)
  pub apart : is_apart text ≡ true
  pub joined : text ≡ join_with_byte 59 texts
  pub spelled : AreSpelled pieces texts
  pub are : params ≡ filter_map (λ piece. piece) pieces

-- behind those that stand before, each has a name of its own, and its name allows its value
abbrev pub AreAllowed : List Param → List Param → Type 0
AreAllowed before [] = Unit {0}
AreAllowed before (p ∷ params) =
    (is_named p.name before ≡ false) × (is_allowed p.name p.value ≡ true) × AreAllowed (before ++ p ∷ []) params

-- a line `a=fmtp:` that says this
pub record IsFmtpLine (m : Fmtp) (line : List ℕ) : Type 0 where
  pub params : List Param
  pub text : List ℕ
  pub fits : m.payload_type ≤ 127
  pub spelled : line ≡ codes "a=fmtp:" ++ (decimal m.payload_type ++ text)
  pub behind : SpellsParams params text
  pub allowed : AreAllowed [] params
  pub value : m ≡ fmtp_of m.payload_type params

-- a line `a=rtpmap:` that says this
pub record IsRtpmapLine (r : Rtpmap) (line : List ℕ) : Type 0 where
  pub between : List ℕ
  pub codec : List ℕ
  pub after : List ℕ
  pub fits : r.payload_type ≤ 127
  pub spelled : line ≡ codes "a=rtpmap:" ++ (decimal r.payload_type ++ (between ++ (codec ++ after)))
  pub some : 0 < length between
  pub blank_between : are_blank between ≡ true
  pub blank_after : are_blank after ≡ true
  pub opus : same_name codec (codes "opus/48000/2") ≡ true
