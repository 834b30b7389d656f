-- No line has a newline in it.
use Rattle.std.proofs.Common.{◌≡◌, ◌≤◌, ℕ, true, not, ◌==◌, List, [], ◌∷◌, ◌++◌, refl, sym, ap, subst, arith}
use Rattle.std.specs.Prelude.{codes}
use Rattle.std.specs.Char.{to_ascii_lowercase}
use Rattle.std.specs.List.{list_all, join_with_byte}
use Rattle.std.specs.Fmt.{decimal}
use Rattle.std.proofs.lemmas.Bool.{and_parts, and_from}
use Rattle.std.proofs.lemmas.Bool.Decides.{nat_tests}
use Rattle.std.proofs.lemmas.Slice.Eq.{bytes_eq-Decides}
use Rattle.opus_sdp.specs.Text.{is_blank, is_line}
use Rattle.text_numbers.specs.Number.{is_digit}
use Rattle.opus_sdp.specs.Table.{lowered}
use Rattle.opus_sdp.specs.Grammar.{is_name_byte, is_value_byte, IsFmtpLine, IsRtpmapLine}
use Rattle.opus_sdp.specs.declared.fmtp.Fmtp.{Fmtp}
use Rattle.opus_sdp.specs.declared.fmtp.Rtpmap.{Rtpmap}
use Rattle.text_numbers.proofs.NumberLemmas.{decimal-digits}
use Rattle.opus_sdp.proofs.TextLemmas.{list_all_weaker, list_all-both, blank-no_newline}
use Rattle.opus_sdp.proofs.PiecesLemmas.{pieces-pass}

name-no_newline : (b : ℕ) → is_name_byte b ≡ true → not (b == 10) ≡ true
name-no_newline b name = grind (arith, nat_tests)

value-no_newline : (b : ℕ) → is_value_byte b ≡ true → not (b == 10) ≡ true
value-no_newline b value = grind (arith, nat_tests)

digit-no_newline : (b : ℕ) → is_digit b ≡ true → not (b == 10) ≡ true
digit-no_newline b digit = grind (arith, nat_tests)

lowered-no_newline : (b : ℕ) → not (to_ascii_lowercase b == 10) ≡ true → not (b == 10) ≡ true
lowered-no_newline b other = grind (arith, nat_tests)

joined-line : (texts : List (List ℕ)) → list_all is_line texts ≡ true → is_line (join_with_byte 59 texts) ≡ true
joined-line [] are = refl
joined-line (text ∷ []) are = (and_parts (is_line text) true are).0
joined-line (text ∷ next ∷ texts) are =
    let (first, rest) = and_parts (is_line text) (list_all is_line (next ∷ texts)) are in
    list_all-both (λ b. not (b == 10)) text (59 ∷ join_with_byte 59 (next ∷ texts)) first (joined-line (next ∷ texts) rest)

decimal-line : (n : ℕ) → n ≤ 127 → is_line (decimal n) ≡ true
decimal-line n fits = list_all_weaker is_digit (λ b. not (b == 10)) digit-no_newline (decimal n) (decimal-digits n (omega arith))

pub fmtp-line : (m : Fmtp) (line : List ℕ) → IsFmtpLine m line → is_line line ≡ true
fmtp-line m line is =
    let one = λ (b : ℕ). not (b == 10) in
    let texts = pieces-pass one blank-no_newline name-no_newline value-no_newline refl is.behind.pieces is.behind.texts is.behind.spelled in
    let text = subst (λ l. is_line l ≡ true) (sym is.behind.joined) (joined-line is.behind.texts texts) in
    subst (λ l. is_line l ≡ true) (sym is.spelled)
    (list_all-both one (codes "a=fmtp:") (decimal m.payload_type ++ is.text) refl
    (list_all-both one (decimal m.payload_type) is.text (decimal-line m.payload_type is.fits) text))

codec-line : (codec : List ℕ) → is_line (lowered codec) ≡ true → is_line codec ≡ true
codec-line [] are = refl
codec-line (b ∷ codec) are =
    let (first, rest) = and_parts (not (to_ascii_lowercase b == 10)) (is_line (lowered codec)) are in
    and_from _ _ (lowered-no_newline b first) (codec-line codec rest)

pub rtpmap-line : (r : Rtpmap) (line : List ℕ) → IsRtpmapLine r line → is_line line ≡ true
rtpmap-line r line is =
    let one = λ (b : ℕ). not (b == 10) in
    let blank = list_all_weaker is_blank one blank-no_newline in
    let codec = codec-line is.codec (ap is_line ((bytes_eq-Decides (lowered is.codec) (lowered (codes "opus/48000/2"))).0 is.opus)) in
    let rest = list_all-both one is.codec is.after codec (blank is.after is.blank_after) in
    subst (λ l. is_line l ≡ true) (sym is.spelled)
    (list_all-both one (codes "a=rtpmap:") (decimal r.payload_type ++ (is.between ++ (is.codec ++ is.after))) refl
    (list_all-both one (decimal r.payload_type) (is.between ++ (is.codec ++ is.after)) (decimal-line r.payload_type is.fits)
    (list_all-both one is.between (is.codec ++ is.after) (blank is.between is.blank_between) rest)))
