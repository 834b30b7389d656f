-- A line that is spelled is read.
use Rattle.std.proofs.Common.{◌≡◌, ◌≤◌, ℕ, ◌+◌, true, not, List, [], ◌∷◌, ◌++◌, length, map, take, drop, is_some, None, refl, sym, ap, ◌∙◌, arith}
use Rattle.std.specs.Prelude.{codes}
use Rattle.std.specs.Fmt.{decimal}
use Rattle.std.specs.List.{list_all, before_first, position_or_len}
use Rattle.std.specs.Option.{option_or}
use Rattle.std.proofs.Math.Seq.{take-append_seam, drop-append_seam, drop-append-add}
use Rattle.std.proofs.lemmas.Slice.Eq.{bytes_eq-Decides}
use Rattle.opus_sdp.specs.Text.{is_blank}
use Rattle.text_numbers.specs.Number.{is_digit, value_of}
use Rattle.opus_sdp.specs.PayloadType.{is_payload_type}
use Rattle.opus_sdp.specs.Params.{fmtp_of}
use Rattle.opus_sdp.specs.Grammar.{is_apart, IsFmtpLine}
use Rattle.opus_sdp.specs.Parts.{parts_of, param_of}
use Rattle.opus_sdp.specs.Fault.{begins_with, word_in, word_end, rest_in, front_fault, first_fault, parts_in, fmtp_fault}
use Rattle.opus_sdp.specs.Reading.{fmtp_in}
use Rattle.opus_sdp.specs.declared.fmtp.Fmtp.{Fmtp}
use Rattle.text_numbers.proofs.NumberLemmas.{decimal-digits, value_of-decimal, number_within-decimal}
use Rattle.opus_sdp.proofs.TextLemmas.{list_all_weaker, prefix_len-all, before_first-at, digit-no_blank}
use Rattle.opus_sdp.proofs.PiecesLemmas.{read-params}

-- the word in front of a blank, or of the end

pub word-is : (word text : List ℕ) → list_all (λ b. not (is_blank b)) word ≡ true → is_apart text ≡ true
    → before_first is_blank (word ++ text) ≡ word
word-is word [] full apart =
    let size = prefix_len-all (λ b. not (is_blank b)) word [] full in
    let end : position_or_len is_blank (word ++ []) ≡ length word = omega arith in
    ap (λ n. take n (word ++ [])) end ∙ take-append_seam word []
word-is word (b ∷ text) full apart = before_first-at is_blank word b text full apart

-- behind its first bytes, a line's payload type and what follows it

pub record HasFront (front : List ℕ) (n : ℕ) (text line : List ℕ) : Type 0 where
  pub none : front_fault front line ≡ None
  pub value : value_of (word_in (length front) line) ≡ n
  pub rest : rest_in (length front) line ≡ text

pub front-read : (front : List ℕ) (n : ℕ) (text line : List ℕ) → n ≤ 127 → is_apart text ≡ true
    → line ≡ front ++ (decimal n ++ text) → HasFront front n text line
front-read front n text line fits apart is =
    let digits = list_all_weaker is_digit (λ b. not (is_blank b)) digit-no_blank (decimal n) (decimal-digits n (omega arith)) in
    let begins : begins_with front line ≡ true =
    (bytes_eq-Decides (take (length front) line) front).1 (ap (take (length front)) is ∙ take-append_seam front (decimal n ++ text)) in
    let behind = ap (drop (length front)) is ∙ drop-append_seam front (decimal n ++ text) in
    let word : word_in (length front) line ≡ decimal n = ap (before_first is_blank) behind ∙ word-is (decimal n) text digits apart in
    let payload : is_payload_type (word_in (length front) line) ≡ true =
    ap is_payload_type word ∙ ap is_some (number_within-decimal 0 127 n (omega arith) fits (omega arith)) in
    record {
      none = rw (begins, payload) refl;
      value = ap value_of word ∙ value_of-decimal n (omega arith);
      rest = ap (λ w. drop (length front + length w) line) word ∙ ap (drop (length front + length (decimal n))) is
          ∙ drop-append-add front (decimal n ++ text) (length (decimal n)) ∙ drop-append_seam (decimal n) text;
    }

pub fmtp-none : (m : Fmtp) (line : List ℕ) → IsFmtpLine m line → fmtp_fault line ≡ None
unfolding fmtp_fault
fmtp-none m line is =
    let front = front-read (codes "a=fmtp:") m.payload_type is.text line is.fits is.behind.apart is.spelled in
    let read = read-params is.params is.text is.behind is.allowed (word_end 7 line) in
    ap (λ f. option_or f (first_fault [] (parts_in line))) front.none
    ∙ ap (λ t. first_fault [] (parts_of (word_end 7 line) t)) front.rest ∙ read.none

pub fmtp-value : (m : Fmtp) (line : List ℕ) → IsFmtpLine m line → m ≡ fmtp_in line
fmtp-value m line is =
    let front = front-read (codes "a=fmtp:") m.payload_type is.text line is.fits is.behind.apart is.spelled in
    let read = read-params is.params is.text is.behind is.allowed (word_end 7 line) in
    let params : map param_of (parts_in line) ≡ is.params =
    ap (λ t. map param_of (parts_of (word_end 7 line) t)) front.rest ∙ read.are in
    is.value ∙ ap (λ n. fmtp_of n is.params) (sym front.value) ∙ ap (fmtp_of (value_of (word_in 7 line))) (sym params)
