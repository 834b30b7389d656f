-- A line that is read is spelled so.
use Rattle.std.proofs.Common.{◌≡◌, ◌≤◌, ℕ, suc, ◌+◌, Bool, true, false, not, ◌==◌, cond, if◌then◌else◌, List, [], ◌∷◌, ◌++◌, length, map, take, drop, drop-drop, Some, None, refl, sym, ap, subst, ◌∙◌, take-append-drop, arith}
use Rattle.std.specs.Prelude.{codes}
use Rattle.std.specs.Fmt.{decimal}
use Rattle.std.specs.List.{position_or_len, slice_split}
use Rattle.std.proofs.lemmas.Slice.Eq.{bytes_eq-Decides}
use Rattle.std.proofs.lemmas.List.Folds.{length-prefix_len}
use Rattle.std.proofs.lemmas.List.Splits.{join_with_byte-slice_split}
use Rattle.opus_sdp.specs.Text.{is_blank, is_semicolon, is_line}
use Rattle.text_numbers.specs.Number.{value_of}
use Rattle.opus_sdp.specs.PayloadType.{is_payload_type}
use Rattle.opus_sdp.specs.Grammar.{is_apart, IsFmtpLine}
use Rattle.opus_sdp.specs.Parts.{param_of}
use Rattle.opus_sdp.specs.Fault.{begins_with, word_in, word_end, rest_in, front_fault, first_fault, parts_in, fmtp_fault}
use Rattle.opus_sdp.specs.Reading.{fmtp_in}
use Rattle.opus_sdp.specs.declared.fault.SdpFault.TheVariants.{Prefix, PayloadType}
use Rattle.text_numbers.proofs.NumberLemmas.{number_within-spelled}
use Rattle.opus_sdp.proofs.TextLemmas.{list_all-parts}
use Rattle.opus_sdp.proofs.FoundLemmas.{or-none, found-pieces, split-passes, split-uncut}

-- what follows a word is empty or begins with a blank

apart-at : (b : ℕ) (text : List ℕ) (blank : Bool) → is_blank b ≡ blank → is_apart (drop (position_or_len is_blank text) text) ≡ true
    → is_apart (drop (cond (not blank) (1 + position_or_len is_blank text) 0) (b ∷ text)) ≡ true
apart-at b text true is rest = is
apart-at b text false is rest =
    let more : 1 + position_or_len is_blank text ≡ suc (position_or_len is_blank text) = omega arith in rw more rest

pub word-apart : (text : List ℕ) → is_apart (drop (position_or_len is_blank text) text) ≡ true
word-apart [] = refl
word-apart (b ∷ text) = apart-at b text (is_blank b) refl (word-apart text)

-- the first bytes and the payload type

pub record IsFront (front line : List ℕ) : Type 0 where
  pub fits : value_of (word_in (length front) line) ≤ 127
  pub spelled : line ≡ front ++ (decimal (value_of (word_in (length front) line)) ++ rest_in (length front) line)
  pub apart : is_apart (rest_in (length front) line) ≡ true

front-parts : (begins payload : Bool) (size : ℕ)
    → (if not begins then Some Prefix else if not payload then Some (PayloadType size) else None) ≡ None
    → (begins ≡ true) × (payload ≡ true)
front-parts true true size none = (refl, refl)
front-parts true false size none = cc
front-parts false payload size none = cc

pub front-found : (front line : List ℕ) → front_fault front line ≡ None → IsFront front line
front-found front line none =
    let behind = drop (length front) line in
    let word = word_in (length front) line in
    let (begins, payload) = front-parts (begins_with front line) (is_payload_type word) (length front) none in
    let first = (bytes_eq-Decides (take (length front) line) front).0 begins in
    let number = number_within-spelled 0 127 word (omega arith) payload in
    let size : length word ≡ position_or_len is_blank behind = length-prefix_len (λ b. not (is_blank b)) behind in
    let rest : rest_in (length front) line ≡ drop (position_or_len is_blank behind) behind =
    sym (drop-drop (length word) (length front) line) ∙ ap (λ n. drop n behind) size in
    record {
      fits = number.most;
      spelled = sym (take-append-drop (length front) line) ∙ ap (λ l. l ++ behind) first
          ∙ ap (λ l. front ++ l) (sym (take-append-drop (position_or_len is_blank behind) behind)
          ∙ ap (λ l. word ++ l) (sym rest) ∙ ap (λ w. w ++ rest_in (length front) line) number.spelled);
      apart = ap is_apart rest ∙ word-apart behind;
    }

pub fmtp-spelled : (line : List ℕ) → is_line line ≡ true → fmtp_fault line ≡ None → IsFmtpLine (fmtp_in line) line
unfolding fmtp_fault
fmtp-spelled line one none =
    let (first, later) = or-none (front_fault (codes "a=fmtp:") line) (first_fault [] (parts_in line)) none in
    let front = front-found (codes "a=fmtp:") line first in
    let text = rest_in 7 line in
    let texts = slice_split is_semicolon text in
    let bytes = subst (λ l. is_line l ≡ true) front.spelled one in
    let behind = (list_all-parts (λ b. not (b == 10)) (codes "a=fmtp:") (decimal (value_of (word_in 7 line)) ++ text) bytes).1 in
    let rest = (list_all-parts (λ b. not (b == 10)) (decimal (value_of (word_in 7 line))) text behind).1 in
    let found = found-pieces texts [] (word_end 7 line) (split-uncut text) (split-passes (λ b. not (b == 10)) text rest) later in
    record {
      params = map param_of (parts_in line);
      text = text;
      fits = front.fits;
      spelled = front.spelled;
      behind = record {
        pieces = found.pieces;
        texts = texts;
        apart = front.apart;
        joined = sym (join_with_byte-slice_split 59 text);
        spelled = found.spelled;
        are = found.are;
      };
      allowed = found.allowed;
      value = refl;
    }
