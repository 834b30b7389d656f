-- What is read as a parameter is spelled so.
use Rattle.std.proofs.Common.{◌≡◌, ◌<◌, ◌≤◌, ℕ, ◌+◌, Bool, true, false, not, ◌==◌, nat_lt, cond, if◌then◌else◌, List, [], ◌∷◌, ◌++◌, length, map, take, get_or, Option, Some, None, append_assoc, refl, sym, ap, subst, ◌∙◌, take-append-drop, arith}
use Rattle.std.specs.List.{list_all, filter_map, slice_split, onto_first, position_or_len, before_first, after_first, prefix_len}
use Rattle.std.specs.Option.{option_or}
use Rattle.std.proofs.lemmas.Bool.{and_parts, and_from, not_from_false, ltb-true, ltb-false, eqb-true}
use Rattle.std.proofs.lemmas.List.Sums.{split_at_first, passes_at_first}
use Rattle.opus_sdp.specs.Text.{is_blank, is_semicolon, is_equals, is_line, trim_start, trim_end, trim}
use Rattle.opus_sdp.specs.Table.{is_named, is_allowed}
use Rattle.opus_sdp.specs.Grammar.{are_blank, is_name, is_value_byte, SpellsParam, AreSpelled, AreAllowed}
use Rattle.opus_sdp.specs.Parts.{Part, part_at, trimmed, placed, name_of, value_at, param_of}
use Rattle.opus_sdp.specs.Fault.{has_name, fault_after, first_fault}
use Rattle.opus_sdp.specs.declared.param.Param.{Param}
use Rattle.opus_sdp.specs.declared.fault.SdpFault.{SdpFault}
use Rattle.opus_sdp.specs.declared.fault.SdpFault.TheVariants.{Name, Repeat, Value}
use Rattle.opus_sdp.proofs.TextLemmas.{list_all-parts, list_all-both}
use Rattle.opus_sdp.proofs.TrimLemmas.{blank-taken, trim_end-split, trim-trim}
use Rattle.opus_sdp.proofs.PartsLemmas.{kept}
use Rattle.opus_sdp.proofs.PiecesLemmas.{is_uncut}

-- the bytes of a value are neither `;` nor a newline

value-bytes : (text : List ℕ) → is_uncut text ≡ true → is_line text ≡ true → list_all is_value_byte text ≡ true
value-bytes [] uncut line = refl
value-bytes (b ∷ text) uncut line =
    let (no_cut, uncut_rest) = and_parts (not (is_semicolon b)) (is_uncut text) uncut in
    let (no_newline, line_rest) = and_parts (not (b == 10)) (is_line text) line in
    and_from _ _ (and_from _ _ no_cut no_newline) (value-bytes text uncut_rest line_rest)

-- the parts of a text

pub record Cut (text : List ℕ) : Type 0 where
  pub before : List ℕ
  pub after : List ℕ
  pub blank_before : are_blank before ≡ true
  pub blank_after : are_blank after ≡ true
  pub are : text ≡ before ++ (trim text ++ after)

pub cut-text : (text : List ℕ) → Cut text
cut-text text =
    let n = prefix_len is_blank text in
    let (after, blank, are) = trim_end-split (trim_start text) in
    record {
      before = take n text;
      after = after;
      blank_before = blank-taken text;
      blank_after = blank;
      are = sym (take-append-drop n text) ∙ ap (λ l. take n text ++ l) are;
    }

-- all of it passes, so does what is left
left-passes : (p : ℕ → Bool) (text : List ℕ) → list_all p text ≡ true → list_all p (trim text) ≡ true
left-passes p text all =
    let cut = cut-text text in
    let (front, rest) = list_all-parts p cut.before (trim text ++ cut.after) (subst (λ l. list_all p l ≡ true) cut.are all) in
    (list_all-parts p (trim text) cut.after rest).0

-- the name, `=` and the value of what is left

at_equals : (core : List ℕ) → position_or_len is_equals core < length core
    → core ≡ before_first is_equals core ++ 61 ∷ after_first is_equals core
at_equals core within =
    let is = eqb-true (get_or core (position_or_len is_equals core) 0) 61 (passes_at_first is_equals core 0 within) in
    split_at_first is_equals core 0 within ∙ ap (λ b. before_first is_equals core ++ b ∷ after_first is_equals core) is

regroup : (a n b c v d e : List ℕ)
    → a ++ (((n ++ b) ++ 61 ∷ (c ++ (v ++ d))) ++ e) ≡ a ++ (((n ++ b) ++ 61 ∷ (c ++ v)) ++ (d ++ e))
regroup a n b c v d e = simp append_assoc

pub param-spelled : (text : List ℕ) (at : ℕ) → is_uncut text ≡ true → is_line text ≡ true → has_name (trim text) ≡ true
    → SpellsParam (param_of (trimmed (part_at at text))) text
param-spelled text at uncut line has =
    let core = trim text in
    let (within, name) = and_parts (nat_lt (position_or_len is_equals core) (length core)) (is_name (name_of core)) has in
    let equals = at_equals core (ltb-true (position_or_len is_equals core) (length core) within) in
    let head = before_first is_equals core in
    let tail = after_first is_equals core in
    let (between, blank_between, head_is) = trim_end-split head in
    let whole = cut-text text in
    let value = cut-text tail in
    let bytes = value-bytes text uncut line in
    let tail_bytes = (list_all-parts is_value_byte head (61 ∷ tail) (subst (λ l. list_all is_value_byte l ≡ true) equals (left-passes is_value_byte text bytes))).1 in
    record {
      before = whole.before;
      between = between;
      behind = value.before;
      after = value.after ++ whole.after;
      spelled = whole.are ∙ ap (λ l. whole.before ++ (l ++ whole.after)) (equals ∙ ap (λ l. l ++ 61 ∷ tail) head_is ∙ ap (λ l. (trim_end head ++ between) ++ 61 ∷ l) value.are)
          ∙ regroup whole.before (trim_end head) between value.before (trim tail) value.after whole.after;
      blank_before = whole.blank_before;
      blank_between = blank_between;
      blank_behind = value.blank_before;
      blank_after = list_all-both is_blank value.after whole.after value.blank_after whole.blank_after;
      name = name;
      value = record { bytes = left-passes is_value_byte tail tail_bytes; bare = trim-trim tail };
    }

-- no fault

none-parts : (has repeats allowed : Bool) (x y z : SdpFault)
    → (if not has then Some x else if repeats then Some y else if not allowed then Some z else None) ≡ None
    → (has ≡ true) × (repeats ≡ false) × (allowed ≡ true)
none-parts true true allowed x y z none = cc
none-parts true false true x y z none = (refl, refl, refl)
none-parts true false false x y z none = cc
none-parts false repeats allowed x y z none = cc

pub or-none : (first later : Option SdpFault) → option_or first later ≡ None → (first ≡ None) × (later ≡ None)
or-none None later e = (refl, e)
or-none (Some fault) later e = cc

-- the pieces of a line without a fault

-- they are spelled by these texts, are the parameters and are allowed
pub record ArePieces (before params : List Param) (texts : List (List ℕ)) : Type 0 where
  pub pieces : List (Option Param)
  pub spelled : AreSpelled pieces texts
  pub are : params ≡ filter_map (λ piece. piece) pieces
  pub allowed : AreAllowed before params

no_bytes : (text : List ℕ) → length text ≤ 0 → text ≡ []
no_bytes [] none = refl
no_bytes (b ∷ text) none = absurd (omega arith)

blank-left : (text : List ℕ) → nat_lt 0 (length (trim text)) ≡ false → are_blank text ≡ true
blank-left text none =
    let cut = cut-text text in
    let empty = no_bytes (trim text) (ltb-false 0 (length (trim text)) none) in
    subst (λ l. are_blank l ≡ true) (sym (cut.are ∙ ap (λ l. cut.before ++ (l ++ cut.after)) empty))
    (list_all-both is_blank cut.before cut.after cut.blank_before cut.blank_after)

next-found : (before : List Param) (text : List ℕ) (texts : List (List ℕ)) (parts : List Part) (at : ℕ) (some : Bool)
    → nat_lt 0 (length (trim text)) ≡ some → is_uncut text ≡ true → is_line text ≡ true
    → ((more : List Param) → first_fault more parts ≡ None → ArePieces more (map param_of parts) texts)
    → first_fault before (cond some (trimmed (part_at at text) ∷ parts) parts) ≡ None
    → ArePieces before (map param_of (cond some (trimmed (part_at at text) ∷ parts) parts)) (text ∷ texts)
next-found before text texts parts at true is uncut line rest none =
    let p = trimmed (part_at at text) in
    let (first, later) = or-none (fault_after before p) (first_fault (before ++ param_of p ∷ []) parts) none in
    let (has, new, allowed) = none-parts (has_name p.text) (is_named (name_of p.text) before)
    (is_allowed (name_of p.text) (value_at p).text) (Name p.at) (Repeat p.at) (Value (value_at p).at) first in
    let found = rest (before ++ param_of p ∷ []) later in
    record {
      pieces = Some (param_of p) ∷ found.pieces;
      spelled = (param-spelled text at uncut line has, found.spelled);
      are = ap (λ l. param_of p ∷ l) found.are;
      allowed = (new, allowed, found.allowed);
    }
next-found before text texts parts at false is uncut line rest none =
    let found = rest before none in
    record {
      pieces = None ∷ found.pieces;
      spelled = (blank-left text is, found.spelled);
      are = found.are;
      allowed = found.allowed;
    }

pub found-pieces : (texts : List (List ℕ)) (before : List Param) (at : ℕ) → list_all is_uncut texts ≡ true → list_all is_line texts ≡ true
    → first_fault before (kept (map trimmed (placed at texts))) ≡ None
    → ArePieces before (map param_of (kept (map trimmed (placed at texts)))) texts
found-pieces [] before at uncut line none = record { pieces = []; spelled = tt; are = refl; allowed = tt }
found-pieces (text ∷ texts) before at uncut line none =
    let (first, uncut_rest) = and_parts (is_uncut text) (list_all is_uncut texts) uncut in
    let (second, line_rest) = and_parts (is_line text) (list_all is_line texts) line in
    next-found before text texts (kept (map trimmed (placed (at + length text + 1) texts))) at (nat_lt 0 (length (trim text))) refl first second
    (λ more. found-pieces texts more (at + length text + 1) uncut_rest line_rest) none

-- what a text is cut into

onto-keeps : (p : ℕ → Bool) (b : ℕ) (texts : List (List ℕ)) → p b ≡ true → list_all (list_all p) texts ≡ true
    → list_all (list_all p) (onto_first b texts) ≡ true
onto-keeps p b [] is all = and_from _ _ (and_from _ _ is refl) refl
onto-keeps p b (text ∷ texts) is all =
    let (first, rest) = and_parts (list_all p text) (list_all (list_all p) texts) all in
    and_from _ _ (and_from _ _ is first) rest

keeps-at : (p : ℕ → Bool) (b : ℕ) (texts : List (List ℕ)) (cuts : Bool) → (cuts ≡ false → p b ≡ true)
    → list_all (list_all p) texts ≡ true → list_all (list_all p) (cond cuts ([] ∷ texts) (onto_first b texts)) ≡ true
keeps-at p b texts true is all = all
keeps-at p b texts false is all = onto-keeps p b texts (is refl) all

pub split-passes : (p : ℕ → Bool) (text : List ℕ) → list_all p text ≡ true
    → list_all (list_all p) (slice_split is_semicolon text) ≡ true
split-passes p [] all = refl
split-passes p (b ∷ text) all =
    let (first, rest) = and_parts (p b) (list_all p text) all in
    keeps-at p b (slice_split is_semicolon text) (is_semicolon b) (λ _. first) (split-passes p text rest)

pub split-uncut : (text : List ℕ) → list_all is_uncut (slice_split is_semicolon text) ≡ true
split-uncut [] = refl
split-uncut (b ∷ text) =
    keeps-at (λ x. not (is_semicolon x)) b (slice_split is_semicolon text) (is_semicolon b)
    (not_from_false (is_semicolon b)) (split-uncut text)
