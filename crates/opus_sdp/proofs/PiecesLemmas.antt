-- Pieces that are spelled are read.
use Rattle.std.proofs.Common.{◌≡◌, ℕ, ◌+◌, Bool, true, false, not, nat_lt, List, [], ◌∷◌, ◌++◌, length, map, Option, Some, None, refl, sym, ap, subst, ◌∙◌}
use Rattle.std.specs.List.{list_all, filter_map, join_with_byte, slice_split}
use Rattle.std.specs.Option.{option_or}
use Rattle.std.proofs.lemmas.Bool.{and_parts, and_from, not-true}
use Rattle.opus_sdp.specs.Text.{is_blank, is_semicolon}
use Rattle.opus_sdp.specs.Table.{is_named, is_allowed}
use Rattle.opus_sdp.specs.Grammar.{is_name_byte, is_value_byte, SpellsParam, AreSpelled, SpellsParams, AreAllowed}
use Rattle.opus_sdp.specs.Parts.{Part, part_at, trimmed, placed, parts_of, value_at, param_of}
use Rattle.opus_sdp.specs.Fault.{first_fault}
use Rattle.opus_sdp.specs.declared.param.Param.{Param}
use Rattle.opus_sdp.proofs.TextLemmas.{list_all_weaker, list_all-both, blank-no_semicolon, name-no_semicolon, value-no_semicolon}
use Rattle.opus_sdp.proofs.FaultLemmas.{none-is}
use Rattle.opus_sdp.proofs.PartsLemmas.{kept}
use Rattle.opus_sdp.proofs.SpelledLemmas.{Reads, read-spelled, read-blank}

-- no piece has a `;` in it

abbrev pub is_uncut : List ℕ → Bool
is_uncut text = list_all (λ b. not (is_semicolon b)) text

-- what blanks, names, values and `=` pass, a parameter and the pieces pass

param-passes : (p : ℕ → Bool) → ((b : ℕ) → is_blank b ≡ true → p b ≡ true) → ((b : ℕ) → is_name_byte b ≡ true → p b ≡ true)
    → ((b : ℕ) → is_value_byte b ≡ true → p b ≡ true) → p 61 ≡ true
    → (q : Param) (text : List ℕ) → SpellsParam q text → list_all p text ≡ true
param-passes p blank_passes name_passes value_passes equals q text s =
    let blank = list_all_weaker is_blank p blank_passes in
    let (some, bytes) = and_parts (nat_lt 0 (length q.name)) (list_all is_name_byte q.name) s.name in
    let name = list_all_weaker is_name_byte p name_passes q.name bytes in
    let value = list_all_weaker is_value_byte p value_passes q.value s.value.bytes in
    let head = list_all-both p q.name s.between name (blank s.between s.blank_between) in
    let tail = and_from _ _ equals (list_all-both p s.behind q.value (blank s.behind s.blank_behind) value) in
    let core = list_all-both p (q.name ++ s.between) (61 ∷ (s.behind ++ q.value)) head tail in
    subst (λ t. list_all p t ≡ true) (sym s.spelled)
    (list_all-both p s.before (((q.name ++ s.between) ++ 61 ∷ (s.behind ++ q.value)) ++ s.after) (blank s.before s.blank_before)
    (list_all-both p ((q.name ++ s.between) ++ 61 ∷ (s.behind ++ q.value)) s.after core (blank s.after s.blank_after)))

pub pieces-pass : (p : ℕ → Bool) → ((b : ℕ) → is_blank b ≡ true → p b ≡ true) → ((b : ℕ) → is_name_byte b ≡ true → p b ≡ true)
    → ((b : ℕ) → is_value_byte b ≡ true → p b ≡ true) → p 61 ≡ true
    → (pieces : List (Option Param)) (texts : List (List ℕ)) → AreSpelled pieces texts → list_all (list_all p) texts ≡ true
pieces-pass p blank name value equals [] [] are = refl
pieces-pass p blank name value equals [] (text ∷ texts) are = absurd are
pieces-pass p blank name value equals (None ∷ pieces) [] are = absurd are
pieces-pass p blank name value equals (Some q ∷ pieces) [] are = absurd are
pieces-pass p blank name value equals (None ∷ pieces) (text ∷ texts) are =
    and_from _ _ (list_all_weaker is_blank p blank text are.0) (pieces-pass p blank name value equals pieces texts are.1)
pieces-pass p blank name value equals (Some q ∷ pieces) (text ∷ texts) are =
    and_from _ _ (param-passes p blank name value equals q text are.0) (pieces-pass p blank name value equals pieces texts are.1)

pieces-uncut : (pieces : List (Option Param)) (texts : List (List ℕ)) → AreSpelled pieces texts → list_all is_uncut texts ≡ true
pieces-uncut =
    pieces-pass (λ b. not (is_semicolon b)) blank-no_semicolon name-no_semicolon value-no_semicolon refl

-- they are cut apart again

cut-front : (text more : List ℕ) → is_uncut text ≡ true
    → slice_split is_semicolon (text ++ 59 ∷ more) ≡ text ∷ slice_split is_semicolon more
cut-front [] more uncut = refl
cut-front (b ∷ text) more uncut =
    let (first, rest) = and_parts (not (is_semicolon b)) (is_uncut text) uncut in
    rw (not-true (is_semicolon b) first, cut-front text more rest) refl

cut-none : (text : List ℕ) → is_uncut text ≡ true → slice_split is_semicolon text ≡ text ∷ []
cut-none [] uncut = refl
cut-none (b ∷ text) uncut =
    let (first, rest) = and_parts (not (is_semicolon b)) (is_uncut text) uncut in
    rw (not-true (is_semicolon b) first, cut-none text rest) refl

pub cut-joined : (text : List ℕ) (texts : List (List ℕ)) → list_all is_uncut (text ∷ texts) ≡ true
    → slice_split is_semicolon (join_with_byte 59 (text ∷ texts)) ≡ text ∷ texts
cut-joined text [] uncut = cut-none text (and_parts (is_uncut text) true uncut).0
cut-joined text (next ∷ texts) uncut =
    let (first, rest) = and_parts (is_uncut text) (list_all is_uncut (next ∷ texts)) uncut in
    cut-front text (join_with_byte 59 (next ∷ texts)) first ∙ ap (λ l. text ∷ l) (cut-joined next texts rest)

-- and each is read

-- parts have no fault behind these parameters, and are those
pub record Read (before params : List Param) (parts : List Part) : Type 0 where
  pub none : first_fault before parts ≡ None
  pub are : map param_of parts ≡ params

read-next : (before params : List Param) (q : Param) (p : Part) (parts : List Part) → Reads q p
    → is_named q.name before ≡ false → is_allowed q.name q.value ≡ true → Read (before ++ q ∷ []) params parts
    → Read before (q ∷ params) (p ∷ parts)
read-next before params q p parts reads new allowed rest =
    let name = ap (λ x. x.name) reads.param in
    let value = ap (λ x. x.value) reads.param in
    let none = none-is before p reads.has (ap (λ n. is_named n before) name ∙ new)
    (ap (λ n. is_allowed n (value_at p).text) name ∙ ap (is_allowed q.name) value ∙ allowed) in
    record {
      none = ap (λ f. option_or f (first_fault (before ++ param_of p ∷ []) parts)) none
          ∙ ap (λ x. first_fault (before ++ x ∷ []) parts) reads.param ∙ rest.none;
      are = ap (λ x. x ∷ map param_of parts) reads.param ∙ ap (λ l. q ∷ l) rest.are;
    }

pub read-pieces : (pieces : List (Option Param)) (texts : List (List ℕ)) → AreSpelled pieces texts
    → (before : List Param) → AreAllowed before (filter_map (λ piece. piece) pieces) → (at : ℕ)
    → Read before (filter_map (λ piece. piece) pieces) (kept (map trimmed (placed at texts)))
read-pieces [] [] are before allowed at = record { none = refl; are = refl }
read-pieces [] (text ∷ texts) are before allowed at = absurd are
read-pieces (None ∷ pieces) [] are before allowed at = absurd are
read-pieces (Some q ∷ pieces) [] are before allowed at = absurd are
read-pieces (None ∷ pieces) (text ∷ texts) are before allowed at =
    rw (read-blank text at are.0) (read-pieces pieces texts are.1 before allowed (at + length text + 1))
read-pieces (Some q ∷ pieces) (text ∷ texts) are before allowed at =
    let reads = read-spelled q text at are.0 in
    rw reads.some (read-next before (filter_map (λ piece. piece) pieces) q (trimmed (part_at at text)) _ reads allowed.0 allowed.1
    (read-pieces pieces texts are.1 (before ++ q ∷ []) allowed.2 (at + length text + 1)))

no_texts : (params : List Param) (text : List ℕ) (pieces : List (Option Param)) → text ≡ [] → AreSpelled pieces []
    → params ≡ filter_map (λ piece. piece) pieces → (at : ℕ) → Read [] params (parts_of at text)
no_texts params text [] empty are is at = record { none = rw empty refl; are = rw empty (sym is) }
no_texts params text (None ∷ pieces) empty are is at = absurd are
no_texts params text (Some q ∷ pieces) empty are is at = absurd are

some_texts : (params : List Param) (text : List ℕ) (pieces : List (Option Param)) (texts : List (List ℕ)) → text ≡ join_with_byte 59 texts
    → AreSpelled pieces texts → params ≡ filter_map (λ piece. piece) pieces → AreAllowed [] params → (at : ℕ)
    → Read [] params (parts_of at text)
some_texts params text pieces [] joined are is allowed at = no_texts params text pieces joined are is at
some_texts params text pieces (first ∷ texts) joined are is allowed at =
    let cut = ap (slice_split is_semicolon) joined ∙ cut-joined first texts (pieces-uncut pieces (first ∷ texts) are) in
    let read = read-pieces pieces (first ∷ texts) are [] (subst (AreAllowed []) is allowed) at in
    record {
      none = ap (λ l. first_fault [] (kept (map trimmed (placed at l)))) cut ∙ read.none;
      are = ap (λ l. map param_of (kept (map trimmed (placed at l)))) cut ∙ read.are ∙ sym is;
    }

pub read-params : (params : List Param) (text : List ℕ) → SpellsParams params text → AreAllowed [] params → (at : ℕ)
    → Read [] params (parts_of at text)
read-params params text s allowed at =
    some_texts params text s.pieces s.texts s.joined s.spelled s.are allowed at
