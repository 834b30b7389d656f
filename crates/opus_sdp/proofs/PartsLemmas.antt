-- The pieces of a text, one after another.
use Rattle.std.proofs.Common.{◌≡◌, ◌<◌, ℕ, ◌+◌, Bool, true, false, not, nat_lt, List, [], ◌∷◌, ◌++◌, length, map, filter, take, Option, Some, None, take_all, append_assoc, append-nil, refl, sym, ap, ◌∙◌, arith}
use Rattle.std.specs.List.{slice_split, position_or_len, before_first, after_first}
use Rattle.std.specs.Option.{option_or}
use Rattle.std.proofs.lemmas.List.Splits.{slice_split_first}
use Rattle.std.proofs.lemmas.List.Folds.{length-prefix_len}
use Rattle.std.proofs.lemmas.List.Elements.{filter-append}
use Rattle.opus_sdp.specs.Text.{is_semicolon}
use Rattle.opus_sdp.specs.Parts.{Part, part_at, trimmed, placed, parts_of, param_of}
use Rattle.opus_sdp.specs.Fault.{fault_after, first_fault}
use Rattle.opus_sdp.specs.Found.{piece_parts}
use Rattle.opus_sdp.specs.declared.param.Param.{Param}
use Rattle.opus_sdp.specs.declared.fault.SdpFault.{SdpFault}

-- a text without a `;` is one piece

whole-at : (b : ℕ) (text : List ℕ) (cuts : Bool) → is_semicolon b ≡ cuts
    → position_or_len is_semicolon (b ∷ text) ≡ length (b ∷ text)
    → (position_or_len is_semicolon text ≡ length text → slice_split is_semicolon text ≡ text ∷ [])
    → slice_split is_semicolon (b ∷ text) ≡ (b ∷ text) ∷ []
whole-at b text true cuts whole rest = let none = rw cuts at whole in absurd (omega arith)
whole-at b text false cuts whole rest =
    let more = rw cuts at whole in
    let one = rest (omega arith) in
    rw (cuts, one) refl

slice_split-whole : (text : List ℕ) → position_or_len is_semicolon text ≡ length text
    → slice_split is_semicolon text ≡ text ∷ []
slice_split-whole [] whole = refl
slice_split-whole (b ∷ text) whole = whole-at b text (is_semicolon b) refl whole (slice_split-whole text)

-- the first piece, and the rest

abbrev pub kept : List Part → List Part
kept parts = filter (λ p. nat_lt 0 (length p.text)) parts

pub parts-cut : (at : ℕ) (text : List ℕ) → position_or_len is_semicolon text < length text
    → parts_of at text ≡ piece_parts at (before_first is_semicolon text)
    ++ parts_of (at + position_or_len is_semicolon text + 1) (after_first is_semicolon text)
parts-cut at text cut =
    let size : length (before_first is_semicolon text) ≡ position_or_len is_semicolon text =
    length-prefix_len (λ b. not (is_semicolon b)) text in
    let front = before_first is_semicolon text in
    let rest = slice_split is_semicolon (after_first is_semicolon text) in
    ap (λ texts. kept (map trimmed (placed at texts))) (slice_split_first is_semicolon text 0 cut)
    ∙ filter-append (λ (p : Part). nat_lt 0 (length p.text)) (trimmed (part_at at front) ∷ [])
    (map trimmed (placed (at + length front + 1) rest))
    ∙ ap (λ n. piece_parts at front ++ kept (map trimmed (placed (at + n + 1) rest))) size

pub parts-last : (at : ℕ) (text : List ℕ) → position_or_len is_semicolon text ≡ length text
    → parts_of at text ≡ piece_parts at (before_first is_semicolon text)
parts-last at text whole =
    let all : before_first is_semicolon text ≡ text = ap (λ n. take n text) whole ∙ take_all (length text) text (omega arith) in
    ap (λ texts. kept (map trimmed (placed at texts))) (slice_split-whole text whole) ∙ ap (piece_parts at) (sym all)

-- the first fault of parts in a row

or_assoc : (a b c : Option SdpFault) → option_or a (option_or b c) ≡ option_or (option_or a b) c
or_assoc None b c = refl
or_assoc (Some fault) b c = refl

pub first_fault-append : (before : List Param) (ps qs : List Part)
    → first_fault before (ps ++ qs) ≡ option_or (first_fault before ps) (first_fault (before ++ map param_of ps) qs)
first_fault-append before [] qs = ap (λ b. first_fault b qs) (sym (append-nil before))
first_fault-append before (p ∷ ps) qs =
    let next = before ++ param_of p ∷ [] in
    ap (option_or (fault_after before p)) (first_fault-append next ps qs)
    ∙ ap (λ b. option_or (fault_after before p) (option_or (first_fault next ps) (first_fault b qs)))
    (append_assoc before (param_of p ∷ []) (map param_of ps))
    ∙ or_assoc (fault_after before p) (first_fault next ps) (first_fault (before ++ param_of p ∷ map param_of ps) qs)
