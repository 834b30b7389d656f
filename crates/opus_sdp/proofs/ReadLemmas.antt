-- The loop over the pieces.
use Rattle.std.proofs.Common.{◌≡◌, ◌<◌, ◌≤◌, ℕ, ◌+◌, List, [], ◌++◌, length, map, take, drop, ◌-◌, None, Ok, Err, append_assoc, append-nil, sym, ap, subst, ◌∙◌, inl, inr, ◌⊎◌, arith, drop-drop, length-drop}
use Rattle.std.specs.List.{position_or_len, before_first, after_first}
use Rattle.std.specs.Option.{option_or}
use Rattle.std.proofs.lemmas.Bool.{cases_lt}
use Rattle.std.proofs.lemmas.List.{map-append, take_rest}
use Rattle.std.proofs.lemmas.List.Sums.{prefix_len-le-length}
use Rattle.opus_sdp.specs.Text.{is_semicolon}
use Rattle.opus_sdp.specs.Parts.{Part, parts_of, param_of}
use Rattle.opus_sdp.specs.Fault.{first_fault}
use Rattle.opus_sdp.specs.Found.{Stands, Tells, TakesAll, piece_parts}
use Rattle.opus_sdp.specs.declared.param.Param.{Param}
use Rattle.opus_sdp.specs.declared.found.Found.{Found}
use Rattle.opus_sdp.specs.declared.fault.SdpFault.{SdpFault}
use Rattle.opus_sdp.proofs.PartsLemmas.{parts-cut, parts-last, first_fault-append}

-- what stands before this index was taken: it has no fault, and what is found stands for it
pub record Going (at : ℕ) (text : List ℕ) (found : Found) (from : ℕ) : Type 0 where
  pub before : List Param
  pub stands : Stands found before
  pub within : from ≤ length text
  pub fault : first_fault [] (parts_of at text) ≡ first_fault before (parts_of (at + from) (drop from text))
  pub params : map param_of (parts_of at text) ≡ before ++ map param_of (parts_of (at + from) (drop from text))

-- the size of the first piece of what the loop looks at, and this piece
pub size-shown : (text : List ℕ) (from size : ℕ) → size ≡ position_or_len is_semicolon (take (length text - from) (drop from text))
    → size ≡ position_or_len is_semicolon (drop from text)
size-shown text from size is = is ∙ ap (position_or_len is_semicolon) (take_rest text from)

pub piece-shown : (text : List ℕ) (from size : ℕ) → size ≡ position_or_len is_semicolon (take (length text - from) (drop from text))
    → take size (take (length text - from) (drop from text)) ≡ before_first is_semicolon (drop from text)
piece-shown text from size is =
    ap (take size) (take_rest text from) ∙ ap (λ n. take n (drop from text)) (size-shown text from size is)

-- the parts of a text begin with those of its first piece
parts-first : (at : ℕ) (text : List ℕ) → (position_or_len is_semicolon text < length text) ⊎ (length text ≤ position_or_len is_semicolon text)
    → (more : List Part) × (parts_of at text ≡ piece_parts at (before_first is_semicolon text) ++ more)
parts-first at text (inl cut) =
    (parts_of (at + position_or_len is_semicolon text + 1) (after_first is_semicolon text), parts-cut at text cut)
parts-first at text (inr whole) =
    let most : position_or_len is_semicolon text ≤ length text = prefix_len-le-length _ text in
    ([], parts-last at text (omega arith) ∙ sym (append-nil (piece_parts at (before_first is_semicolon text))))

told : (before : List Param) (ps more : List Part) (fault : SdpFault) → Tells fault (first_fault before ps)
    → Tells fault (first_fault before (ps ++ more))
told before ps more fault (inl none) = inl none
told before ps more fault (inr said) =
    inr (first_fault-append before ps more ∙ ap (λ f. option_or f (first_fault (before ++ map param_of ps) more)) said)

pub going-fault : (at : ℕ) (text : List ℕ) (found now : Found) (from : ℕ) (fault : SdpFault) (going : Going at text found from)
    → TakesAll (Err fault) now going.before (piece_parts (at + from) (before_first is_semicolon (drop from text)))
    → Tells fault (first_fault [] (parts_of at text))
going-fault at text found now from fault going takes =
    let rest = drop from text in
    let (more, are) = parts-first (at + from) rest (cases_lt (position_or_len is_semicolon rest) (length rest)) in
    subst (Tells fault) (sym (going.fault ∙ ap (first_fault going.before) are))
    (told going.before (piece_parts (at + from) (before_first is_semicolon rest)) more fault takes)

-- the last piece is taken
pub going-done : (at : ℕ) (text : List ℕ) (found now : Found) (from : ℕ) (going : Going at text found from)
    → position_or_len is_semicolon (drop from text) ≡ length (drop from text)
    → TakesAll (Ok tt) now going.before (piece_parts (at + from) (before_first is_semicolon (drop from text)))
    → (first_fault [] (parts_of at text) ≡ None) × Stands now (map param_of (parts_of at text))
going-done at text found now from going whole takes =
    let are = parts-last (at + from) (drop from text) whole in (
      going.fault ∙ ap (first_fault going.before) are ∙ takes.0,
      subst (Stands now) (sym (going.params ∙ ap (λ ps. going.before ++ map param_of ps) are)) takes.1,
    )

-- a piece is taken that others follow
pub going-more : (at : ℕ) (text : List ℕ) (found now : Found) (from : ℕ) (going : Going at text found from)
    → position_or_len is_semicolon (drop from text) < length (drop from text)
    → TakesAll (Ok tt) now going.before (piece_parts (at + from) (before_first is_semicolon (drop from text)))
    → Going at text now (from + (position_or_len is_semicolon (drop from text) + 1))
going-more at text found now from going cut takes =
    let rest = drop from text in
    let size = position_or_len is_semicolon rest in
    let piece = piece_parts (at + from) (before_first is_semicolon rest) in
    let next = from + (size + 1) in
    let place : at + from + size + 1 ≡ at + next = omega arith in
    let are : parts_of (at + from) rest ≡ piece ++ parts_of (at + next) (drop next text) =
    parts-cut (at + from) rest cut ∙ ap (λ n. piece ++ parts_of n (after_first is_semicolon rest)) place
    ∙ ap (λ l. piece ++ parts_of (at + next) l) (drop-drop (size + 1) from text) in
    let others = parts_of (at + next) (drop next text) in
    record {
      before = going.before ++ map param_of piece;
      stands = takes.1;
      within = omega (arith, length-drop from text);
      fault = going.fault ∙ ap (first_fault going.before) are ∙ first_fault-append going.before piece others
          ∙ ap (λ f. option_or f (first_fault (going.before ++ map param_of piece) others)) takes.0;
      params = going.params ∙ ap (λ ps. going.before ++ map param_of ps) are
          ∙ ap (λ l. going.before ++ l) (map-append param_of piece others)
          ∙ sym (append_assoc going.before (map param_of piece) (map param_of others));
    }
