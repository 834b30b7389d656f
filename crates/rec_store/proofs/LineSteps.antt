-- More bytes behind a front of a capture's first line.
use Rattle.std.proofs.Common.{◌≡◌, ◌≢◌, ◌⊎◌, inl, inr, ℕ, suc, ◌+◌, ◌≤◌, ◌<◌, List, [], ◌∷◌, ◌++◌, length, length-append, length-take-le, take, drop, drop-cons, length-drop, take-append-drop, get_or, refl, sym, ap, subst, ◌∙◌, append_assoc, append-nil, arith}
use Rattle.std.proofs.Math.Seq.{drop-append_seam}
use Rattle.std.proofs.lemmas.Bool.{cases_lt}
use Rattle.std.proofs.lemmas.List.{get_or-drop, take_more, take_more_same}
use Rattle.rec_store.specs.Dump.{dump_mark}
use Rattle.rec_store.specs.DumpLine.{IsOneLine, IsDumpLine, GoesWrong, IsMarkPart, IsTextPart, IsLinePart}
use Rattle.rec_store.proofs.LineLemmas.{IsOneLine-append}

-- the mark behind a front of it
mark_rest : (h : List ℕ) (part : IsMarkPart h) → drop (length h) dump_mark ≡ part.others
mark_rest h part = ap (drop (length h)) part.mark_is ∙ drop-append_seam h part.others

mark_size : (h : List ℕ) (part : IsMarkPart h) → 13 ≡ length h + length part.others
mark_size h part = ap (λ (l : List ℕ). length l) part.mark_is ∙ length-append h part.others

-- more bytes of it
mark_behind : (h own : List ℕ) (part : IsMarkPart h) → own ≡ take (length own) (drop (length h) dump_mark)
    → dump_mark ≡ (h ++ own) ++ drop (length own) part.others
mark_behind h own part is =
    let others : own ≡ take (length own) part.others = is ∙ ap (take (length own)) (mark_rest h part) in
    part.mark_is ∙ ap (λ l. h ++ l) (sym (take-append-drop (length own) part.others)
    ∙ ap (λ l. l ++ drop (length own) part.others) (sym others))
    ∙ sym (append_assoc h own (drop (length own) part.others))

mark_more : (h own : List ℕ) → IsMarkPart h → own ≡ take (length own) (drop (length h) dump_mark)
    → IsLinePart (h ++ own)
mark_more h own part is = go (cases_lt 0 (length others)) (mark_behind h own part is)
  where
    others : List ℕ
    others = drop (length own) part.others

    nothing : (xs : List ℕ) → length xs ≤ 0 → xs ≡ []
    nothing [] none = refl
    nothing (x ∷ xs) none = absurd (omega arith)

    go : (0 < length others) ⊎ (length others ≤ 0) → dump_mark ≡ (h ++ own) ++ others → IsLinePart (h ++ own)
    go (inl some) mark = inl record { others = others; some = some; mark_is = mark }
    go (inr none) mark =
        let all : dump_mark ≡ h ++ own = mark ∙ ap (λ l. (h ++ own) ++ l) (nothing others none) ∙ append-nil (h ++ own) in
        inr record {
          text = [];
          one_line = tt;
          bytes_are = sym all ∙ sym (append-nil dump_mark);
          fits = omega (arith, ap (λ (l : List ℕ). length l) all);
        }

mark_bad : (h own : List ℕ) (byte : ℕ) → IsMarkPart h → own ≡ take (length own) (drop (length h) dump_mark)
    → length h + length own < 13 → byte ≢ get_or dump_mark (length h + length own) 0
    → GoesWrong (h ++ (own ++ byte ∷ []))
mark_bad h own byte part is within differs =
    let others = part.others in
    let n = length own in
    let wanted = get_or others n 0 in
    let same : get_or dump_mark (length h + n) 0 ≡ wanted =
    sym (get_or-drop (length h) dump_mark n 0) ∙ ap (λ l. get_or l n 0) (mark_rest h part) in
    let size = mark_size h part in
    let rest : drop n others ≡ wanted ∷ drop (suc n) others = drop-cons others n 0 (omega (arith, size, within)) in (
      length (h ++ own),
      inl record {
        same = h ++ own;
        wanted = wanted;
        others = drop (suc n) others;
        found = byte;
        more = [];
        mark_is = mark_behind h own part is ∙ ap (λ l. (h ++ own) ++ l) rest;
        bytes_are = sym (append_assoc h own (byte ∷ []));
        differs = λ equal. differs (equal ∙ sym same);
        place_is = refl;
      },
      omega (arith, length-append h own, length-append h (own ++ byte ∷ []), length-append own (byte ∷ [])),
    )

-- ---- behind the mark

text_whole : (h own : List ℕ) → IsTextPart h → IsOneLine own → length h + length own < 256
    → IsDumpLine (h ++ (own ++ 10 ∷ []))
text_whole h own part one_line fits = record {
  text = part.text ++ own;
  one_line = IsOneLine-append part.text own part.one_line one_line;
  spelled = ap (λ l. l ++ (own ++ 10 ∷ [])) part.bytes_are ∙ append_assoc dump_mark part.text (own ++ 10 ∷ [])
      ∙ ap (λ l. dump_mark ++ l) (sym (append_assoc part.text own (10 ∷ [])));
  fits = omega (arith, fits, length-append h (own ++ 10 ∷ []), length-append own (10 ∷ []));
}

text_bad : (h own : List ℕ) → IsTextPart h → IsOneLine own → length h + length own ≡ 256
    → GoesWrong (h ++ own)
text_bad h own part one_line full =
    let is : h ++ own ≡ dump_mark ++ (part.text ++ own) =
    ap (λ l. l ++ own) part.bytes_are ∙ append_assoc dump_mark part.text own in
    let size : length (h ++ own) ≡ 256 = length-append h own ∙ full in (
      255,
      inr record {
        text = part.text ++ own;
        more = [];
        one_line = IsOneLine-append part.text own part.one_line one_line;
        full = sym (ap (λ (l : List ℕ). length l) is) ∙ size;
        bytes_are = is ∙ sym (append-nil (dump_mark ++ (part.text ++ own)));
        place_is = refl;
      },
      sym size,
    )

-- ---- in a piece of which some bytes were looked at

-- the bytes looked at, and the next one
take_next : (at : ℕ) (piece : List ℕ) → at < length piece
    → take (at + 1) piece ≡ take at piece ++ get_or piece at 0 ∷ []
take_next at piece within = take_more piece at 0 within

taken_is : (h piece : List ℕ) (seen at : ℕ) → length h ≡ seen → at ≤ length piece
    → take at piece ≡ take at (drop seen dump_mark)
    → take at piece ≡ take (length (take at piece)) (drop (length h) dump_mark)
taken_is h piece seen at size within is =
    is ∙ ap (λ n. take n (drop seen dump_mark)) (sym (length-take-le at piece within))
    ∙ ap (λ n. take (length (take at piece)) (drop n dump_mark)) (sym size)

pub mark_next : (seen at : ℕ) (piece : List ℕ) → at < length piece → seen + at < 13
    → take at piece ≡ take at (drop seen dump_mark) → get_or piece at 0 ≡ get_or dump_mark (seen + at) 0
    → take (at + 1) piece ≡ take (at + 1) (drop seen dump_mark)
mark_next seen at piece within few is same =
    take_more_same piece (drop seen dump_mark) at 0 within (omega (arith, few, length-drop seen dump_mark)) is
    (same ∙ sym (get_or-drop seen dump_mark at 0))

pub mark_taken : (h piece : List ℕ) (seen at : ℕ) → IsMarkPart h → length h ≡ seen → at ≤ length piece
    → take at piece ≡ take at (drop seen dump_mark) → IsLinePart (h ++ take at piece)
mark_taken h piece seen at part size within is =
    mark_more h (take at piece) part (taken_is h piece seen at size within is)

pub mark_ends : (h piece : List ℕ) (seen at : ℕ) → IsMarkPart h → length h ≡ seen → at < length piece
    → seen + at < 13 → take at piece ≡ take at (drop seen dump_mark)
    → get_or piece at 0 ≢ get_or dump_mark (seen + at) 0 → GoesWrong (h ++ take (at + 1) piece)
mark_ends h piece seen at part size within few is differs =
    let taken = length-take-le at piece (omega (arith, within)) in
    let sum : length h + length (take at piece) ≡ seen + at = omega (arith, taken, size) in
    subst (λ l. GoesWrong (h ++ l)) (sym (take_next at piece within))
    (mark_bad h (take at piece) (get_or piece at 0) part (taken_is h piece seen at size (omega (arith, within)) is)
    (omega (arith, sum, few)) (λ same. differs (same ∙ ap (λ n. get_or dump_mark n 0) sum)))

pub text_ends : (h piece : List ℕ) (seen at : ℕ) → IsTextPart h → length h ≡ seen → at < length piece
    → seen + at < 256 → IsOneLine (take at piece) → get_or piece at 0 ≡ 10 → IsDumpLine (h ++ take (at + 1) piece)
text_ends h piece seen at part size within few one_line newline =
    let taken = length-take-le at piece (omega (arith, within)) in
    subst (λ l. IsDumpLine (h ++ l)) (sym (take_next at piece within ∙ ap (λ n. take at piece ++ n ∷ []) newline))
    (text_whole h (take at piece) part one_line (omega (arith, few, size, taken)))

pub text_full : (h piece : List ℕ) (seen at : ℕ) → IsTextPart h → length h ≡ seen → at ≤ length piece
    → seen + at ≡ 256 → IsOneLine (take at piece) → GoesWrong (h ++ take at piece)
text_full h piece seen at part size within full one_line =
    text_bad h (take at piece) part one_line (omega (arith, full, size, length-take-le at piece within))

-- bytes as many as the mark has are no proper front of it
pub mark_no_part : (h : List ℕ) → 13 ≤ length h → IsLinePart h → IsTextPart h
mark_no_part h long (inl part) = absurd (omega (arith, mark_size h part, part.some, long))
mark_no_part h long (inr part) = part
