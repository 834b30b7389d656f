-- The first line of a capture: one line at most stands at a front, and bytes that go wrong become none.
use Rattle.std.proofs.Common.{◌≡◌, ◌≢◌, inl, inr, ℕ, ◌≤◌, List, [], ◌∷◌, ◌++◌, length, length-append, refl, sym, ap, ◌∙◌, append_assoc, append-nil, arith}
use Rattle.rec_store.specs.Dump.{dump_mark}
use Rattle.rec_store.specs.DumpLine.{IsOneLine, IsDumpLine, IsOtherMark, IsLongLine, IsBadLine, IsLinePart}
use Rattle.rec_store.proofs.DemoLemmas.{fronts_same}

pub IsOneLine-append : (xs ys : List ℕ) → IsOneLine xs → IsOneLine ys → IsOneLine (xs ++ ys)
IsOneLine-append [] ys p q = q
IsOneLine-append (x ∷ xs) ys p q = (p.0, IsOneLine-append xs ys p.1 q)

-- texts that end with their first newlines
text_front : (s t xs ys : List ℕ) → IsOneLine s → IsOneLine t → s ++ 10 ∷ xs ≡ t ++ 10 ∷ ys → (s ≡ t) × (xs ≡ ys)
text_front [] [] xs ys p q e = (refl, cc)
text_front [] (y ∷ t) xs ys p q e =
    let first : 10 ≡ y = cc in
    absurd (q.0 (sym first))
text_front (x ∷ s) [] xs ys p q e =
    let first : x ≡ 10 = cc in
    absurd (p.0 first)
text_front (x ∷ s) (y ∷ t) xs ys p q e =
    let first : x ≡ y = cc in
    let behind : s ++ 10 ∷ xs ≡ t ++ 10 ∷ ys = cc in
    let rest = text_front s t xs ys p.1 q.1 behind in
    let text : s ≡ t = rest.0 in
    (cc, rest.1)

-- text without a newline ends before the first newline
text_ends : (s t xs ys : List ℕ) → IsOneLine s → s ++ xs ≡ t ++ 10 ∷ ys → length s ≤ length t
text_ends [] t xs ys p e = omega arith
text_ends (x ∷ s) [] xs ys p e =
    let first : x ≡ 10 = cc in
    absurd (p.0 first)
text_ends (x ∷ s) (y ∷ t) xs ys p e =
    let behind : s ++ xs ≡ t ++ 10 ∷ ys = cc in
    let rest = text_ends s t xs ys p.1 behind in
    omega arith

-- a line as the mark and what follows it
line_parts : (line xs : List ℕ) (is : IsDumpLine line) → line ++ xs ≡ dump_mark ++ (is.text ++ 10 ∷ xs)
line_parts line xs is =
    ap (λ l. l ++ xs) is.spelled ∙ append_assoc dump_mark (is.text ++ 10 ∷ []) xs
    ∙ ap (λ l. dump_mark ++ l) (append_assoc is.text (10 ∷ []) xs)

pub line-front : (a b xs ys : List ℕ) → IsDumpLine a → IsDumpLine b → a ++ xs ≡ b ++ ys → (a ≡ b) × (xs ≡ ys)
line-front a b xs ys p q e =
    let marks = fronts_same dump_mark dump_mark (p.text ++ 10 ∷ xs) (q.text ++ 10 ∷ ys) refl
    (sym (line_parts a xs p) ∙ e ∙ line_parts b ys q) in
    let texts = text_front p.text q.text xs ys p.one_line q.one_line marks.1 in
    (p.spelled ∙ ap (λ l. dump_mark ++ (l ++ 10 ∷ [])) texts.0 ∙ sym q.spelled, texts.1)

-- ---- bytes that go wrong

-- two lists that go on otherwise behind what they share do so at one place
splits_once : (a b : List ℕ) (u v w z : ℕ) (us vs ws zs : List ℕ) → a ++ u ∷ us ≡ b ++ v ∷ vs
    → a ++ w ∷ ws ≡ b ++ z ∷ zs → u ≢ w → v ≢ z → length a ≡ length b
splits_once [] [] u v w z us vs ws zs e f p q = refl
splits_once [] (y ∷ b) u v w z us vs ws zs e f p q =
    let left : u ≡ y = cc in
    let right : w ≡ y = cc in
    absurd (p (left ∙ sym right))
splits_once (x ∷ a) [] u v w z us vs ws zs e f p q =
    let left : x ≡ v = cc in
    let right : x ≡ z = cc in
    absurd (q (sym left ∙ right))
splits_once (x ∷ a) (y ∷ b) u v w z us vs ws zs e f p q =
    let left : a ++ u ∷ us ≡ b ++ v ∷ vs = cc in
    let right : a ++ w ∷ ws ≡ b ++ z ∷ zs = cc in
    let rest = splits_once a b u v w z us vs ws zs left right p q in
    omega arith

-- a byte that isn't the mark's stands in no bytes that begin with the mark
no_mark : (bytes xs ys : List ℕ) (place : ℕ) → IsOtherMark bytes place → bytes ++ xs ≡ dump_mark ++ ys → ⊥
no_mark bytes xs ys place other e =
    let left : bytes ++ xs ≡ other.same ++ other.found ∷ (other.more ++ xs) =
    ap (λ l. l ++ xs) other.bytes_are ∙ append_assoc other.same (other.found ∷ other.more) xs in
    let right : dump_mark ++ ys ≡ other.same ++ other.wanted ∷ (other.others ++ ys) =
    ap (λ l. l ++ ys) other.mark_is ∙ append_assoc other.same (other.wanted ∷ other.others) ys in
    let behind = fronts_same other.same other.same (other.found ∷ (other.more ++ xs))
    (other.wanted ∷ (other.others ++ ys)) refl (sym left ∙ e ∙ right) in
    let rest : other.found ∷ (other.more ++ xs) ≡ other.wanted ∷ (other.others ++ ys) = behind.1 in
    let first : other.found ≡ other.wanted = cc in
    other.differs first

pub bad_line-none : (bytes line xs ys : List ℕ) (place : ℕ) → IsBadLine bytes place → IsDumpLine line
    → bytes ++ xs ≡ line ++ ys → ⊥
bad_line-none bytes line xs ys place (inl other) is e =
    no_mark bytes xs (is.text ++ 10 ∷ ys) place other (e ∙ line_parts line ys is)
bad_line-none bytes line xs ys place (inr long) is e =
    let left : bytes ++ xs ≡ dump_mark ++ (long.text ++ (long.more ++ xs)) =
    ap (λ l. l ++ xs) long.bytes_are ∙ append_assoc (dump_mark ++ long.text) long.more xs
    ∙ append_assoc dump_mark long.text (long.more ++ xs) in
    let marks = fronts_same dump_mark dump_mark (long.text ++ (long.more ++ xs)) (is.text ++ 10 ∷ ys) refl
    (sym left ∙ e ∙ line_parts line ys is) in
    let text = text_ends long.text is.text (long.more ++ xs) ys long.one_line marks.1 in
    let full = length-append dump_mark long.text in
    let size = ap (λ (l : List ℕ). length l) is.spelled in
    absurd (omega (arith, long.full, is.fits, length-append is.text (10 ∷ []), length-append dump_mark (is.text ++ 10 ∷ [])))

pub bad_line-longer : (bytes more : List ℕ) (place : ℕ) → IsBadLine bytes place → IsBadLine (bytes ++ more) place
bad_line-longer bytes more place (inl other) = inl record {
  same = other.same;
  wanted = other.wanted;
  others = other.others;
  found = other.found;
  more = other.more ++ more;
  mark_is = other.mark_is;
  bytes_are = ap (λ l. l ++ more) other.bytes_are ∙ append_assoc other.same (other.found ∷ other.more) more;
  differs = other.differs;
  place_is = other.place_is;
}
bad_line-longer bytes more place (inr long) = inr record {
  text = long.text;
  more = long.more ++ more;
  one_line = long.one_line;
  full = long.full;
  bytes_are = ap (λ l. l ++ more) long.bytes_are ∙ append_assoc (dump_mark ++ long.text) long.more more;
  place_is = long.place_is;
}

bad_line-long : (bytes : List ℕ) (place : ℕ) (long : IsLongLine bytes place)
    → bytes ≡ dump_mark ++ (long.text ++ long.more)
bad_line-long bytes place long = long.bytes_are ∙ append_assoc dump_mark long.text long.more

pub bad_line-once : (bytes : List ℕ) (place place' : ℕ) → IsBadLine bytes place → IsBadLine bytes place' → place ≡ place'
bad_line-once bytes place place' (inl a) (inl b) =
    a.place_is ∙ splits_once a.same b.same a.found b.found a.wanted b.wanted a.more b.more a.others b.others
    (sym a.bytes_are ∙ b.bytes_are) (sym a.mark_is ∙ b.mark_is) a.differs b.differs ∙ sym b.place_is
bad_line-once bytes place place' (inl a) (inr b) =
    absurd (no_mark bytes [] (b.text ++ b.more) place a (append-nil bytes ∙ bad_line-long bytes place' b))
bad_line-once bytes place place' (inr a) (inl b) =
    absurd (no_mark bytes [] (a.text ++ a.more) place' b (append-nil bytes ∙ bad_line-long bytes place a))
bad_line-once bytes place place' (inr a) (inr b) = a.place_is ∙ sym b.place_is

-- ---- fronts of a line

-- what is missing of a line
pub line_part-more : (bytes : List ℕ) → IsLinePart bytes
    → (more : List ℕ) × (1 ≤ length more) × IsDumpLine (bytes ++ more)
line_part-more bytes (inl part) =
    let more = part.others ++ 10 ∷ [] in
    let is : bytes ++ more ≡ dump_mark ++ (10 ∷ []) =
    sym (append_assoc bytes part.others (10 ∷ [])) ∙ ap (λ l. l ++ 10 ∷ []) (sym part.mark_is) in (
      more,
      omega (arith, length-append part.others (10 ∷ [])),
      record { text = []; one_line = tt; spelled = is; fits = omega (arith, ap (λ (l : List ℕ). length l) is) },
    )
line_part-more bytes (inr part) =
    let is : bytes ++ 10 ∷ [] ≡ dump_mark ++ (part.text ++ 10 ∷ []) =
    ap (λ l. l ++ 10 ∷ []) part.bytes_are ∙ append_assoc dump_mark part.text (10 ∷ []) in (
      10 ∷ [],
      omega arith,
      record {
        text = part.text;
        one_line = part.one_line;
        spelled = is;
        fits = omega (arith, part.fits, length-append bytes (10 ∷ []));
      },
    )
