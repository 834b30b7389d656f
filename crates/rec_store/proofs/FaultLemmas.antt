-- Where captures are cut, and that their faults are no cuts and stay.
use Rattle.std.proofs.Common.{◌≡◌, ◌⊎◌, inl, inr, ℕ, ◌≤◌, ◌<◌, List, [], ◌∷◌, ◌++◌, length, length-append, length-drop, take, drop, take-append-drop, refl, sym, ap, ◌∙◌, append_assoc, append-nil, subst, arith}
use Rattle.std.proofs.Math.Seq.{take-append_seam}
use Rattle.std.proofs.lemmas.Bool.{cases_lt}
use Rattle.std.proofs.lemmas.List.{take-append-le}
use Rattle.std.specs.List.{AllByRecursion, flat_map}
use Rattle.rec_store.specs.Dump.{DumpRecord, IsDumpRecord, dump_record_bytes}
use Rattle.rec_store.specs.DumpLine.{IsBadLine}
use Rattle.rec_store.specs.DumpStore.{IsDumpOpening, IsDumpFront, IsDump, IsStoreCut, IsOpeningPart, IsRecordPart, IsRecordCut, HasShortLength, IsBadLength}
use Rattle.rec_store.specs.declared.dump_opening.DumpHead.{DumpHead}
use Rattle.rec_store.proofs.DemoLemmas.{fronts_same}
use Rattle.rec_store.proofs.PartLemmas.{record_part-nil}
use Rattle.rec_store.proofs.RecordLemmas.{no_record-nil, short-none, short-size, short-longer, short-no_record}
use Rattle.rec_store.proofs.StoreLemmas.{fronts_begin, front-longer, first_record, bad_line-no_opening, opening_part-cut, record_part-cut}

-- ---- a cut capture ends in a part

-- one of two fronts of a list is a front of the other
data Fronts (a x : List ℕ) : Type 0 where
  within : (more : List ℕ) → 1 ≤ length more → a ≡ x ++ more → Fronts a x
  behind : (rest : List ℕ) → x ≡ a ++ rest → Fronts a x

front_in : (a x ys more : List ℕ) → x ++ more ≡ a ++ ys → length x ≤ length a → a ≡ x ++ drop (length x) a
front_in a x ys more e fits =
    let first : take (length x) a ≡ x =
    sym (take-append-le (length x) a ys fits) ∙ ap (take (length x)) (sym e) ∙ take-append_seam x more in
    sym (take-append-drop (length x) a) ∙ ap (λ l. l ++ drop (length x) a) first

two_fronts : (a x ys more : List ℕ) → x ++ more ≡ a ++ ys → Fronts a x
two_fronts a x ys more e = go (cases_lt (length x) (length a))
  where
    go : (length x < length a) ⊎ (length a ≤ length x) → Fronts a x
    go (inl short) =
        within (drop (length x) a) (omega (arith, length-drop (length x) a, short))
        (front_in a x ys more e (omega (arith, short)))
    go (inr long) = behind (drop (length a) x) (front_in x a more ys (sym e) long)

-- a front of some records
pub record Splits (qs : List DumpRecord) (y : List ℕ) : Type 0 where
  pub whole : List DumpRecord
  pub rest : List ℕ
  pub are : AllByRecursion IsDumpRecord whole
  pub parts : y ≡ flat_map dump_record_bytes whole ++ rest
  pub part : IsRecordPart rest

splits : (qs : List DumpRecord) (y more : List ℕ) → AllByRecursion IsDumpRecord qs
    → y ++ more ≡ flat_map dump_record_bytes qs ++ [] → Splits qs y
splits [] [] more are e = record { whole = []; rest = []; are = tt; parts = refl; part = record_part-nil }
splits [] (b ∷ y) more are e = absurd (omega (arith, ap (λ (l : List ℕ). length l) e))
splits (q ∷ qs) y more are e =
    go (two_fronts (dump_record_bytes q) y (flat_map dump_record_bytes qs ++ []) more whole)
    (λ rest. splits qs rest more are.1)
  where
    whole : y ++ more ≡ dump_record_bytes q ++ (flat_map dump_record_bytes qs ++ [])
    whole = e ∙ append_assoc (dump_record_bytes q) (flat_map dump_record_bytes qs) []

    go : Fronts (dump_record_bytes q) y
        → ((rest : List ℕ) → rest ++ more ≡ flat_map dump_record_bytes qs ++ [] → Splits qs rest)
        → Splits (q ∷ qs) y
    go (within others some is) deeper = record {
      whole = [];
      rest = y;
      are = tt;
      parts = refl;
      part = record { part_of = q; is_record = are.0; more = others; some = some; whole = is };
    }
    go (behind rest is) deeper =
        let e' : rest ++ more ≡ flat_map dump_record_bytes qs ++ [] =
        (fronts_same (dump_record_bytes q) (dump_record_bytes q) (rest ++ more) (flat_map dump_record_bytes qs ++ []) refl
        (sym (append_assoc (dump_record_bytes q) rest more) ∙ ap (λ l. l ++ more) (sym is) ∙ whole)).1 in
        let next = deeper rest e' in
        record {
          whole = q ∷ next.whole;
          rest = next.rest;
          are = (are.0, next.are);
          parts = is ∙ ap (λ l. dump_record_bytes q ++ l) next.parts
              ∙ sym (append_assoc (dump_record_bytes q) (flat_map dump_record_bytes next.whole) next.rest);
          part = next.part;
        }

pub cut-parts : (x : List ℕ) → IsStoreCut x → IsOpeningPart x ⊎ IsRecordCut x
cut-parts x cut = go (two_fronts opening x body cut.more cut.whole.parts)
  where
    opening : List ℕ
    opening = cut.whole.opening

    body : List ℕ
    body = flat_map dump_record_bytes cut.records ++ []

    some : {ps : List DumpRecord} (rest : List ℕ) → IsDumpFront x cut.head ps rest → 1 ≤ length rest
    some {ps} [] front = absurd (cut.not_whole cut.head ps front)
    some {ps} (b ∷ rest) front = omega arith

    go : Fronts opening x → IsOpeningPart x ⊎ IsRecordCut x
    go (within others some is) = inl record {
      head = cut.head;
      more = others;
      some = some;
      whole = subst (IsDumpOpening cut.head) is cut.whole.is_opening;
    }
    go (behind y is) =
        let e : y ++ cut.more ≡ body =
        (fronts_same opening opening (y ++ cut.more) body refl
        (sym (append_assoc opening y cut.more) ∙ ap (λ l. l ++ cut.more) (sym is) ∙ cut.whole.parts)).1 in
        let s = splits cut.records y cut.more cut.whole.are e in
        let front : IsDumpFront x cut.head s.whole s.rest =
        record { opening = opening; is_opening = cut.whole.is_opening; are = s.are; parts = is ∙ ap (λ l. opening ++ l) s.parts } in
        inr record {
          head = cut.head;
          records = s.whole;
          rest = s.rest;
          front = front;
          part = s.part;
          some = some s.rest front;
        }

pub parts-cut : (x : List ℕ) → IsOpeningPart x ⊎ IsRecordCut x → IsStoreCut x
parts-cut x (inl part) = opening_part-cut x part
parts-cut x (inr cut) = record_part-cut x cut

-- ---- faults are no cuts

pub bad_line-not_cut : (x : List ℕ) (place : ℕ) → IsBadLine x place → IsStoreCut x → ⊥
bad_line-not_cut x place bad cut =
    bad_line-no_opening x cut.whole.opening cut.more (flat_map dump_record_bytes cut.records ++ []) place cut.head bad
    cut.whole.is_opening cut.whole.parts

pub short-not_cut : (x : List ℕ) (head : DumpHead) (ps : List DumpRecord) (rest : List ℕ)
    → IsDumpFront x head ps rest → HasShortLength rest → IsStoreCut x → ⊥
short-not_cut x head ps rest f short cut =
    let goes = (fronts_begin x cut.more head cut.head ps cut.records rest [] f cut.whole no_record-nil).1 in
    let some : 1 ≤ length (rest ++ cut.more) = omega (arith, short-size rest short, length-append rest cut.more) in
    let first = first_record goes.others (rest ++ cut.more) goes.are goes.behind some in
    short-none rest cut.more first.1 first.0 short first.2 first.3

pub bad_length-not_cut : (x : List ℕ) (place : ℕ) → IsBadLength x place → IsStoreCut x → ⊥
bad_length-not_cut x place bad = short-not_cut x bad.head bad.records bad.rest bad.front bad.short

-- ---- faults stay, at one place

pub bad_line-no_dump : (x more : List ℕ) (place : ℕ) (head : DumpHead) (records : List DumpRecord) → IsBadLine x place
    → IsDump (x ++ more) head records → ⊥
bad_line-no_dump x more place head records bad is =
    bad_line-no_opening x is.opening more (flat_map dump_record_bytes records ++ []) place head bad is.is_opening is.parts

pub bad_length-longer : (x more : List ℕ) (place : ℕ) → IsBadLength x place → IsBadLength (x ++ more) place
bad_length-longer x more place bad = record {
  head = bad.head;
  records = bad.records;
  rest = bad.rest ++ more;
  front = front-longer x more bad.head bad.records bad.rest bad.front;
  short = short-longer bad.rest more bad.short;
  place_is = omega (arith, bad.place_is, length-append bad.rest more, length-append x more);
}

pub bad_length-no_dump : (x more : List ℕ) (place : ℕ) (head : DumpHead) (records : List DumpRecord)
    → IsBadLength x place → IsDump (x ++ more) head records → ⊥
bad_length-no_dump x more place head records bad is =
    let goes = (fronts_begin x more bad.head head bad.records records bad.rest [] bad.front is no_record-nil).1 in
    let some : 1 ≤ length (bad.rest ++ more) = omega (arith, short-size bad.rest bad.short, length-append bad.rest more) in
    let first = first_record goes.others (bad.rest ++ more) goes.are goes.behind some in
    short-none bad.rest more first.1 first.0 bad.short first.2 first.3

-- behind a short length no records follow
short-last : (rest rest' : List ℕ) (others : List DumpRecord) → HasShortLength rest
    → AllByRecursion IsDumpRecord others → rest ++ [] ≡ flat_map dump_record_bytes others ++ rest'
    → length rest ≡ length rest'
short-last rest rest' [] short are e = ap (λ (l : List ℕ). length l) (sym (append-nil rest) ∙ e)
short-last rest rest' (r ∷ rs) short are e =
    absurd (short-none rest [] (flat_map dump_record_bytes rs ++ rest') r short are.0
    (e ∙ append_assoc (dump_record_bytes r) (flat_map dump_record_bytes rs) rest'))

pub bad_length-once : (x : List ℕ) (place place' : ℕ) → IsBadLength x place → IsBadLength x place' → place ≡ place'
bad_length-once x place place' a b =
    let goes = (fronts_begin x [] a.head b.head a.records b.records a.rest b.rest a.front
    (subst (λ l. IsDumpFront l b.head b.records b.rest) (sym (append-nil x)) b.front)
    (short-no_record b.rest b.short)).1 in
    omega (arith, a.place_is, b.place_is, short-last a.rest b.rest goes.others a.short goes.are goes.behind)

pub bad_line-no_bad_length : (x : List ℕ) (place place' : ℕ) → IsBadLine x place → IsBadLength x place' → ⊥
bad_line-no_bad_length x place place' bad b =
    bad_line-no_opening x b.front.opening [] (flat_map dump_record_bytes b.records ++ b.rest) place b.head bad
    b.front.is_opening (append-nil x ∙ b.front.parts)
