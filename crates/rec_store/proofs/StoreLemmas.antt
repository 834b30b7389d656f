-- Captures: one reading at most, and how fronts of them go on.
use Rattle.std.proofs.Common.{◌≡◌, ℕ, ◌≤◌, List, [], ◌∷◌, ◌++◌, length, length-append, refl, sym, ap, ◌∙◌, append_assoc, append-nil, subst, arith}
use Rattle.std.specs.List.{AllByRecursion, flat_map}
use Rattle.std.specs.Int.{w16, w32, to_be_bytes}
use Rattle.rec_store.specs.Dump.{DumpRecord, IsDumpRecord, dump_record_bytes}
use Rattle.rec_store.specs.DumpLine.{IsBadLine}
use Rattle.rec_store.specs.DumpStore.{IsDumpHead, IsDumpOpening, IsDumpFront, IsDump, IsStoreCut, IsOpeningPart, IsRecordCut}
use Rattle.rec_store.specs.declared.dump_opening.DumpHead.{DumpHead}
use Rattle.rec_store.proofs.DemoLemmas.{fronts_same, number_same}
use Rattle.rec_store.proofs.DumpLemmas.{short_same}
use Rattle.rec_store.proofs.LineLemmas.{line-front, bad_line-none}
use Rattle.rec_store.proofs.RecordLemmas.{IsNoRecord, no_record-nil, part-no_record, length-dump_record, records-joined, records-more, records_begin, Goes}

-- ---- openings

head-size : (head : DumpHead) (bytes : List ℕ) → IsDumpHead head bytes → length bytes ≡ 16
head-size head bytes is = omega (arith, ap (λ (l : List ℕ). length l) is.spelled, is.two)

pub opening-front : (head head' : DumpHead) (x y xs ys : List ℕ) → IsDumpOpening head x → IsDumpOpening head' y
    → x ++ xs ≡ y ++ ys → (x ≡ y) × (xs ≡ ys)
opening-front head head' x y xs ys p q e =
    let left = ap (λ l. l ++ xs) p.bytes_are ∙ append_assoc p.line p.numbers xs in
    let right = ap (λ l. l ++ ys) q.bytes_are ∙ append_assoc q.line q.numbers ys in
    let lines = line-front p.line q.line (p.numbers ++ xs) (q.numbers ++ ys) p.is_line q.is_line (sym left ∙ e ∙ right) in
    let numbers = fronts_same p.numbers q.numbers xs ys
    (head-size head p.numbers p.is_head ∙ sym (head-size head' q.numbers q.is_head)) lines.1 in
    (p.bytes_are ∙ ap (λ l. l ++ p.numbers) lines.0 ∙ ap (λ l. q.line ++ l) numbers.0 ∙ sym q.bytes_are, numbers.1)

-- heads of equal parts
same_head : (a b : DumpHead) → a.seconds ≡ b.seconds → a.micros ≡ b.micros → a.address ≡ b.address → a.port ≡ b.port
    → a ≡ b
same_head a b seconds micros address port i =
    record { seconds = seconds i; micros = micros i; address = address i; port = port i }

head_once : (a b : DumpHead) (bytes : List ℕ) → IsDumpHead a bytes → IsDumpHead b bytes → a ≡ b
head_once a b bytes p q =
    let seconds = fronts_same (to_be_bytes w32 a.seconds) (to_be_bytes w32 b.seconds) _ _ refl
    (sym p.spelled ∙ q.spelled) in
    let micros = fronts_same (to_be_bytes w32 a.micros) (to_be_bytes w32 b.micros) _ _ refl seconds.1 in
    let address = fronts_same (to_be_bytes w32 a.address) (to_be_bytes w32 b.address) _ _ refl micros.1 in
    let port = fronts_same (to_be_bytes w16 a.port) (to_be_bytes w16 b.port) p.padding q.padding refl address.1 in
    same_head a b (number_same a.seconds b.seconds p.seconds q.seconds seconds.0)
    (number_same a.micros b.micros p.micros q.micros micros.0)
    (number_same a.address b.address p.address q.address address.0) (short_same a.port b.port p.port q.port port.0)

-- the same bytes are the opening of one head
pub opening_once : (a b : DumpHead) (bytes : List ℕ) → IsDumpOpening a bytes → IsDumpOpening b bytes → a ≡ b
opening_once a b bytes p q =
    let lines = line-front p.line q.line p.numbers q.numbers p.is_line q.is_line (sym p.bytes_are ∙ q.bytes_are) in
    head_once a b p.numbers p.is_head (subst (IsDumpHead b) (sym lines.1) q.is_head)

pub bad_line-no_opening : (bytes opening xs ys : List ℕ) (place : ℕ) (head : DumpHead) → IsBadLine bytes place
    → IsDumpOpening head opening → bytes ++ xs ≡ opening ++ ys → ⊥
bad_line-no_opening bytes opening xs ys place head bad is e =
    bad_line-none bytes is.line xs (is.numbers ++ ys) place bad is.is_line
    (e ∙ ap (λ l. l ++ ys) is.bytes_are ∙ append_assoc is.line is.numbers ys)

-- ---- fronts

-- a longer front has the same opening, and all records of the shorter one
pub fronts_begin : (x more : List ℕ) (head head' : DumpHead) (ps qs : List DumpRecord) (rest rest' : List ℕ)
    (f : IsDumpFront x head ps rest) (g : IsDumpFront (x ++ more) head' qs rest') → IsNoRecord rest'
    → (f.opening ≡ g.opening) × Goes ps qs rest rest' more
fronts_begin x more head head' ps qs rest rest' f g none =
    let body = flat_map dump_record_bytes ps ++ rest in
    let both = opening-front head head' f.opening g.opening (body ++ more) (flat_map dump_record_bytes qs ++ rest')
    f.is_opening g.is_opening (sym (append_assoc f.opening body more) ∙ ap (λ l. l ++ more) (sym f.parts) ∙ g.parts) in
    (both.0, records_begin ps qs rest rest' more f.are g.are both.1 none)

-- one more record
pub front-more : (x own : List ℕ) (head : DumpHead) (ps : List DumpRecord) (rest : List ℕ) (r : DumpRecord)
    → IsDumpFront x head ps rest → IsDumpRecord r → rest ++ own ≡ dump_record_bytes r
    → IsDumpFront (x ++ own) head (ps ++ r ∷ []) []
front-more x own head ps rest r f is e = record {
  opening = f.opening;
  is_opening = f.is_opening;
  are = records-joined ps (r ∷ []) f.are (is, tt);
  parts = ap (λ l. l ++ own) f.parts ∙ append_assoc f.opening (flat_map dump_record_bytes ps ++ rest) own
      ∙ ap (λ l. f.opening ++ l) (records-more ps r rest own e);
}

-- a longer rest
pub front-longer : (x own : List ℕ) (head : DumpHead) (ps : List DumpRecord) (rest : List ℕ)
    → IsDumpFront x head ps rest → IsDumpFront (x ++ own) head ps (rest ++ own)
front-longer x own head ps rest f = record {
  opening = f.opening;
  is_opening = f.is_opening;
  are = f.are;
  parts = ap (λ l. l ++ own) f.parts ∙ append_assoc f.opening (flat_map dump_record_bytes ps ++ rest) own
      ∙ ap (λ l. f.opening ++ l) (append_assoc (flat_map dump_record_bytes ps) rest own);
}

-- an opening
pub front-opening : (head : DumpHead) (opening : List ℕ) → IsDumpOpening head opening → IsDumpFront opening head [] []
front-opening head opening is = record { opening = opening; is_opening = is; are = tt; parts = sym (append-nil opening) }

-- ---- cuts

-- nothing behind all records is no record
no_others : (others : List DumpRecord) (bytes : List ℕ) → bytes ≡ flat_map dump_record_bytes others ++ []
    → length bytes ≡ 0 → others ≡ []
no_others [] bytes e none = refl
no_others (r ∷ rs) bytes e none =
    let size = ap (λ (l : List ℕ). length l) (e ∙ append-nil (flat_map dump_record_bytes (r ∷ rs))) in
    absurd (omega (arith, size, none, length-append (dump_record_bytes r) (flat_map dump_record_bytes rs), length-dump_record r))

pub first_record : (others : List DumpRecord) (bytes : List ℕ) → AllByRecursion IsDumpRecord others
    → bytes ≡ flat_map dump_record_bytes others ++ [] → 1 ≤ length bytes
    → (r : DumpRecord) × (ys : List ℕ) × IsDumpRecord r × (bytes ≡ dump_record_bytes r ++ ys)
first_record [] bytes are e some = absurd (omega (arith, some, ap (λ (l : List ℕ). length l) e))
first_record (r ∷ rs) bytes are e some =
    (r, flat_map dump_record_bytes rs, are.0, e ∙ append-nil (dump_record_bytes r ++ flat_map dump_record_bytes rs))

pub opening_part-cut : (x : List ℕ) → IsOpeningPart x → IsStoreCut x
opening_part-cut x part = record {
  not_whole = λ head records is.
      let behind = (opening-front part.head head (x ++ part.more) is.opening []
      ((flat_map dump_record_bytes records ++ []) ++ part.more) part.whole is.is_opening
      (append-nil (x ++ part.more) ∙ ap (λ l. l ++ part.more) is.parts
      ∙ append_assoc is.opening (flat_map dump_record_bytes records ++ []) part.more)).1 in
      let size = ap (λ (l : List ℕ). length l) behind in
      absurd (omega (arith, size, part.some, length-append (flat_map dump_record_bytes records ++ []) part.more));
  more = part.more;
  head = part.head;
  records = [];
  whole = front-opening part.head (x ++ part.more) part.whole;
}

pub record_part-cut : (x : List ℕ) → IsRecordCut x → IsStoreCut x
record_part-cut x cut = record {
  not_whole = λ head qs is.
      let goes = (fronts_begin x [] cut.head head cut.records qs cut.rest [] cut.front
      (subst (λ l. IsDump l head qs) (sym (append-nil x)) is) no_record-nil).1 in
      let first = first_record goes.others cut.rest goes.are (sym (append-nil cut.rest) ∙ goes.behind) cut.some in
      part-no_record cut.rest cut.part first.0 first.1 first.2 first.3;
  more = cut.part.more;
  head = cut.head;
  records = cut.records ++ cut.part.part_of ∷ [];
  whole = front-more x cut.part.more cut.head cut.records cut.rest cut.part.part_of cut.front cut.part.is_record
      (sym cut.part.whole);
}

-- ---- one reading

pub dump_once : (x : List ℕ) (head head' : DumpHead) (ps qs : List DumpRecord) → IsDump x head ps → IsDump x head' qs
    → (head ≡ head') × (ps ≡ qs)
dump_once x head head' ps qs p q =
    let longer = subst (λ l. IsDump l head' qs) (sym (append-nil x)) q in
    let both = fronts_begin x [] head head' ps qs [] [] p longer no_record-nil in
    let goes = both.1 in
    let none = no_others goes.others [] goes.behind refl in (
      opening_once head head' p.opening p.is_opening (subst (IsDumpOpening head') (sym both.0) longer.is_opening),
      sym (goes.joined ∙ ap (λ l. ps ++ l) none ∙ append-nil ps),
    )
