-- Each list of bytes is a capture, is a cut one, or goes wrong.
use Rattle.std.proofs.Common.{◌≡◌, ◌≢◌, ◌⊎◌, inl, inr, ℕ, zero, suc, ◌^◌, ◌≤◌, ◌<◌, List, [], ◌∷◌, ◌++◌, length, length-append, length-drop, length-take-le, take, drop, take-append-drop, refl, sym, ap, ◌∙◌, subst, append_assoc, arith}
use Rattle.std.proofs.lemmas.Bool.{cases_lt, cases_eq}
use Rattle.std.proofs.lemmas.List.{take-take}
use Rattle.std.specs.List.{AllByRecursion, flat_map}
use Rattle.std.specs.Int.{w16, to_be_bytes}
use Rattle.rec_store.specs.Dump.{DumpRecord, IsDumpRecord, dump_mark, dump_record_bytes}
use Rattle.rec_store.specs.DumpItem.{IsOwnLength}
use Rattle.rec_store.specs.DumpLine.{IsOneLine, IsDumpLine, IsBadLine, IsLinePart}
use Rattle.rec_store.specs.DumpStore.{AreBytes, IsDumpOpening, IsOpeningPart, IsRecordPart, HasShortLength}
use Rattle.rec_store.specs.declared.dump_opening.DumpHead.{DumpHead}
use Rattle.opus_io.proofs.BytesLemmas.{AreBytes-take, AreBytes-drop, AreBytes-right}
use Rattle.rec_store.proofs.ByteLemmas.{short_of}
use Rattle.rec_store.proofs.PartLemmas.{dump_head-of, opening_part-head, opening_part-line, record-of, record_part-of, record_part-one, record_part-nil}

-- ---- the first line

-- bytes beside others: a front of these, and not all of them; bytes that differ from a place on; or all of them and a rest
data Beside (wanted bytes : List ℕ) : Type 0 where
  front : (others : List ℕ) → 1 ≤ length others → wanted ≡ bytes ++ others → Beside wanted bytes
  departs : (same : List ℕ) (one : ℕ) (others : List ℕ) (found : ℕ) (more : List ℕ) → wanted ≡ same ++ one ∷ others
      → bytes ≡ same ++ found ∷ more → found ≢ one → Beside wanted bytes
  behind : (rest : List ℕ) → bytes ≡ wanted ++ rest → Beside wanted bytes

beside_more : (w b : ℕ) (ws bs : List ℕ) → b ≡ w → Beside ws bs → Beside (w ∷ ws) (b ∷ bs)
beside_more w b ws bs first (front others some is) =
    front others some (ap (λ x. x ∷ ws) (sym first) ∙ ap (λ l. b ∷ l) is)
beside_more w b ws bs first (departs same one others found more is bytes_are other) =
    departs (b ∷ same) one others found more (ap (λ x. x ∷ ws) (sym first) ∙ ap (λ l. b ∷ l) is)
    (ap (λ l. b ∷ l) bytes_are) other
beside_more w b ws bs first (behind rest is) = behind rest (ap (λ x. x ∷ bs) first ∙ ap (λ l. w ∷ l) is)

beside : (wanted bytes : List ℕ) → Beside wanted bytes
beside [] bytes = behind bytes refl
beside (w ∷ ws) [] = front (w ∷ ws) (omega arith) refl
beside (w ∷ ws) (b ∷ bs) = go (cases_eq b w) (beside ws bs)
  where
    go : (b ≡ w) ⊎ (b ≡ w → ⊥) → Beside ws bs → Beside (w ∷ ws) (b ∷ bs)
    go (inl first) deeper = beside_more w b ws bs first deeper
    go (inr other) deeper = departs [] w ws b bs refl refl other

-- bytes of which so many may stand before a newline: fewer with none; so many with none; or a newline behind fewer
data Texts (most : ℕ) (bytes : List ℕ) : Type 0 where
  open_text : IsOneLine bytes → length bytes < most → Texts most bytes
  long_text : (text more : List ℕ) → IsOneLine text → length text ≡ most → bytes ≡ text ++ more → Texts most bytes
  whole_text : (text rest : List ℕ) → IsOneLine text → length text < most → bytes ≡ text ++ 10 ∷ rest → Texts most bytes

texts : (most : ℕ) (bytes : List ℕ) → Texts most bytes
texts zero bytes = long_text [] bytes tt refl refl
texts (suc most) [] = open_text tt (omega arith)
texts (suc most) (b ∷ bs) = go (cases_eq b 10) (texts most bs)
  where
    go : (b ≡ 10) ⊎ (b ≡ 10 → ⊥) → Texts most bs → Texts (suc most) (b ∷ bs)
    go (inl newline) deeper = whole_text [] bs tt (omega arith) (ap (λ x. x ∷ bs) newline)
    go (inr other) (open_text one_line short) = open_text (other, one_line) (omega (arith, short))
    go (inr other) (long_text text more one_line full is) =
        long_text (b ∷ text) more (other, one_line) (omega (arith, full)) (ap (λ l. b ∷ l) is)
    go (inr other) (whole_text text rest one_line short is) =
        whole_text (b ∷ text) rest (other, one_line) (omega (arith, short)) (ap (λ l. b ∷ l) is)

data Lines (bytes : List ℕ) : Type 0 where
  line_part : IsLinePart bytes → Lines bytes
  bad_line : (place : ℕ) → IsBadLine bytes place → Lines bytes
  whole_line : (line rest : List ℕ) → IsDumpLine line → bytes ≡ line ++ rest → Lines bytes

text_line : (bytes rest : List ℕ) (most : ℕ) → most ≡ 243 → bytes ≡ dump_mark ++ rest → Texts most rest → Lines bytes
text_line bytes rest most room is (open_text one_line short) =
    line_part (inr record {
      text = rest;
      one_line = one_line;
      bytes_are = is;
      fits = omega (arith, room, short, ap (λ (l : List ℕ). length l) is, length-append dump_mark rest);
    })
text_line bytes rest most room is (long_text text more one_line full parts) =
    bad_line 255 (inr record {
      text = text;
      more = more;
      one_line = one_line;
      full = omega (arith, room, full, length-append dump_mark text);
      bytes_are = is ∙ ap (λ l. dump_mark ++ l) parts ∙ sym (append_assoc dump_mark text more);
      place_is = refl;
    })
text_line bytes rest most room is (whole_text text more one_line short parts) =
    whole_line (dump_mark ++ (text ++ 10 ∷ [])) more
    (record {
      text = text;
      one_line = one_line;
      spelled = refl;
      fits = omega (arith, room, short, length-append dump_mark (text ++ 10 ∷ []), length-append text (10 ∷ []));
    })
    (is ∙ ap (λ l. dump_mark ++ l) (parts ∙ sym (append_assoc text (10 ∷ []) more))
    ∙ sym (append_assoc dump_mark (text ++ 10 ∷ []) more))

lines : (bytes : List ℕ) → Lines bytes
lines bytes = go (beside dump_mark bytes)
  where
    go : Beside dump_mark bytes → Lines bytes
    go (front others some is) = line_part (inl record { others = others; some = some; mark_is = is })
    go (departs same one others found more is bytes_are other) =
        bad_line (length same) (inl record {
          same = same;
          wanted = one;
          others = others;
          found = found;
          more = more;
          mark_is = is;
          bytes_are = bytes_are;
          differs = other;
          place_is = refl;
        })
    go (behind rest is) = text_line bytes rest 243 refl is (texts 243 rest)

-- ---- the opening

pub data Openings (x : List ℕ) : Type 0 where
  opening_part : IsOpeningPart x → Openings x
  bad_opening : (place : ℕ) → IsBadLine x place → Openings x
  whole_opening : (head : DumpHead) (opening rest : List ℕ) → IsDumpOpening head opening → AreBytes rest
      → x ≡ opening ++ rest → Openings x

head_behind : (x line rest : List ℕ) → IsDumpLine line → AreBytes rest → x ≡ line ++ rest
    → (length rest < 16) ⊎ (16 ≤ length rest) → Openings x
head_behind x line rest is are parts (inl short) =
    opening_part (subst IsOpeningPart (sym parts) (opening_part-head line rest is are short))
head_behind x line rest is are parts (inr long) =
    let numbers = take 16 rest in
    let head = dump_head-of numbers (AreBytes-take 16 rest are) (length-take-le 16 rest long) in
    whole_opening head.0 (line ++ numbers) (drop 16 rest)
    (record { line = line; numbers = numbers; is_line = is; is_head = head.1; bytes_are = refl })
    (AreBytes-drop 16 rest are)
    (parts ∙ ap (λ l. line ++ l) (sym (take-append-drop 16 rest)) ∙ sym (append_assoc line numbers (drop 16 rest)))

pub openings : (x : List ℕ) → AreBytes x → Openings x
openings x are = go (lines x)
  where
    go : Lines x → Openings x
    go (line_part part) = opening_part (opening_part-line x part)
    go (bad_line place bad) = bad_opening place bad
    go (whole_line line rest is parts) =
        head_behind x line rest is (AreBytes-right line rest (subst AreBytes parts are)) parts (cases_lt (length rest) 16)

-- ---- the records

-- records one after another, and a rest that is a part of one or has a length below 8
pub record Reads (bytes : List ℕ) : Type 0 where
  pub records : List DumpRecord
  pub rest : List ℕ
  pub are : AllByRecursion IsDumpRecord records
  pub parts : bytes ≡ flat_map dump_record_bytes records ++ rest
  pub last : IsRecordPart rest ⊎ HasShortLength rest

reads_rest : (bytes : List ℕ) → IsRecordPart bytes ⊎ HasShortLength bytes → Reads bytes
reads_rest bytes last = record { records = []; rest = bytes; are = tt; parts = refl; last = last }

-- bytes whose first two tell how many of them are a record
reads_whole : (bytes : List ℕ) (n : ℕ) → AreBytes bytes → n < 2 ^ 16 → to_be_bytes w16 n ≡ take 2 bytes → 8 ≤ n
    → n ≤ length bytes → Reads (drop n bytes) → Reads bytes
reads_whole bytes n are fits first long within next =
    let own = take n bytes in
    let size : length own ≡ n = length-take-le n bytes within in
    let is_own : IsOwnLength own = record {
      long = omega (arith, size, long);
      fits = omega (arith, size, fits);
      own = ap (to_be_bytes w16) size ∙ first ∙ sym (take-take 2 n bytes (omega (arith, long)));
    } in
    let r : (r : DumpRecord) × IsDumpRecord r × (own ≡ dump_record_bytes r) =
    record-of own (AreBytes-take n bytes are) is_own in
    record {
      records = r.0 ∷ next.records;
      rest = next.rest;
      are = (r.1, next.are);
      parts = sym (take-append-drop n bytes) ∙ ap (λ l. l ++ drop n bytes) r.2
          ∙ ap (λ l. dump_record_bytes r.0 ++ l) next.parts
          ∙ sym (append_assoc (dump_record_bytes r.0) (flat_map dump_record_bytes next.records) next.rest);
      last = next.last;
    }

pub reads : (most : ℕ) (bytes : List ℕ) → length bytes ≤ most → AreBytes bytes → Reads bytes
reads most [] fits are = reads_rest [] (inl record_part-nil)
reads most (b ∷ []) fits are = reads_rest (b ∷ []) (inl (record_part-one b are.0))
reads zero (b ∷ c ∷ bs) fits are = absurd (omega (arith, fits))
reads (suc most) (b ∷ c ∷ bs) fits are =
    go (cases_lt n 8) (cases_lt (length bytes) n) (λ rest short are. reads most rest short are)
  where
    bytes : List ℕ
    bytes = b ∷ c ∷ bs

    number : (n : ℕ) × (n < 2 ^ 16) × (to_be_bytes w16 n ≡ b ∷ c ∷ [])
    number = short_of (b ∷ c ∷ []) refl (are.0, (are.1.0, tt))

    n : ℕ
    n = number.0

    go : (n < 8) ⊎ (8 ≤ n) → (length bytes < n) ⊎ (n ≤ length bytes)
        → ((rest : List ℕ) → length rest ≤ most → AreBytes rest → Reads rest) → Reads bytes
    go (inl short) size deeper =
        reads_rest bytes (inr record { len = n; short = short; more = bs; bytes_are = ap (λ l. l ++ bs) (sym number.2) })
    go (inr long) (inl less) deeper =
        reads_rest bytes (inl (record_part-of bytes n are (omega arith) long number.1 number.2 less))
    go (inr long) (inr within) deeper =
        reads_whole bytes n are number.1 number.2 long within
        (deeper (drop n bytes) (omega (arith, fits, long, within, length-drop n bytes)) (AreBytes-drop n bytes are))
