-- The pieces of a value, one after another.
use Rattle.std.proofs.Common.{◌≡◌, ◌⊎◌, ℕ, suc, ◌+◌, ◌-◌, ◌/◌, ◌%◌, ◌<◌, ◌≤◌, ◌==◌, if◌then◌else◌, List, [], ◌∷◌, ◌++◌, length, replicate, Option, None, Some, IfSome, Result, Ok, Err, OnOk, OnErr, min, inl, inr, sym, ap, ◌∙◌, subst, append-nil, append_assoc, arith}
use Rattle.std.proofs.lemmas.Bool.{cases_lt, eq-eqb, ne_eqb}
use Rattle.std.proofs.Math.Nat.{div-eq_of_lt, mod-eq_of_lt, div_self, mod_self, add-div_right, add-mod_right}
use Rattle.std.specs.Io.KnownBytes.{Appends}
use Rattle.std.proofs.KnownBytes.{Appends-trans}
use Rattle.job_loop.specs.Telling.{Front}
use Rattle.job_loop.proofs.RunLemmas.{Front-behind, Front-longer}
use Rattle.opus_packet.specs.Value.{PacketValue}
use Rattle.opus_repack.specs.Collected.{frames_in, with_frames}
use Rattle.opus_repack.specs.Parts.{slice_of, parts_from}
use Rattle.opus_words.specs.declared.form.Form.{Form}
use Rattle.pack_jobs.specs.Records.{canonical_record}
use Rattle.pack_jobs.specs.Split.{piece_counts, pieces, piece_records, range_to}

-- the counts of what is left

abbrev pub counts_by : ℕ → ℕ → ℕ → List ℕ
counts_by most q m = replicate q most ++ (if m == 0 then [] else (m ∷ []))

pub counts_none : (most : ℕ) → 1 ≤ most → piece_counts most 0 ≡ []
counts_none most some =
    ap (λ q. counts_by most q (0 % most)) (div-eq_of_lt {n = 0} {m = most} some)
    ∙ ap (counts_by most 0) (mod-eq_of_lt {n = 0} {m = most} some)

if_left : (m : ℕ) → 0 < m → (if m == 0 then [] else (m ∷ [])) ≡ m ∷ []
if_left m some = ap (λ b. if b then [] else (m ∷ [])) (ne_eqb m 0 (λ none. omega (arith, none, some)))

short_count : (most m : ℕ) → 0 < m → m < most → piece_counts most m ≡ m ∷ []
short_count most m some short =
    ap (λ q. counts_by most q (m % most)) (div-eq_of_lt short) ∙ ap (counts_by most 0) (mod-eq_of_lt short)
    ∙ if_left m some

full_count : (most : ℕ) → 1 ≤ most → piece_counts most most ≡ most ∷ []
full_count most some =
    ap (λ q. counts_by most q (most % most)) (div_self some) ∙ ap (counts_by most 1) (mod_self most)

-- at most one piece is left
pub counts_last : (most m : ℕ) → 1 ≤ most → 0 < m → m ≤ most → piece_counts most m ≡ m ∷ []
counts_last most m some left fits = go (cases_lt m most)
  where
    go : (m < most) ⊎ (most ≤ m) → piece_counts most m ≡ m ∷ []
    go (inl short) = short_count most m left short
    go (inr full) =
        let same : m ≡ most = omega arith in
        ap (piece_counts most) same ∙ full_count most some ∙ ap (λ n. n ∷ []) (sym same)

plus_one : (n : ℕ) → n + 1 ≡ suc n
plus_one n = omega arith

-- more than one is left
pub counts_more : (most m : ℕ) → 1 ≤ most → piece_counts most (m + most) ≡ most ∷ piece_counts most m
counts_more most m some =
    let one_more : (m + most) / most ≡ suc (m / most) = add-div_right m some ∙ plus_one (m / most) in
    ap (λ q. counts_by most q ((m + most) % most)) one_more ∙ ap (counts_by most (suc (m / most))) (add-mod_right m most)

some_count : (most m : ℕ) → 1 ≤ most → 0 < m → (n : ℕ) × (ns : List ℕ) × (piece_counts most m ≡ n ∷ ns)
some_count most m some left = go (cases_lt most m)
  where
    go : (most < m) ⊎ (m ≤ most) → (n : ℕ) × (ns : List ℕ) × (piece_counts most m ≡ n ∷ ns)
    go (inl longer) =
        let parts : m ≡ (m - most) + most = omega arith in
        (most, piece_counts most (m - most), ap (piece_counts most) parts ∙ counts_more most (m - most) some)
    go (inr fits) = (m, [], counts_last most m some left fits)

-- the records of the pieces from a frame on

abbrev pub records_from : Form → ℕ → ℕ → PacketValue → ℕ → List ℕ
records_from form range most v from =
    piece_records form range (parts_from v from (piece_counts most (length v.frames - from)))

pub records-none : (form : Form) (range most : ℕ) (v : PacketValue) (from : ℕ) → 1 ≤ most → length v.frames ≤ from
    → records_from form range most v from ≡ []
records-none form range most v from some past =
    let none : length v.frames - from ≡ 0 = omega arith in
    ap (λ n. piece_records form range (parts_from v from (piece_counts most n))) none
    ∙ ap (λ ns. piece_records form range (parts_from v from ns)) (counts_none most some)

last_records : (form : Form) (range most : ℕ) (v : PacketValue) (from : ℕ) → 1 ≤ most → from < length v.frames
    → length v.frames - from ≤ most
    → records_from form range most v from ≡ canonical_record form range (slice_of v from (length v.frames))
last_records form range most v from some left fits =
    let end : from + (length v.frames - from) ≡ length v.frames = omega arith in
    ap (λ ns. piece_records form range (parts_from v from ns))
    (counts_last most (length v.frames - from) some (omega arith) fits)
    ∙ ap (λ to. canonical_record form range (slice_of v from to)) end

first_records : (form : Form) (range most : ℕ) (v : PacketValue) (from : ℕ) (ns : List ℕ)
    → ((n : ℕ) × (ms : List ℕ) × (ns ≡ n ∷ ms))
    → piece_records form range (parts_from v from (most ∷ ns))
    ≡ canonical_record form 0 (slice_of v from (from + most)) ++ piece_records form range (parts_from v (from + most) ns)
first_records form range most v from ns (n, ms, is) =
    ap (λ l. piece_records form range (parts_from v from (most ∷ l))) is
    ∙ ap (λ l. canonical_record form 0 (slice_of v from (from + most)) ++ piece_records form range (parts_from v (from + most) l))
    (sym is)

more_records : (form : Form) (range most : ℕ) (v : PacketValue) (from : ℕ) → 1 ≤ most → from + most < length v.frames
    → records_from form range most v from
    ≡ canonical_record form 0 (slice_of v from (from + most)) ++ records_from form range most v (from + most)
more_records form range most v from some more =
    let left = length v.frames - (from + most) in
    let parts : length v.frames - from ≡ left + most = omega arith in
    ap (λ n. piece_records form range (parts_from v from (piece_counts most n))) parts
    ∙ ap (λ ns. piece_records form range (parts_from v from ns)) (counts_more most left some)
    ∙ first_records form range most v from (piece_counts most left) (some_count most left some (omega arith))

-- one piece, and those behind it
pub records-next : (form : Form) (range most : ℕ) (v : PacketValue) (from to : ℕ) → 1 ≤ most → from < length v.frames
    → to ≡ from + min most (length v.frames - from)
    → records_from form range most v from
    ≡ canonical_record form (range_to range (length v.frames) to) (slice_of v from to)
    ++ records_from form range most v to
records-next form range most v from to some left is = go (cases_lt (from + most) (length v.frames))
  where
    all : ℕ
    all = length v.frames

    go : (from + most < all) ⊎ (all ≤ from + most)
        → records_from form range most v from
        ≡ canonical_record form (range_to range all to) (slice_of v from to) ++ records_from form range most v to
    go (inl more) =
        let end : from + most ≡ to = omega arith in
        let none : 0 ≡ range_to range all to =
        ap (λ b. if b then range else 0) (sym (ne_eqb to all (λ same. omega (arith, same, end, more)))) in
        more_records form range most v from some more
        ∙ ap (λ n. canonical_record form 0 (slice_of v from n) ++ records_from form range most v n) end
        ∙ ap (λ r. canonical_record form r (slice_of v from to) ++ records_from form range most v to) none
    go (inr last) =
        let end : all ≡ to = omega arith in
        let own : range ≡ range_to range all to = ap (λ b. if b then range else 0) (sym (eq-eqb to all (sym end))) in
        last_records form range most v from some left (omega arith)
        ∙ sym (append-nil (canonical_record form range (slice_of v from all)))
        ∙ ap (λ l. canonical_record form range (slice_of v from all) ++ l)
        (sym (records-none form range most v all some (omega arith)))
        ∙ ap (λ n. canonical_record form range (slice_of v from n) ++ records_from form range most v n) end
        ∙ ap (λ r. canonical_record form r (slice_of v from to) ++ records_from form range most v to) own

-- the pieces before a frame were written
pub record HasWritten (form : Form) (range most : ℕ) (v : PacketValue) (from : ℕ) (old new : Option (List ℕ)) : Type 0 where
  pub text : List ℕ
  pub appended : Appends old new text
  pub parts : piece_records form range (pieces most v) ≡ text ++ records_from form range most v from

-- one more
pub HasWritten-more : (form : Form) (range most : ℕ) (v : PacketValue) (from to : ℕ) (old mid new : Option (List ℕ))
    → 1 ≤ most → from < length v.frames → to ≡ from + min most (length v.frames - from)
    → HasWritten form range most v from old mid
    → Appends mid new (canonical_record form (range_to range (length v.frames) to) (slice_of v from to))
    → HasWritten form range most v to old new
HasWritten-more form range most v from to old mid new some left is w more =
    let piece = canonical_record form (range_to range (length v.frames) to) (slice_of v from to) in
    record {
      text = w.text ++ piece;
      appended = Appends-trans old mid new w.text piece w.appended more;
      parts = w.parts ∙ ap (λ l. w.text ++ l) (records-next form range most v from to some left is)
          ∙ sym (append_assoc w.text piece (records_from form range most v to));
    }

-- a stop within one
pub HasWritten-front : (form : Form) (range most : ℕ) (v : PacketValue) (from to : ℕ) (old mid new : Option (List ℕ))
    → 1 ≤ most → from < length v.frames → to ≡ from + min most (length v.frames - from)
    → HasWritten form range most v from old mid
    → Front (canonical_record form (range_to range (length v.frames) to) (slice_of v from to)) mid new
    → Front (piece_records form range (pieces most v)) old new
HasWritten-front form range most v from to old mid new some left is w front =
    let piece = canonical_record form (range_to range (length v.frames) to) (slice_of v from to) in
    let behind = records_from form range most v to in
    let all : piece_records form range (pieces most v) ≡ w.text ++ (piece ++ behind) =
    w.parts ∙ ap (λ l. w.text ++ l) (records-next form range most v from to some left is) in
    subst (λ l. Front l old new) (sym all)
    (Front-behind w.text (piece ++ behind) old mid new w.appended (Front-longer piece behind mid new front))

-- ---- the pieces as a repacketizer gives them out

-- it holds the packet alone
pub held_alone : {E : Type 0} → (result : Result (Unit {0}) E) (done : Unit {0}) (cleared held : Option PacketValue)
    (v : PacketValue) → cleared ≡ None → result ≡ Ok done → OnOk result (held ≡ Some (with_frames cleared v))
    → held ≡ Some v
held_alone result done cleared held v none is ok =
    subst (λ r. OnOk r (held ≡ Some (with_frames cleared v))) is ok ∙ ap (λ o. Some (with_frames o v)) none

pub held_count : (held : Option PacketValue) (v : PacketValue) (all : ℕ) → held ≡ Some v → all ≡ length (frames_in held)
    → all ≡ length v.frames
held_count held v all is count = count ∙ ap (λ o. length (frames_in o)) is

pub held_record : (form : Form) (range r from to all : ℕ) (held : Option PacketValue) (v p : PacketValue)
    → held ≡ Some v → all ≡ length v.frames → r ≡ range_to range all to
    → IfSome held (λ w. p ≡ slice_of w from to)
    → canonical_record form r p
    ≡ canonical_record form (range_to range (length v.frames) to) (slice_of v from to)
held_record form range r from to all held v p is count r_is part =
    ap (λ q. canonical_record form r q) (subst (λ o. IfSome o (λ w. p ≡ slice_of w from to)) is part)
    ∙ ap (λ n. canonical_record form n (slice_of v from to)) (r_is ∙ ap (λ n. range_to range n to) count)

-- what holds of any stop
pub on_stop : {T E : Type 0} → (result : Result T E) (P : Type 0) → P → OnErr result P
on_stop (Ok done) P p = tt
on_stop (Err stop) P p = p
