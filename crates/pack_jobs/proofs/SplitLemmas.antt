-- What split makes of records, and what its pieces have.
use Rattle.std.proofs.Common.{◌≡◌, ◌↔◌, ℕ, zero, suc, ◌+◌, ◌-◌, ◌/◌, ◌%◌, ◌<◌, ◌≤◌, Bool, true, false, ◌==◌, if◌then◌else◌, List, [], ◌∷◌, ◌++◌, length, take, drop, sum, replicate, flat_map, refl, sym, ap, ◌∙◌, subst, length-drop, length-take-le, eqb-true, arith}
use Rattle.std.specs.List.{AllByRecursion, slice_range}
use Rattle.std.proofs.lemmas.Bool.{eqb-false}
use Rattle.std.proofs.lemmas.List.Folds.{sum_by-replicate}
use Rattle.std.proofs.lemmas.List.Sums.{sum_by-append}
use Rattle.std.proofs.Math.Nat.{mul-le-mul_right, div-add-mod', mod-lt}
use Rattle.job_loop.specs.Shown.{Shown}
use Rattle.job_loop.specs.Meaning.{going, broke, outcome}
use Rattle.job_loop.specs.declared.input_end.InputEnd.{InputEnd}
use Rattle.job_loop.specs.declared.input_end.InputEnd.TheVariants as ends
use Rattle.opus_toc.specs.Configuration.{samples_of}
use Rattle.opus_packet.specs.Value.{PacketValue, IsPacketValue, IsFrame}
use Rattle.opus_packet.proofs.CutLemmas.{sum-cons}
use Rattle.opus_repack.specs.Joined.{IsSameKind}
use Rattle.opus_repack.specs.Parts.{slice_of, parts_from}
use Rattle.opus_repack.proofs.PartLemmas.{parts-all}
use Rattle.opus_words.specs.declared.form.Form.{Form}
use Rattle.pack_records.specs.declared.cut.Cut.{Cut}
use Rattle.pack_records.specs.declared.item.Found.{Found}
use Rattle.pack_records.specs.declared.item.Found.TheVariants.{Packet, Lost, Bad}
use Rattle.pack_records.specs.declared.item.Item.{Item}
use Rattle.pack_jobs.specs.declared.refusal.Why.{Why}
use Rattle.pack_jobs.specs.declared.refusal.Why.TheVariants.{StoreCut}
use Rattle.pack_jobs.specs.Refusal.{Refusal, cut_refusal}
use Rattle.job_ends.specs.Refusal.{told, refusal_of}
use Rattle.pack_jobs.specs.Written.{IsGood, AreGood, FirstBad}
use Rattle.job_ends.specs.Each.{IsUncut, Made, IsWritten, AreWritten, RefusesWith, texts_from}
use Rattle.pack_jobs.specs.Split.{piece_counts, pieces, split_found, split_record, split, HasFullPieces}
use Rattle.job_ends.proofs.EachLemmas.{each_written, each_refused, each_cut, all_written, written_all}
use Rattle.pack_jobs.proofs.PieceLemmas.{counts_by}

-- ---- records

abbrev made : Form → ℕ → ℕ → Shown Item → Made Why
made form most number r = split_found form most r r.item.found

good_is : (form : Form) (most : ℕ) (r : Shown Item) (found : Found) → IsGood found → IsWritten (split_found form most r found)
good_is form most r (Packet framing shape size) good = tt
good_is form most r Lost good = tt
good_is form most r (Bad fault) good = absurd good

written_is : (form : Form) (most : ℕ) (r : Shown Item) (found : Found) → IsWritten (split_found form most r found)
    → IsGood found
written_is form most r (Packet framing shape size) written = tt
written_is form most r Lost written = tt
written_is form most r (Bad fault) written = absurd written

good_are : (form : Form) (most number : ℕ) (rs : List (Shown Item)) → AreGood rs → AreWritten (made form most) number rs
good_are form most = all_written (made form most) (λ (r : Shown Item). IsGood r.item.found) (λ number r. good_is form most r r.item.found)

written_are : (form : Form) (most number : ℕ) (rs : List (Shown Item)) → AreWritten (made form most) number rs → AreGood rs
written_are form most = written_all (made form most) (λ (r : Shown Item). IsGood r.item.found) (λ number r. written_is form most r r.item.found)

texts_are : (form : Form) (most number : ℕ) (rs : List (Shown Item))
    → texts_from (made form most) number rs ≡ flat_map (split_record form most) rs
texts_are form most number [] = refl
texts_are form most number (r ∷ rs) = ap (λ l. split_record form most r ++ l) (texts_are form most (number + 1) rs)

pub split_written : (form : Form) (most : ℕ) (rs : List (Shown Item)) (end : InputEnd Cut) (text : List ℕ)
    → (outcome (split form most) rs end ≡ going text tt)
    ↔ (AreGood rs × IsUncut end × (text ≡ flat_map (split_record form most) rs))
split_written form most rs end text =
    let each = each_written cut_refusal (made form most) rs end text in
    let same = texts_are form most 0 rs in (
      λ is. (let d = each.0 is in (written_are form most 0 rs d.0, d.1, d.2 ∙ same)),
      λ d. each.1 (good_are form most 0 rs d.0, d.1, d.2 ∙ sym same),
    )

pub split_refused : (form : Form) (most : ℕ) (rs : List (Shown Item)) (end : InputEnd Cut) (f : Refusal)
    (at : FirstBad rs f)
    → outcome (split form most) rs end ≡ broke (flat_map (split_record form most) at.before) f
split_refused form most rs end f at =
    each_refused cut_refusal (made form most) rs end f (record {
      before = at.before;
      first = at.first;
      after = at.after;
      parts = at.parts;
      written = good_are form most 0 at.before at.good;
      refused = subst (λ found. RefusesWith (split_found form most at.first found) (length at.before) f) (sym at.holds)
          at.refusal_is;
    })
    ∙ ap (λ l. broke l f) (texts_are form most 0 at.before)

pub split_cut : (form : Form) (most : ℕ) (rs : List (Shown Item)) (c : Cut) → AreGood rs
    → outcome (split form most) rs (ends.Cut c)
    ≡ broke (flat_map (split_record form most) rs) (refusal_of (told (length rs)) c.place StoreCut)
split_cut form most rs c good =
    each_cut cut_refusal (made form most) rs c (good_are form most 0 rs good)
    ∙ ap (λ l. broke l (refusal_of (told (length rs)) c.place StoreCut)) (texts_are form most 0 rs)

-- ---- counts

-- the same of counts
abbrev AreFull : ℕ → List ℕ → Type 0
AreFull most [] = Unit {0}
AreFull most (n ∷ []) = (1 ≤ n) × (n ≤ most)
AreFull most (n ∷ m ∷ ns) = (n ≡ most) × AreFull most (m ∷ ns)

full_more : (most : ℕ) (ns : List ℕ) → 1 ≤ most → AreFull most ns → AreFull most (most ∷ ns)
full_more most [] some full = (some, omega arith)
full_more most (n ∷ ns) some full = (refl, full)

rest_full : (most m : ℕ) (b : Bool) → (m == 0) ≡ b → m < most → AreFull most (if b then [] else (m ∷ []))
rest_full most m true none short = tt
rest_full most m false some short = let left = eqb-false m 0 some in (omega (arith, left), omega (arith, short))

full_by : (most q m : ℕ) → 1 ≤ most → m < most → AreFull most (counts_by most q m)
full_by most zero m some short = rest_full most m (m == 0) refl short
full_by most (suc q) m some short = full_more most (counts_by most q m) some (full_by most q m some short)

counts_full : (most count : ℕ) → 1 ≤ most → AreFull most (piece_counts most count)
counts_full most count some = full_by most (count / most) (count % most) some (mod-lt count some)

rest_sum : (m : ℕ) (b : Bool) → (m == 0) ≡ b → sum (if b then [] else (m ∷ [])) ≡ m
rest_sum m true none = sym (eqb-true m 0 none)
rest_sum m false some = sum-cons m [] ∙ omega arith

counts_sum : (most count : ℕ) → sum (piece_counts most count) ≡ count
counts_sum most count =
    let q = count / most in
    let m = count % most in
    let all = sum_by-append (λ (n : ℕ). n) (replicate q most) (if m == 0 then [] else (m ∷ [])) in
    let first = sum_by-replicate (λ (n : ℕ). n) q most in
    let rest = rest_sum m (m == 0) refl in
    let whole = div-add-mod' count most in omega arith

-- ---- pieces

pub pieces-frames : (most : ℕ) (v : PacketValue) → 1 ≤ most → flat_map (λ p. p.frames) (pieces most v) ≡ v.frames
pieces-frames most v some = parts-all v (piece_counts most (length v.frames)) (counts_sum most (length v.frames))

parts-kind : (v : PacketValue) (from : ℕ) (ns : List ℕ) → AllByRecursion (IsSameKind v) (parts_from v from ns)
parts-kind v from [] = tt
parts-kind v from (n ∷ ns) = (record { config = refl; stereo = refl }, parts-kind v (from + n) ns)

pub pieces-kind : (most : ℕ) (v : PacketValue) → AllByRecursion (IsSameKind v) (pieces most v)
pieces-kind most v = parts-kind v 0 (piece_counts most (length v.frames))

length-slice : (fs : List (List ℕ)) (from n : ℕ) → from + n ≤ length fs → length (slice_range fs from (from + n)) ≡ n
length-slice fs from n fits =
    let size = length-drop from fs in
    let count : from + n - from ≡ n = omega arith in
    ap (λ k. length (take k (drop from fs))) count ∙ length-take-le n (drop from fs) (omega arith)

parts-full : (most : ℕ) (v : PacketValue) (from : ℕ) (ns : List ℕ) → AreFull most ns → from + sum ns ≤ length v.frames
    → HasFullPieces most (parts_from v from ns)
parts-full most v from [] full fits = tt
parts-full most v from (n ∷ []) full fits =
    let size = length-slice v.frames from n (omega (arith, sum-cons n [], fits)) in
    (omega (arith, size, full.0), omega (arith, size, full.1))
parts-full most v from (n ∷ m ∷ ns) full fits =
    let size = length-slice v.frames from n (omega (arith, sum-cons n (m ∷ ns), fits)) in
    (size ∙ full.0, parts-full most v (from + n) (m ∷ ns) full.1 (omega (arith, sum-cons n (m ∷ ns), fits)))

pub pieces-full : (most : ℕ) (v : PacketValue) → 1 ≤ most → HasFullPieces most (pieces most v)
pieces-full most v some =
    let count = length v.frames in
    parts-full most v 0 (piece_counts most count) (counts_full most count some) (omega (arith, counts_sum most count))

each-take : (n : ℕ) (fs : List (List ℕ)) → AllByRecursion IsFrame fs → AllByRecursion IsFrame (take n fs)
each-take zero fs each = tt
each-take (suc n) [] each = tt
each-take (suc n) (f ∷ fs) each = (each.0, each-take n fs each.1)

each-drop : (n : ℕ) (fs : List (List ℕ)) → AllByRecursion IsFrame fs → AllByRecursion IsFrame (drop n fs)
each-drop zero fs each = each
each-drop (suc n) [] each = tt
each-drop (suc n) (f ∷ fs) each = each-drop n fs each.1

part-value : (v : PacketValue) (from n : ℕ) → IsPacketValue v → 1 ≤ n → from + n ≤ length v.frames
    → IsPacketValue (slice_of v from (from + n))
part-value v from n is some fits =
    let size = length-slice v.frames from n fits in
    let fewer : length (slice_range v.frames from (from + n)) ≤ length v.frames = omega (arith, size, fits) in
    let shorter = mul-le-mul_right (samples_of v.config) fewer in
    record {
      config = is.config;
      some = omega (arith, size, some);
      most = omega (arith, size, fits, is.most);
      each = each-take (from + n - from) (drop from v.frames) (each-drop from v.frames is.each);
      duration = omega (arith, shorter, is.duration);
    }

full_some : (most n : ℕ) (ns : List ℕ) → 1 ≤ most → AreFull most (n ∷ ns) → (1 ≤ n) × AreFull most ns
full_some most n [] some full = (full.0, tt)
full_some most n (m ∷ ns) some full = (omega (arith, some, full.0), full.1)

parts-values : (most : ℕ) (v : PacketValue) (from : ℕ) (ns : List ℕ) → 1 ≤ most → IsPacketValue v → AreFull most ns
    → from + sum ns ≤ length v.frames → AllByRecursion IsPacketValue (parts_from v from ns)
parts-values most v from [] some is full fits = tt
parts-values most v from (n ∷ ns) some is full fits =
    let own = full_some most n ns some full in (
      part-value v from n is own.0 (omega (arith, sum-cons n ns, fits)),
      parts-values most v (from + n) ns some is own.1 (omega (arith, sum-cons n ns, fits)),
    )

pub pieces-values : (most : ℕ) (v : PacketValue) → 1 ≤ most → IsPacketValue v → AllByRecursion IsPacketValue (pieces most v)
pieces-values most v some is =
    let count = length v.frames in
    parts-values most v 0 (piece_counts most count) some is (counts_full most count some)
    (omega (arith, counts_sum most count))
