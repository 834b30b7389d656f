-- The machine of the form of lengths.
use Rattle.std.proofs.Common.{◌≡◌, ℕ, suc, ◌+◌, ◌<◌, ◌≤◌, Bool, true, false, List, [], ◌∷◌, ◌++◌, get_or, take, drop, length, if◌then◌else◌, refl, sym, ap, ◌∙◌, subst, length-append, length-take-le, append_assoc, append-nil, arith}
use Rattle.std.proofs.lemmas.Bool.{le-ltb, lt-ltb}
use Rattle.job_loop.specs.Shown.{Shown}
use Rattle.job_loop.specs.Forms.{HasFed}
use Rattle.job_loop.specs.Samples.{spelled, record_at, records_at, IsPart, size_of, rest_kept, lent_record, LengthFront, LengthStands}

spelled_more : (ps : List (List ℕ)) (p : List ℕ) → spelled (ps ++ p ∷ []) ≡ spelled ps ++ (length p ∷ p)
spelled_more [] p = ap (λ l. length p ∷ l) (append-nil p)
spelled_more (q ∷ ps) p =
    ap (λ l. length q ∷ l) (ap (λ l. q ++ l) (spelled_more ps p) ∙ sym (append_assoc q (spelled ps) (length p ∷ p)))

records_more : (at : ℕ) (ps : List (List ℕ)) (p : List ℕ)
    → records_at at (ps ++ p ∷ []) ≡ records_at at ps ++ record_at (at + length (spelled ps)) p ∷ []
records_more at [] p =
    let same : at ≡ at + 0 = omega arith in
    ap (λ n. record_at n p ∷ []) same
records_more at (q ∷ ps) p =
    let same : at + suc (length q) + length (spelled ps) ≡ at + suc (length (q ++ spelled ps)) =
    omega (arith, length-append q (spelled ps)) in
    ap (λ l. record_at at q ∷ l) (records_more (at + suc (length q)) ps p
    ∙ ap (λ n. records_at (at + suc (length q)) ps ++ record_at n p ∷ []) same)

-- a record is whole
whole_front : (h rest own p : List ℕ) (rs : List (Shown ℕ)) (end : ℕ) → LengthFront h rs rest
    → rest ++ own ≡ length p ∷ p → end ≡ length h + length own
    → LengthFront (h ++ own) (rs ++ record { item = end; bytes = p } ∷ []) []
whole_front h rest own p rs end f is at =
    let size = ap (λ (l : List ℕ). length l) is in
    let place : 0 + length (spelled f.whole) + suc (length p) ≡ end =
    omega (
      arith,
      size,
      at,
      length-append rest own,
      ap (λ (l : List ℕ). length l) f.parts,
      length-append (spelled f.whole) rest,
    ) in
    record {
      whole = f.whole ++ p ∷ [];
      parts = ap (λ l. l ++ own) f.parts ∙ append_assoc (spelled f.whole) rest own ∙ ap (λ l. spelled f.whole ++ l) is
          ∙ sym (spelled_more f.whole p) ∙ sym (append-nil (spelled (f.whole ++ p ∷ [])));
      part = tt;
      records_are = ap (λ l. l ++ record { item = end; bytes = p } ∷ []) f.records_are
          ∙ ap (λ n. records_at 0 f.whole ++ record { item = n; bytes = p } ∷ []) (sym place)
          ∙ sym (records_more 0 f.whole p);
    }

part_front : (h rest own : List ℕ) (rs : List (Shown ℕ)) → LengthFront h rs rest → IsPart (rest ++ own)
    → LengthFront (h ++ own) rs (rest ++ own)
part_front h rest own rs f part = record {
  whole = f.whole;
  parts = ap (λ l. l ++ own) f.parts ∙ append_assoc (spelled f.whole) rest own;
  part = part;
  records_are = f.records_are;
}

rest_open : (need : ℕ) (kept : List ℕ) → length kept < need → rest_kept need kept ≡ kept
rest_open need kept less = ap (λ b. if b then kept else []) (lt-ltb (length kept) need less)

rest_shut : (need : ℕ) (kept : List ℕ) → need ≤ length kept → rest_kept need kept ≡ []
rest_shut need kept all = ap (λ b. if b then kept else []) (le-ltb (length kept) need all)

-- a record lies whole in what was fed
in_place : (piece : List ℕ) (n x : ℕ) → n ≡ suc x → x ≡ get_or piece 0 0 → n ≤ length piece
    → take n piece ≡ length (drop 1 (take n piece)) ∷ drop 1 (take n piece)
in_place [] n x is first fits = absurd (omega (arith, is, fits))
in_place (y ∷ ys) n x is first fits =
    let size : length (take x ys) ≡ x = length-take-le x ys (omega (arith, is, fits)) in
    subst (λ n. take n (y ∷ ys) ≡ length (drop 1 (take n (y ∷ ys))) ∷ drop 1 (take n (y ∷ ys))) (sym is)
    (ap (λ y. y ∷ take x ys) (sym first ∙ sym size))

pub fed_whole : (kept piece h : List ℕ) (rs : List (Shown ℕ)) (need at n x : ℕ) → LengthStands kept need h rs
    → length h ≡ at → need ≤ length kept → n ≡ suc x → x ≡ get_or piece 0 0 → n ≤ length piece
    → LengthStands [] 0 (h ++ take n piece) (rs ++ lent_record (at + n) 0 [] (take n piece) ∷ [])
fed_whole kept piece h rs need at n x s size all is first fits = record {
  front = whole_front h [] (take n piece) (drop 1 (take n piece)) rs (at + n)
      (subst (λ rest. LengthFront h rs rest) (rest_shut need kept all) s.front)
      (in_place piece n x is first fits) (omega (arith, size, length-take-le n piece fits));
  size = λ less. absurd (omega (arith, less));
}

-- the record that is kept is whole now
kept_whole : (kept own kept' : List ℕ) (need : ℕ) → length kept < need → need ≡ size_of kept → kept' ≡ kept ++ own
    → length kept' ≡ need → kept ++ own ≡ length (drop 1 kept') ∷ drop 1 kept'
kept_whole [] own kept' need less is now all = absurd (omega (arith, less, is))
kept_whole (n ∷ xs) own kept' need less is now all =
    let size : length (xs ++ own) ≡ n = omega (arith, is, all, ap (λ (l : List ℕ). length l) now) in
    ap (λ n. n ∷ (xs ++ own)) (sym size) ∙ ap (λ l. length (drop 1 l) ∷ drop 1 l) (sym now)

kept_part : (kept own : List ℕ) (need : ℕ) → length kept < need → need ≡ size_of kept
    → length (kept ++ own) < need → IsPart (kept ++ own) × (need ≡ size_of (kept ++ own))
kept_part [] own need less is short = absurd (omega (arith, less, is))
kept_part (n ∷ xs) own need less is short = (omega (arith, is, short), is)

lent_kept : (end need : ℕ) (kept own : List ℕ) → 0 < need
    → lent_record end need kept own ≡ record { item = end; bytes = drop 1 kept }
lent_kept end need kept own some =
    ap (λ b. record { item = end; bytes = drop 1 (if b then kept else own) }) (lt-ltb 0 need some)

pub went_on : (kept kept' own h : List ℕ) (rs : List (Shown ℕ)) (need at end : ℕ) (whole : Bool)
    → LengthStands kept need h rs → length h ≡ at → length kept < need → kept' ≡ kept ++ own
    → (whole ≡ true → (length kept' ≡ need) × (end ≡ at + length own)) → (whole ≡ false → length kept' < need)
    → HasFed (LengthStands kept' need) (λ (r : Shown ℕ). r.item) (lent_record end need kept' own) whole h rs own
    (at + length own)
went_on kept kept' own h rs need at end true s size less now all part =
    let done = all refl in
    let f = subst (λ rest. LengthFront h rs rest) (rest_open need kept less) s.front in
    let is = kept_whole kept own kept' need less (s.size less) now done.0 in
    let r = lent_kept end need kept' own (omega (arith, less)) in (
      record {
        front = subst (λ rest. LengthFront (h ++ own) (rs ++ lent_record end need kept' own ∷ []) rest)
            (sym (rest_shut need kept' (omega (arith, done.0))))
            (subst (λ r. LengthFront (h ++ own) (rs ++ r ∷ []) []) (sym r)
            (whole_front h kept own (drop 1 kept') rs end f is (omega (arith, done.1, size))));
        size = λ short. absurd (omega (arith, short, done.0));
      },
      ap (λ (r : Shown ℕ). r.item) r ∙ done.1,
    )
went_on kept kept' own h rs need at end false s size less now all part =
    let short = part refl in
    let f = subst (λ rest. LengthFront h rs rest) (rest_open need kept less) s.front in
    let p = kept_part kept own need less (s.size less) (subst (λ l. length l < need) now short) in
    record {
      front = subst (λ rest. LengthFront (h ++ own) rs rest) (sym now ∙ sym (rest_open need kept' short))
          (part_front h kept own rs f p.0);
      size = λ _. subst (λ l. need ≡ size_of l) (sym now) p.1;
    }
