-- The first bad record has the first fault.
use Rattle.std.proofs.Common.{◌≡◌, ◌⊎◌, ℕ, ◌+◌, ◌<◌, ◌≤◌, List, [], ◌∷◌, ◌++◌, map, length, inl, inr, refl, sym, ap, subst, arith}
use Rattle.std.proofs.Math.Nat.{eq-or-lt_of_le}
use Rattle.std.specs.List.{AllByRecursion}
use Rattle.job_loop.specs.FirstFault.{Fault, FaultAt, Before, IsAmong, IsFirst, faults_of, InOrder, RowsRise, FirstBad}

abbrev fault_at : {F : Type 0} → ℕ → ℕ → Fault F → FaultAt F
fault_at place number f = record { place = place; number = number; fault = f }

-- f is this fault, or comes before it
abbrev NotBehind : {F : Type 0} → FaultAt F → FaultAt F → Type 0
NotBehind f g = (g ≡ f) ⊎ Before f g

module _ {R F : Type 0} (place : R → ℕ) (faults : R → List (Fault F)) where
  abbrev own_faults : ℕ → R → List (Fault F) → List (FaultAt F)
  own_faults number r fs = map (λ f. record { place = place r; number = number; fault = f }) fs

  -- a record's later faults come behind its first one
  later_rows : (r : R) (number : ℕ) (f : FaultAt F) (n : ℕ) (fs : List (Fault F)) (rest : List (FaultAt F))
      → f.place ≡ place r → f.number ≡ number → f.fault.row < n → RowsRise n fs
      → AllByRecursion (NotBehind f) rest → AllByRecursion (NotBehind f) (own_faults number r fs ++ rest)
  later_rows r number f n [] rest p k less rise all = all
  later_rows r number f n (g ∷ fs) rest p k less rise all = (
    inr (inr (p, inr (k, omega (arith, less, rise.0)))),
    later_rows r number f (g.row + 1) fs rest p k (omega (arith, less, rise.0)) rise.1 all,
  )

  placed_later : (f : FaultAt F) (at number : ℕ) (g : Fault F) → f.number < number → (f.place ≡ at) ⊎ (f.place < at)
      → Before f (fault_at at number g)
  placed_later f at number g k (inl p) = inr (p, inl k)
  placed_later f at number g k (inr p) = inl p

  -- and so do those of a later record
  later_record : (r : R) (number : ℕ) (f : FaultAt F) (fs : List (Fault F)) (rest : List (FaultAt F))
      → f.place ≤ place r → f.number < number → AllByRecursion (NotBehind f) rest
      → AllByRecursion (NotBehind f) (own_faults number r fs ++ rest)
  later_record r number f [] rest p k all = all
  later_record r number f (g ∷ fs) rest p k all =
      (inr (placed_later f (place r) number g k (eq-or-lt_of_le p)), later_record r number f fs rest p k all)

  later_records : (f : FaultAt F) (number at : ℕ) (rs : List R) → f.place ≤ at → f.number < number
      → InOrder place at rs → AllByRecursion (NotBehind f) (faults_of place faults number rs)
  later_records f number at [] p k order = tt
  later_records f number at (r ∷ rs) p k order =
      let here : f.place ≤ place r = omega (arith, p, order.0) in
      later_record r number f (faults r) (faults_of place faults (number + 1) rs) here k
      (later_records f (number + 1) (place r) rs here (omega (arith, k)) order.1)

  first_here : (f : FaultAt F) (number : ℕ) (bad : R) (after : List R) (others : List (Fault F))
      → faults bad ≡ f.fault ∷ others → RowsRise 0 (f.fault ∷ others) → InOrder place (place bad) after
      → f.place ≡ place bad → f.number ≡ number → IsFirst (faults_of place faults number (bad ∷ after)) f
  first_here f number bad after others is rise order p k =
      let rest = faults_of place faults (number + 1) after in
      let same : fault_at (place bad) number f.fault ≡ f =
      λ i. record { place = (sym p) i; number = (sym k) i; fault = f.fault } in
      subst (λ fs. IsFirst (own_faults number bad fs ++ rest) f) (sym is) (record {
        among = inl same;
        least = (
          inl same,
          later_rows bad number f (f.fault.row + 1) others rest p k (omega arith) rise.1
              (later_records f (number + 1) (place bad) after (omega (arith, p)) (omega (arith, k)) order),
        );
      })

  first_at : (f : FaultAt F) (number at : ℕ) (before : List R) (bad : R) (after : List R) (others : List (Fault F))
      → InOrder place at (before ++ bad ∷ after) → AllByRecursion (λ r. RowsRise 0 (faults r)) (before ++ bad ∷ after)
      → AllByRecursion (λ r. faults r ≡ []) before → faults bad ≡ f.fault ∷ others → f.place ≡ place bad
      → f.number ≡ number + length before → IsFirst (faults_of place faults number (before ++ bad ∷ after)) f
  first_at f number at [] bad after others order rise good is p k =
      first_here f number bad after others is (subst (RowsRise 0) is rise.0) order.1 p (omega (arith, k))
  first_at f number at (r ∷ before) bad after others order rise good is p k =
      subst (λ fs. IsFirst (own_faults number r fs ++ faults_of place faults (number + 1) (before ++ bad ∷ after)) f)
      (sym good.0) (first_at f (number + 1) (place r) before bad after others order.1 rise.1 good.1 is p
      (omega (arith, k)))

  pub bad_is_first : (rs : List R) (f : FaultAt F) → InOrder place 0 rs
      → AllByRecursion (λ r. RowsRise 0 (faults r)) rs → FirstBad place faults rs f
      → IsFirst (faults_of place faults 0 rs) f
  bad_is_first rs f order rise b =
      subst (λ rs. IsFirst (faults_of place faults 0 rs) f) (sym b.parts)
      (first_at f 0 0 b.before b.bad b.after b.others (subst (InOrder place 0) b.parts order)
      (subst (AllByRecursion (λ r. RowsRise 0 (faults r))) b.parts rise) b.good b.first b.place_is
      (omega (arith, b.number_is)))

  -- ---- a first fault is the only one

  before_once : (a b : FaultAt F) → Before a b → Before b a → ⊥
  before_once a b (inl p) (inl q) = omega (arith, p, q)
  before_once a b (inl p) (inr q) = omega (arith, p, q.0)
  before_once a b (inr p) (inl q) = omega (arith, p.0, q)
  before_once a b (inr p) (inr q) = number_once p.1 q.1 where
    number_once : (a.number < b.number) ⊎ ((a.number ≡ b.number) × (a.fault.row < b.fault.row))
        → (b.number < a.number) ⊎ ((b.number ≡ a.number) × (b.fault.row < a.fault.row)) → ⊥
    number_once (inl p) (inl q) = omega (arith, p, q)
    number_once (inl p) (inr q) = omega (arith, p, q.0)
    number_once (inr p) (inl q) = omega (arith, p.0, q)
    number_once (inr p) (inr q) = omega (arith, p.1, q.1)

  holds_of : (P : FaultAt F → Type 0) (fs : List (FaultAt F)) (f : FaultAt F) → AllByRecursion P fs → IsAmong fs f → P f
  holds_of P [] f all is = absurd is
  holds_of P (g ∷ fs) f all (inl same) = subst P same all.0
  holds_of P (g ∷ fs) f all (inr is) = holds_of P fs f all.1 is

  either_way : (f g : FaultAt F) → NotBehind f g → NotBehind g f → f ≡ g
  either_way f g (inl same) q = sym same
  either_way f g (inr p) (inl same) = same
  either_way f g (inr p) (inr q) = absurd (before_once f g p q)

  first_once : (fs : List (FaultAt F)) (f g : FaultAt F) → IsFirst fs f → IsFirst fs g → f ≡ g
  first_once fs f g a b =
      either_way f g (holds_of (NotBehind f) fs g a.least b.among) (holds_of (NotBehind g) fs f b.least a.among)

  -- ---- where there is a fault there is a first bad record

  abbrev Found : ℕ → List R → Type 0
  Found number rs = (before : List R) × (bad : R) × (after : List R) × (f : Fault F) × (others : List (Fault F))
      × (rs ≡ before ++ bad ∷ after) × AllByRecursion (λ r. faults r ≡ []) before × (faults bad ≡ f ∷ others)

  found_at : (number : ℕ) (r : R) (rs : List R) (fs : List (Fault F)) → faults r ≡ fs
      → (faults_of place faults (number + 1) rs ≡ []) ⊎ Found (number + 1) rs
      → (own_faults number r fs ++ faults_of place faults (number + 1) rs ≡ []) ⊎ Found number (r ∷ rs)
  found_at number r rs (f ∷ fs) is rest = inr ([], r, rs, f, fs, refl, tt, is)
  found_at number r rs [] is (inl none) = inl none
  found_at number r rs [] is (inr w) =
      inr (r ∷ w.0, w.1, w.2, w.3, w.4, ap (λ l. r ∷ l) w.5, (is, w.6), w.7)

  find : (number : ℕ) (rs : List R) → (faults_of place faults number rs ≡ []) ⊎ Found number rs
  find number [] = inl refl
  find number (r ∷ rs) = found_at number r rs (faults r) refl (find (number + 1) rs)

  bad_of : (rs : List R) (f : FaultAt F) → InOrder place 0 rs → AllByRecursion (λ r. RowsRise 0 (faults r)) rs
      → IsFirst (faults_of place faults 0 rs) f → (faults_of place faults 0 rs ≡ []) ⊎ Found 0 rs
      → FirstBad place faults rs f
  bad_of rs f order rise first (inl none) = absurd (subst (λ fs. IsAmong fs f) none first.among)
  bad_of rs f order rise first (inr w) =
      let g = fault_at (place w.1) (length w.0) w.3 in
      let b : FirstBad place faults rs g = record {
        before = w.0;
        bad = w.1;
        after = w.2;
        others = w.4;
        parts = w.5;
        good = w.6;
        first = w.7;
        place_is = refl;
        number_is = refl;
      } in
      subst (FirstBad place faults rs)
      (first_once (faults_of place faults 0 rs) g f (bad_is_first rs g order rise b) first) b

  pub first_is_bad : (rs : List R) (f : FaultAt F) → InOrder place 0 rs
      → AllByRecursion (λ r. RowsRise 0 (faults r)) rs → IsFirst (faults_of place faults 0 rs) f
      → FirstBad place faults rs f
  first_is_bad rs f order rise first = bad_of rs f order rise first (find 0 rs)
