-- How far a run has come.
use Rattle.std.proofs.Common.{◌≡◌, ℕ, ◌<◌, Bool, true, false, List, [], ◌∷◌, ◌++◌, Option, None, Some, length, refl, sym, ap, ◌∙◌, subst, length-append, arith}
use Rattle.std.specs.Io.KnownBytes.{Appends, Consumes, Keeps, IsAtEnd, prepend_known}
use Rattle.std.proofs.KnownBytes.{Appends-trans, Appends-kept, Consumes-nil, Consumes-trans, Consumes-kept, Keeps-refl, prepend_known-nil, prepend_known-read}
use Rattle.opus_io.specs.Reader.{ReaderState, coming}
use Rattle.job_loop.specs.Meaning.{Meaning, going, adds, runs, opened}
use Rattle.job_loop.specs.Telling.{Goes}
use Rattle.job_loop.specs.Turns.{Moved, Within, still}
use Rattle.job_loop.specs.Ran.{Taken, TakenAll, TakenPast}
use Rattle.job_loop.proofs.RunLemmas.{runs-on}

-- The bytes passed, the records that stand in them, and the text of these, which is written. What comes next is
-- `next`, and the sink holds `now`.
pub record Reached {R K C F : Type 0} (m : Meaning R K C F) (Stands : List ℕ → List R → Type 0) (Job : K → Type 0)
    (left next before now : Option (List ℕ)) (passed : ℕ) : Type 0 where
  pub front : List ℕ
  pub records : List R
  pub text : List ℕ
  pub kept : K
  pub consumed : Consumes left next front
  pub size : length front ≡ passed
  pub stands : Stands front records
  pub run : runs m (opened m) records ≡ going text kept
  pub job : Job kept
  pub written : Appends before now text

nothing_kept : (k : ReaderState) (left : Option (List ℕ)) → k.bytes ≡ [] → coming k left ≡ left
nothing_kept k left none = ap (λ l. prepend_known l left) none ∙ prepend_known-nil left

pub reached_start : {R K C F : Type 0} → (m : Meaning R K C F) (Stands : List ℕ → List R → Type 0) (Job : K → Type 0)
    (k : ReaderState) (left before now : Option (List ℕ)) → k.bytes ≡ [] → k.passed ≡ 0 → Stands [] []
    → Job m.start → Appends before now m.opening → Reached m Stands Job left (coming k left) before now k.passed
reached_start m Stands Job k left before now none first stands job written = record {
  front = [];
  records = [];
  text = m.opening;
  kept = m.start;
  consumed = subst (λ l. Consumes left l []) (sym (nothing_kept k left none)) (Consumes-nil left);
  size = sym first;
  stands = stands;
  run = refl;
  job = job;
  written = written;
}

-- ---- what was passed

pub moved_comes : (old new : ReaderState) (left : Option (List ℕ)) → Moved old new
    → Consumes (coming old left) (coming new left) new.last
moved_comes old new left moved =
    (prepend_known-read (coming old left) left old.bytes new.bytes new.last ⊥ (Keeps-refl (coming old left))
    moved.bytes (λ no. absurd no)).0

pub within_moved : (old new : ReaderState) → Within old → Moved old new → Within new
within_moved old new w moved =
    let size = ap (λ (l : List ℕ). length l) moved.bytes ∙ length-append new.last new.bytes in record {
      near = omega (arith, size, w.near);
      in_limit = moved.in_limit;
      one_past = omega (arith, size, w.one_past, moved.passed, moved.limit);
    }

pub still_moved : (over : Bool) (old new : ReaderState) → Within old → Moved old new → still new over < still old over
still_moved over old new w moved =
    let size = ap (λ (l : List ℕ). length l) moved.bytes ∙ length-append new.last new.bytes in
    omega (arith, size, moved.some, moved.passed, moved.limit, moved.in_limit, w.in_limit)

pub still_read : (over : Bool) (old new : ReaderState) → Within new → old.bytes ≡ [] → new.passed ≡ old.passed
    → new.limit ≡ old.limit → (over ≡ false → 0 < length new.bytes) → (over ≡ true → new.bytes ≡ [])
    → still new over < still old false
still_read true old new w none passed limit filled empty =
    let size = ap (λ (l : List ℕ). length l) none in
    let size' = ap (λ (l : List ℕ). length l) (empty refl) in
    omega (arith, size, size', passed, limit)
still_read false old new w none passed limit filled empty =
    let size = ap (λ (l : List ℕ). length l) none in
    omega (arith, size, filled refl, passed, limit, w.one_past, w.in_limit)

-- ---- a turn more

module _ {R K C F : Type 0} (m : Meaning R K C F) (Stands Stands' : List ℕ → List R → Type 0) (Job Job' : K → Type 0)
    (left before now now' : Option (List ℕ)) where
  module _ (old new : ReaderState) (source : Option (List ℕ))
      (p : Reached m Stands Job left (coming old source) before now old.passed) (moved : Moved old new) where
    pub moved_consumed : Consumes left (coming new source) (p.front ++ new.last)
    moved_consumed = Consumes-trans left (coming old source) (coming new source) p.front new.last p.consumed
        (moved_comes old new source moved)

    pub moved_size : length (p.front ++ new.last) ≡ new.passed
    moved_size = omega (arith, p.size, moved.passed, length-append p.front new.last)

    -- bytes were passed that decide nothing
    pub reached_part : Stands' (p.front ++ new.last) p.records
        → Reached m Stands' Job left (coming new source) before now new.passed
    reached_part stands = record {
      front = p.front ++ new.last;
      records = p.records;
      text = p.text;
      kept = p.kept;
      consumed = moved_consumed;
      size = moved_size;
      stands = stands;
      run = p.run;
      job = p.job;
      written = p.written;
    }

    -- a record was handed to the job
    pub reached_record : (r : R) → Stands' (p.front ++ new.last) (p.records ++ r ∷ [])
        → Goes (m.step p.kept r) Job' now now'
        → Reached m Stands' Job' left (coming new source) before now' new.passed
    reached_record r stands went = record {
      front = p.front ++ new.last;
      records = p.records ++ r ∷ [];
      text = p.text ++ went.text;
      kept = went.kept;
      consumed = moved_consumed;
      size = moved_size;
      stands = stands;
      run = runs-on m p.records r p.text p.kept p.run ∙ ap (adds p.text) went.step_is;
      job = went.stands;
      written = Appends-trans before now now' p.text went.text p.written went.written;
    }

  -- what was written was handed on, and the source was read
  pub reached_read : (old new : ReaderState) (source source' : Option (List ℕ))
      → (p : Reached m Stands Job left (coming old source) before now old.passed) → Stands' p.front p.records
      → Keeps now now' → Keeps (coming old source) (coming new source') → new.passed ≡ old.passed
      → Reached m Stands' Job left (coming new source') before now' new.passed
  reached_read old new source source' p stands keeps comes passed = record {
    front = p.front;
    records = p.records;
    text = p.text;
    kept = p.kept;
    consumed = Consumes-kept left (coming old source) (coming new source') p.front p.consumed comes;
    size = p.size ∙ sym passed;
    stands = stands;
    run = p.run;
    job = p.job;
    written = Appends-kept before now now' p.text p.written keeps;
  }

-- ---- the bytes taken

kept_comes : (k : ReaderState) (left : Option (List ℕ)) → Consumes (coming k left) left k.bytes
kept_comes k None = tt
kept_comes k (Some y) = refl

pub taken_at : (limit : ℕ) (k : ReaderState) (left source : Option (List ℕ)) (front : List ℕ)
    → Consumes left (coming k source) front → length front ≡ k.passed → Within k → k.limit ≡ limit
    → Taken limit left source front k.bytes
taken_at limit k left source front consumed size w same = record {
  consumed = Consumes-trans left (coming k source) source front k.bytes consumed (kept_comes k source);
  near = w.near;
  in_limit = omega (arith, size, w.in_limit, same);
  one_past = omega (arith, size, w.one_past, same);
}

pub taken_all : (limit : ℕ) (k : ReaderState) (left source : Option (List ℕ)) (front : List ℕ)
    → Consumes left (coming k source) front → length front ≡ k.passed → Within k → k.limit ≡ limit
    → k.bytes ≡ [] → IsAtEnd source → TakenAll limit left source front
taken_all limit k left source front consumed size w same none end = record {
  consumed = subst (λ l. Consumes left l front) (nothing_kept k source none) consumed;
  in_limit = omega (arith, size, w.in_limit, same);
  at_end = end;
}

pub taken_unread : (k : ReaderState) (left source : Option (List ℕ)) (front : List ℕ)
    → Consumes left (coming k source) front → k.bytes ≡ [] → Consumes left source front
taken_unread k left source front consumed none =
    subst (λ l. Consumes left l front) (nothing_kept k source none) consumed

pub taken_past : (limit : ℕ) (k : ReaderState) (left source : Option (List ℕ)) (front : List ℕ)
    → Consumes left (coming k source) front → length front ≡ k.passed → Within k → k.limit ≡ limit
    → k.passed ≡ k.limit → 0 < length k.bytes → TakenPast limit left source front k.bytes
taken_past limit k left source front consumed size w same full more = record {
  consumed = Consumes-trans left (coming k source) source front k.bytes consumed (kept_comes k source);
  full = size ∙ full ∙ same;
  past = omega (arith, w.one_past, full, more);
}
