-- From the bytes taken to the whole input.
use Rattle.std.proofs.Common.{◌≡◌, ℕ, ◌+◌, ◌-◌, ◌<◌, ◌≤◌, List, [], ◌∷◌, ◌++◌, Option, None, Some, IfSome, length, take, inl, inr, refl, sym, ap, ◌∙◌, subst, length-append, append-nil, append_assoc, arith}
use Rattle.std.proofs.lemmas.List.{append_cancel_left, nil_from_length}
use Rattle.std.proofs.Math.Seq.{take-append_seam, take-append-add}
use Rattle.std.specs.Io.KnownBytes.{Consumes}
use Rattle.job_loop.specs.declared.input_end.InputEnd.{InputEnd}
use Rattle.job_loop.specs.declared.input_end.InputEnd.TheVariants.{Closed, Cut, Past}
use Rattle.job_loop.specs.declared.ending.Ending.{Ending}
use Rattle.job_loop.specs.declared.ending.Ending.TheVariants as endings
use Rattle.job_loop.specs.Meaning.{Meaning, broke, runs, opened, closes, outcome, end_of}
use Rattle.job_loop.specs.Forms.{Begins}
use Rattle.job_loop.specs.Ran.{Taken, TakenAll, TakenPast, Ran, RanRefused, RanStopped}
use Rattle.job_loop.specs.Reading.{Reads, Answers, TakesAtMost}
use Rattle.job_loop.proofs.RunLemmas.{runs-append, runs-broke}
use Rattle.job_loop.proofs.EndLemmas.{end_within}

-- ---- how many bytes were taken

taken_most : (limit : ℕ) (left left' : Option (List ℕ)) (front behind : List ℕ) → Taken limit left left' front behind
    → TakesAtMost (limit + 1) left left'
taken_most limit left left' front behind t =
    (front ++ behind, omega (arith, t.one_past, length-append front behind), t.consumed)

taken_all_most : (limit : ℕ) (left left' : Option (List ℕ)) (input : List ℕ) → TakenAll limit left left' input
    → TakesAtMost (limit + 1) left left'
taken_all_most limit left left' input t = (input, omega (arith, t.in_limit), t.consumed)

taken_past_most : (limit : ℕ) (left left' : Option (List ℕ)) (front behind : List ℕ)
    → TakenPast limit left left' front behind → TakesAtMost (limit + 1) left left'
taken_past_most limit left left' front behind t =
    (front ++ behind, omega (arith, t.full, t.past, length-append front behind), t.consumed)

-- ---- the whole input

no_more : {R : Type 0} → (xs ys : List R) → xs ≡ xs ++ ys → ys ≡ []
no_more xs ys is = append_cancel_left xs ys [] (sym is ∙ sym (append-nil xs))

-- each begins with the other one
pub both : {R : Type 0} → {rs ss : List R} → Begins rs ss → Begins ss rs → rs ≡ ss
both {R} {rs} {ss} a b =
    let more : rs ≡ rs ++ (a.0 ++ b.0) = b.1 ∙ ap (λ l. l ++ b.0) a.1 ∙ append_assoc rs a.0 b.0 in
    let none : length (a.0 ++ b.0) ≡ 0 = ap (λ (l : List R). length l) (no_more rs (a.0 ++ b.0) more) in
    let first : a.0 ≡ [] = nil_from_length a.0 (omega (arith, none, length-append a.0 b.0)) in
    sym (a.1 ∙ ap (λ l. rs ++ l) first ∙ append-nil rs)

all_of : (limit : ℕ) (x : List ℕ) (left' : Option (List ℕ)) (input : List ℕ) → TakenAll limit (Some x) left' input
    → x ≡ input
all_of limit x None input t = absurd t.consumed
all_of limit x (Some y) input t = t.consumed ∙ ap (λ l. input ++ l) t.at_end ∙ append-nil input

rest_of : (x : List ℕ) (left' : Option (List ℕ)) (taken : List ℕ) → Consumes (Some x) left' taken
    → (rest : List ℕ) × (x ≡ taken ++ rest)
rest_of x None taken went = absurd went
rest_of x (Some y) taken went = (y, went)

past_of : (limit : ℕ) (x : List ℕ) (left' : Option (List ℕ)) (front behind : List ℕ)
    → TakenPast limit (Some x) left' front behind → (take limit x ≡ front) × (limit < length x)
past_of limit x left' front behind t =
    let rest = rest_of x left' (front ++ behind) t.consumed in
    let parts : x ≡ front ++ (behind ++ rest.0) = rest.1 ∙ append_assoc front behind rest.0 in (
      ap (λ n. take n x) (sym t.full) ∙ ap (take (length front)) parts ∙ take-append_seam front (behind ++ rest.0),
      omega (
        arith,
        t.full,
        t.past,
        ap (λ (l : List ℕ). length l) parts,
        length-append front (behind ++ rest.0),
        length-append behind rest.0,
      ),
    )

module _ {R K C F : Type 0} (m : Meaning R K C F) (Settles : List ℕ → List R → Type 0)
    (Ends : List ℕ → List R → Option C → Type 0) (place : R → ℕ) (limit : ℕ) where
  -- the form's laws
  abbrev pub Grows : Type 0
  Grows = (h more : List ℕ) (rs ss : List R) → Settles h rs → Settles (h ++ more) ss → Begins rs ss

  abbrev pub EndsGrow : Type 0
  EndsGrow = (h more : List ℕ) (rs ss : List R) (cut : Option C) → Settles h rs → Ends (h ++ more) ss cut → Begins rs ss

  abbrev pub EndsOnce : Type 0
  EndsOnce = (h : List ℕ) (rs ss : List R) (a b : Option C) → Ends h rs a → Ends h ss b → (rs ≡ ss) × (a ≡ b)

  -- what is refused stays refused, whatever comes behind it
  pub refused_on : (text : List ℕ) (f : F) (rs ss : List R) (end : InputEnd C) → runs m (opened m) rs ≡ broke text f
      → Begins rs ss → outcome m ss end ≡ broke text f
  refused_on text f rs ss end run begins =
      ap (closes m end) (ap (runs m (opened m)) begins.1 ∙ runs-append m (opened m) rs begins.0
      ∙ ap (λ run. runs m run begins.0) run ∙ runs-broke m text f begins.0)

  -- records of a whole input that ends within the limit
  reads_within : (x : List ℕ) (rs : List R) (end : InputEnd C) → Reads Settles Ends limit x rs end
      → length x ≤ limit → (cut : Option C) × Ends x rs cut × (end_of cut ≡ end)
  reads_within x rs Closed reads short = (None, reads.1, refl)
  reads_within x rs (Cut c) reads short = (Some c, reads.1, refl)
  reads_within x rs Past reads short = absurd (omega (arith, reads.0, short))

  reads_past : (x : List ℕ) (rs : List R) (end : InputEnd C) → Reads Settles Ends limit x rs end
      → limit < length x → Settles (take limit x) rs × (end ≡ Past)
  reads_past x rs Closed reads long = absurd (omega (arith, reads.0, long))
  reads_past x rs (Cut c) reads long = absurd (omega (arith, reads.0, long))
  reads_past x rs Past reads long = (reads.1, refl)

  module _ (once : EndsOnce) (grows : Grows) (ends_grow : EndsGrow) where
    -- one front settles one list of records
    pub settles_once : (h : List ℕ) (rs ss : List R) → Settles h rs → Settles h ss → rs ≡ ss
    settles_once h rs ss a b = both (grows h [] rs ss a (subst (λ h. Settles h ss) (sym (append-nil h)) b))
        (grows h [] ss rs b (subst (λ h. Settles h rs) (sym (append-nil h)) a))

    whole_same : (x : List ℕ) (left' : Option (List ℕ)) (input : List ℕ) (records rs : List R) (cut : Option C)
        (end : InputEnd C) → TakenAll limit (Some x) left' input → Ends input records cut
        → Reads Settles Ends limit x rs end → outcome m records (end_of cut) ≡ outcome m rs end
    whole_same x left' input records rs cut end t ends reads =
        let all = all_of limit x left' input t in
        let r = reads_within x rs end reads (omega (arith, t.in_limit, ap (λ (l : List ℕ). length l) all)) in
        let same = once input records rs cut r.0 ends (subst (λ l. Ends l rs r.0) all r.1) in
        ap (λ rs. outcome m rs (end_of cut)) same.0 ∙ ap (outcome m rs) (ap end_of same.1 ∙ r.2)

    whole_end : (x : List ℕ) (left' : Option (List ℕ)) (input : List ℕ) (rs : List R) (end : InputEnd C)
        → TakenAll limit (Some x) left' input → Reads Settles Ends limit x rs end → end ≡ Past → ⊥
    whole_end x left' input rs end t reads past =
        let all = all_of limit x left' input t in
        let r = reads_within x rs end reads (omega (arith, t.in_limit, ap (λ (l : List ℕ). length l) all)) in
        end_within r.0 (r.2 ∙ past)

    past_same : (x : List ℕ) (left' : Option (List ℕ)) (front behind : List ℕ) (records rs : List R)
        (end : InputEnd C) → TakenPast limit (Some x) left' front behind → Settles front records
        → Reads Settles Ends limit x rs end → (outcome m records Past ≡ outcome m rs end) × (end ≡ Past)
    past_same x left' front behind records rs end t settled reads =
        let part = past_of limit x left' front behind t in
        let r = reads_past x rs end reads part.1 in
        let same = settles_once front records rs settled (subst (λ h. Settles h rs) part.0 r.0) in
        (ap (λ rs. outcome m rs Past) same ∙ ap (outcome m rs) (sym r.1), r.1)

    at_begins : (x : List ℕ) (left' : Option (List ℕ)) (front behind : List ℕ) (records rs : List R)
        (end : InputEnd C) → Taken limit (Some x) left' front behind → Settles front records
        → Reads Settles Ends limit x rs end → Begins records rs
    at_begins x left' front behind records rs Closed t settled reads =
        let rest = rest_of x left' (front ++ behind) t.consumed in
        ends_grow front (behind ++ rest.0) records rs None settled
        (subst (λ l. Ends l rs None) (rest.1 ∙ append_assoc front behind rest.0) reads.1)
    at_begins x left' front behind records rs (Cut c) t settled reads =
        let rest = rest_of x left' (front ++ behind) t.consumed in
        ends_grow front (behind ++ rest.0) records rs (Some c) settled
        (subst (λ l. Ends l rs (Some c)) (rest.1 ∙ append_assoc front behind rest.0) reads.1)
    at_begins x left' front behind records rs Past t settled reads =
        let rest = rest_of x left' (front ++ behind) t.consumed in
        let n = limit - length front in
        let size : limit ≡ length front + n = omega (arith, t.in_limit) in
        grows front (take n (behind ++ rest.0)) records rs settled
        (subst (λ l. Settles l rs) (ap (λ k. take k x) size
        ∙ ap (take (length front + n)) (rest.1 ∙ append_assoc front behind rest.0)
        ∙ take-append-add front (behind ++ rest.0) n) reads.1)

    judged_refused : (x : List ℕ) (left' old new : Option (List ℕ)) (held : List ℕ) (f : F) (rs : List R)
        (end : InputEnd C) → RanRefused m Settles Ends place limit (Some x) left' old new held f
        → Reads Settles Ends limit x rs end → Answers (endings.Refused f) end (outcome m rs end) old new
    judged_refused x left' old new held f rs end (inl r) reads = (
      r.text,
      refused_on r.text f (r.records ++ r.last ∷ []) rs end r.run
          (at_begins x left' r.front r.behind (r.records ++ r.last ∷ []) rs end r.taken r.settled reads),
      r.written,
    )
    judged_refused x left' old new held f rs end (inr (inl r)) reads =
        (r.text, sym (whole_same x left' r.input r.records rs r.cut end r.taken r.ends reads) ∙ r.closed, r.written)
    judged_refused x left' old new held f rs end (inr (inr r)) reads =
        (r.text, sym (past_same x left' r.front r.behind r.records rs end r.taken r.settled reads).0 ∙ r.closed, r.written)

    -- the answer is that of the whole input
    pub judged : (x : List ℕ) (left' old new : Option (List ℕ)) (held : List ℕ) (e : Ending F) (rs : List R)
        (end : InputEnd C) → Ran m Settles Ends place limit (Some x) left' old new held e
        → Reads Settles Ends limit x rs end → Answers e end (outcome m rs end) old new
    judged x left' old new held endings.Ok rs end r reads = (
      r.text,
      sym (whole_same x left' r.input r.records rs r.cut end r.taken r.ends reads) ∙ r.closed,
      whole_end x left' r.input rs end r.taken reads,
      r.written,
    )
    judged x left' old new held (endings.Refused f) rs end r reads =
        judged_refused x left' old new held f rs end r reads
    judged x left' old new held endings.ReadFault rs end r reads = tt
    judged x left' old new held endings.WriteFault rs end r reads = tt
    judged x left' old new held endings.InputLimit rs end r reads =
        let same = past_same x left' r.front r.behind r.records rs end r.taken r.settled reads in
        (r.text, sym same.0 ∙ r.closed, same.1, r.written)
    judged x left' old new held endings.NoMemory rs end r reads = tt

    pub judged_known : (left left' old new : Option (List ℕ)) (held : List ℕ) (e : Ending F)
        → Ran m Settles Ends place limit left left' old new held e
        → IfSome left (λ x. (rs : List R) (end : InputEnd C) → Reads Settles Ends limit x rs end
        → Answers e end (outcome m rs end) old new)
    judged_known None left' old new held e r = tt
    judged_known (Some x) left' old new held e r = λ rs end reads. judged x left' old new held e rs end r reads

  module _ (left left' old new : Option (List ℕ)) (held : List ℕ) where
    refused_taken : (f : F) → RanRefused m Settles Ends place limit left left' old new held f
        → TakesAtMost (limit + 1) left left'
    refused_taken f (inl r) = taken_most limit left left' r.front r.behind r.taken
    refused_taken f (inr (inl r)) = taken_all_most limit left left' r.input r.taken
    refused_taken f (inr (inr r)) = taken_past_most limit left left' r.front r.behind r.taken

    stopped_taken : RanStopped m Settles Ends place limit left left' old new held → TakesAtMost (limit + 1) left left'
    stopped_taken (inl r) = taken_most limit left left' r.front r.behind r.taken
    stopped_taken (inr (inl r)) = taken_all_most limit left left' r.input r.taken
    stopped_taken (inr (inr r)) = taken_past_most limit left left' r.front r.behind r.taken

    -- never more than one byte past the limit
    pub ran_taken : (e : Ending F) → Ran m Settles Ends place limit left left' old new held e
        → TakesAtMost (limit + 1) left left'
    ran_taken endings.Ok r = taken_all_most limit left left' r.input r.taken
    ran_taken (endings.Refused f) r = refused_taken f r
    ran_taken endings.ReadFault r = (r.front, omega (arith, r.in_limit), r.consumed)
    ran_taken endings.WriteFault r = stopped_taken r
    ran_taken endings.InputLimit r = taken_past_most limit left left' r.front r.behind r.taken
    ran_taken endings.NoMemory r = stopped_taken r
