-- What is kept of an input tells all that its bytes do.
use Rattle.std.proofs.Common.{◌≡◌, ◌⊎◌, ℕ, ◌≤◌, ◌<◌, List, [], ◌∷◌, ◌++◌, length, take, drop, Option, Some, inl, inr, refl, sym, ap, ◌∙◌, subst, append-nil, take-append-drop, length-take, arith}
use Rattle.std.proofs.lemmas.Bool.{cases_lt}
use Rattle.std.proofs.lemmas.List.{take_all}
use Rattle.job_loop.specs.Shown.{Shown}
use Rattle.job_loop.specs.Meaning.{Step, goes, stops, going, broke, adds, closes, outcome, end_of}
use Rattle.job_loop.specs.declared.input_end.InputEnd.TheVariants.{Closed, Past}
use Rattle.opus_head.specs.HeadValue.{HeadValue, AreBytes}
use Rattle.opus_head.specs.HeadBytes.{IsOpusHead}
use Rattle.opus_head.specs.HeadFault.{head_fault, fault_place}
use Rattle.opus_head.specs.declared.fault.HeadFault.{HeadFault}
use Rattle.opus_head.specs.declared.fault.HeadFault.TheVariants.{Magic, Cut, Version, Channels, Streams, Coupled, MapByte, Extra, NoMemory}
use Rattle.opus_head.proofs.LongerLemmas.{front-of, head_size-same, head_fault-longer}
use Rattle.opus_head.proofs.LongerHeadLemmas.{head-longer}
use Rattle.opus_io.proofs.BytesLemmas.{AreBytes-take}
use Rattle.opuspack.specs.declared.head.HeadRefusal.{HeadRefusal}
use Rattle.opuspack.specs.declared.never.Never.{Never}
use Rattle.opuspack.specs.declared.whole.WholeInput.{WholeInput}
use Rattle.opuspack.specs.Whole.{kept_most, whole_record, WholeSettles, WholeEnds}
use Rattle.opuspack.specs.HeadLines.{head_lines}
use Rattle.opuspack.specs.Head.{head, head_refusal, head_step}
use Rattle.opuspack.proofs.HeadLemmas.{head_told}
use Rattle.opuspack.proofs.WholeLemmas.{kept_most-is}

-- what follows the table isn't told
same_lines : (h : HeadValue) (extra : List ℕ) → head_lines (record h { extra = extra }) ≡ head_lines h
unfolding head_lines
same_lines h extra = refl

same_place : (f : HeadFault) (b more : List ℕ) → AreBytes b → 115792 ≤ length b → fault_place b f ≡ fault_place (b ++ more) f
same_place (Magic place) b more are long = refl
same_place (Cut place) b more are long = refl
same_place Version b more are long = refl
same_place Channels b more are long = refl
same_place Streams b more are long = refl
same_place Coupled b more are long = refl
same_place (MapByte channel) b more are long = refl
same_place Extra b more are long = sym (head_size-same b (b ++ more) (front-of b more are long))
same_place NoMemory b more are long = refl

-- the kept bytes are all, or as many as the largest table has and one more
record IsKeptOf (b x : List ℕ) : Type 0 where
  more : List ℕ
  parts : b ++ more ≡ x
  are : AreBytes b
  enough : (more ≡ []) ⊎ (115792 ≤ length b)

kept_by : (x : List ℕ) → AreBytes x → (length x < kept_most) ⊎ (kept_most ≤ length x) → IsKeptOf (take kept_most x) x
kept_by x are (inl short) =
    let all : take kept_most x ≡ x = take_all kept_most x (omega arith) in
    record { more = []; parts = append-nil (take kept_most x) ∙ all; are = AreBytes-take kept_most x are; enough = inl refl }
kept_by x are (inr long) = record {
  more = drop kept_most x;
  parts = take-append-drop kept_most x;
  are = AreBytes-take kept_most x are;
  enough = inr (omega (arith, length-take kept_most x, kept_most-is));
}

kept_told : (h : HeadValue) (b more : List ℕ) → AreBytes b → (more ≡ []) ⊎ (115792 ≤ length b) → IsOpusHead h (b ++ more)
    → head_step b (head_fault b) ≡ goes (head_lines h) tt
kept_told h b more are (inl none) is =
    head_told h b (subst (IsOpusHead h) (ap (λ l. b ++ l) none ∙ append-nil b) is)
kept_told h b more are (inr long) is =
    let shorter = head-longer h b more are long is in
    head_told (record h { extra = shorter.0 }) b shorter.1 ∙ ap (λ t. goes t tt) (same_lines h shorter.0)

kept_refused : (f : HeadFault) (b more : List ℕ) → AreBytes b → (more ≡ []) ⊎ (115792 ≤ length b)
    → head_fault (b ++ more) ≡ Some f → head_step b (head_fault b) ≡ stops [] (head_refusal (b ++ more) f)
kept_refused f b more are (inl none) is =
    let all : b ++ more ≡ b = ap (λ l. b ++ l) none ∙ append-nil b in
    ap (head_step b) (ap head_fault (sym all) ∙ is) ∙ ap (λ l. stops [] (head_refusal l f)) (sym all)
kept_refused f b more are (inr long) is =
    ap (head_step b) (sym (head_fault-longer b more are long) ∙ is)
    ∙ ap (λ place. stops [] (record { place = place; fault = f })) (same_place f b more are long)

-- ---- the outcome

outcome_of : (r : Shown WholeInput) (step : Step (Unit {0}) HeadRefusal) → head_step r.bytes (head_fault r.bytes) ≡ step
    → outcome head (r ∷ []) Closed ≡ closes head Closed (adds [] step)
outcome_of r step is = ap (λ s. closes head Closed (adds [] s)) is

of_whole : (x : List ℕ) (rs : List (Shown WholeInput)) (cut : Option Never) → WholeEnds x rs cut
    → outcome head rs (end_of cut) ≡ outcome head (whole_record x ∷ []) Closed
of_whole x rs cut ends =
    ap (λ l. outcome head l (end_of cut)) ends.records_are
    ∙ ap (λ c. outcome head (whole_record x ∷ []) (end_of c)) ends.cut_is

pub whole_told : (h : HeadValue) (x : List ℕ) (rs : List (Shown WholeInput)) (cut : Option Never) → WholeEnds x rs cut
    → IsOpusHead h x → outcome head rs (end_of cut) ≡ going (head_lines h) tt
whole_told h x rs cut ends is =
    let k = kept_by x ends.are_bytes (cases_lt (length x) kept_most) in
    let step = kept_told h (take kept_most x) k.more k.are k.enough (subst (IsOpusHead h) (sym k.parts) is) in
    of_whole x rs cut ends ∙ outcome_of (whole_record x) (goes (head_lines h) tt) step
    ∙ ap (λ t. going t tt) (append-nil (head_lines h))

pub whole_refused : (f : HeadFault) (x : List ℕ) (rs : List (Shown WholeInput)) (cut : Option Never) → WholeEnds x rs cut
    → head_fault x ≡ Some f → outcome head rs (end_of cut) ≡ broke [] (head_refusal x f)
whole_refused f x rs cut ends is =
    let k = kept_by x ends.are_bytes (cases_lt (length x) kept_most) in
    let step = kept_refused f (take kept_most x) k.more k.are k.enough (ap head_fault k.parts ∙ is) in
    of_whole x rs cut ends
    ∙ outcome_of (whole_record x) (stops [] (head_refusal (take kept_most x ++ k.more) f)) step
    ∙ ap (λ l. broke [] (head_refusal l f)) k.parts

pub nothing_past : (front : List ℕ) (rs : List (Shown WholeInput)) → WholeSettles front rs → outcome head rs Past ≡ going [] tt
nothing_past front rs settles = ap (λ l. outcome head l Past) settles.records_are
