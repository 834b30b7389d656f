-- What is kept of an input that is one record.
use Rattle.std.proofs.Common.{◌≡◌, ◌⊎◌, ℕ, ◌-◌, ◌<◌, ◌≤◌, List, ◌++◌, length, take, min, inl, inr, refl, sym, ap, ◌∙◌, subst, append-nil, length-take, arith}
use Rattle.std.proofs.lemmas.Bool.{cases_lt}
use Rattle.std.proofs.lemmas.List.{take_all, take_min, take-append-le}
use Rattle.std.proofs.Math.Seq.{take-length, take-append-add}
use Rattle.job_loop.specs.Shown.{Shown}
use Rattle.opus_head.specs.HeadValue.{AreBytes}
use Rattle.opus_io.proofs.BytesLemmas.{AreBytes-append}
use Rattle.opuspack.specs.declared.whole.WholeInput.{WholeInput}
use Rattle.opuspack.specs.Whole.{kept_most, WholeStands}

pub kept_most-is : kept_most ≡ 115792
unfolding kept_most
kept_most-is = refl

take_least : (n : ℕ) (xs : List ℕ) → take (min (length xs) n) xs ≡ take n xs
take_least n xs = ap (λ k. take k xs) (omega arith) ∙ take_min n xs

more_by : (most : ℕ) (h piece : List ℕ) → (length h < most) ⊎ (most ≤ length h)
    → take most h ++ take (most - length (take most h)) piece ≡ take most (h ++ piece)
more_by most h piece (inl short) =
    let n = most - length h in
    let all : take most h ≡ h = take_all most h (omega arith) in
    ap (λ l. l ++ take (most - length l) piece) all ∙ sym (take-append-add h piece n)
    ∙ ap (λ k. take k (h ++ piece)) (omega arith)
more_by most h piece (inr full) =
    let none : most - length (take most h) ≡ 0 = omega (arith, length-take most h) in
    ap (λ k. take most h ++ take k piece) none ∙ append-nil (take most h) ∙ sym (take-append-le most h piece full)

kept_more : (most : ℕ) (h piece kept : List ℕ) → kept ≡ take most h
    → kept ++ take (min (length piece) (most - length kept)) piece ≡ take most (h ++ piece)
kept_more most h piece kept is =
    ap (λ l. kept ++ l) (take_least (most - length kept) piece)
    ∙ ap (λ l. l ++ take (most - length l) piece) is ∙ more_by most h piece (cases_lt (length h) most)

pub whole_fed : (h piece kept kept' : List ℕ) (rs : List (Shown WholeInput)) (count : ℕ) → WholeStands kept h rs → AreBytes piece
    → count ≡ min (length piece) (115792 - length kept) → kept' ≡ kept ++ take count piece
    → WholeStands kept' (h ++ take (length piece) piece) rs
whole_fed h piece kept kept' rs count stands bytes count_is new_is =
    let all : h ++ take (length piece) piece ≡ h ++ piece = ap (λ l. h ++ l) (take-length piece) in
    subst (λ l. WholeStands kept' l rs) (sym all) (record {
      settles = record {
        are_bytes = AreBytes-append h piece stands.settles.are_bytes bytes;
        records_are = stands.settles.records_are;
      };
      kept_are = new_is ∙ ap (λ n. kept ++ take n piece) count_is
          ∙ ap (λ m. kept ++ take (min (length piece) (m - length kept)) piece) (sym kept_most-is)
          ∙ kept_more kept_most h piece kept stands.kept_are;
    })
