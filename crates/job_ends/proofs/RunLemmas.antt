-- What is taken out of an equation of runs.
use Rattle.std.proofs.Common.{◌≡◌, List, ℕ, ap}
use Rattle.job_loop.specs.Meaning.{Run, going, broke, run_text}

pub going-text : {K F : Type 0} → (a b : List ℕ) (k l : K) → ◌≡◌ {A = Run K F} (going a k) (going b l) → a ≡ b
going-text a b k l e = ap run_text e

pub going≢broke : {K F : Type 0} → (a b : List ℕ) (k : K) (f : F) → going a k ≡ broke b f → ⊥
going≢broke a b k f e = cc
