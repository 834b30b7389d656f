-- Counts from the start of a run on.
use Rattle.std.proofs.Common.{◌⊎◌, ℕ, Bool, inl, inr}
use Rattle.opus_io.specs.Cause.{Rose}
use Rattle.job_loop.specs.Causes.{Causes}

more_reasons : (P Q A : Type 0) → P ⊎ A → (P ⊎ Q) ⊎ A
more_reasons P Q A (inl p) = inl (inl p)
more_reasons P Q A (inr a) = inr a

-- one more reason for want of memory
pub reason_longer : (write memory : Bool) (Reason More : Type 0) (f f' r r' : ℕ) → Causes write memory Reason f f' r r'
    → Causes write memory (Reason ⊎ More) f f' r r'
reason_longer write memory Reason More f f' r r' c = record {
  written = c.written;
  later = c.later;
  wanted = λ is. more_reasons Reason More (Rose r r') (c.wanted is);
}
