-- A run that ended before it began; and causes of want of memory.
use Rattle.std.proofs.Common.{◌⊎◌, ℕ, List, [], Bool, Option, None, Some, IfSome, inl, inr, refl, arith}
use Rattle.std.proofs.KnownBytes.{Consumes-nil}
use Rattle.opus_io.specs.Cause.{Rose}
use Rattle.opus_io.specs.Outside.{Outside}
use Rattle.job_loop.specs.Causes.{Causes, is_write_fault, is_no_memory}
use Rattle.job_loop.specs.Meaning.{Meaning}
use Rattle.job_loop.specs.declared.ending.Ending.TheVariants as endings
use Rattle.job_loop.proofs.InnerLemmas.{unstarted}
use Rattle.opus_words.specs.declared.ending.Ending.{Ending}
use Rattle.opus_words.specs.declared.ending.Ending.TheVariants.{NoMemory}
use Rattle.opus_words.specs.declared.ending.JobFault.{JobFault}
use Rattle.job_ends.specs.Ends.{MeaningEnds}

-- want of memory has fewer causes than was said
pub fewer_causes : (write memory : Bool) (A B : Type 0) (f f' r r' : ℕ) → (A → B)
    → Causes write memory A f f' r r' → Causes write memory B f f' r r'
fewer_causes write memory A B f f' r r' to c = record {
  written = c.written;
  later = c.later;
  wanted = λ is. wanted_as A B (Rose r r') to (c.wanted is);
} where
  wanted_as : (A B R : Type 0) → (A → B) → A ⊎ R → B ⊎ R
  wanted_as A B R to (inl a) = inl (to a)
  wanted_as A B R to (inr rose) = inr rose

-- a run whose want of memory is said to have other causes
pub ends_wanting : {R K C F : Type 0} → (Tells : JobFault → F → Type 0) (place : R → ℕ) (m : Meaning R K C F)
    (Settles : List ℕ → List R → Type 0) (Ends : List ℕ → List R → Option C → Type 0) (limit : ℕ) (before after : Outside)
    (A B : Type 0) (result : Ending) → (A → B) → MeaningEnds Tells place m Settles Ends limit before after A result
    → MeaningEnds Tells place m Settles Ends limit before after B result
ends_wanting Tells place m Settles Ends limit before after A B result to ends = (
  ends.0,
  ends.1,
  record {
    ran = ends.2.ran;
    judged = ends.2.judged;
    taken = ends.2.taken;
    read = ends.2.read;
    cause = fewer_causes (is_write_fault ends.0) (is_no_memory ends.0) A B before.writes after.writes before.refusals
        after.refusals to ends.2.cause;
  },
)

-- memory ran out before the first read

known : (left : Option (List ℕ)) (P : List ℕ → Type 0) → ((x : List ℕ) → P x) → IfSome left P
known None P all = tt
known (Some x) P all = all x

pub unstarted_ends : {R K C F : Type 0} → (Tells : JobFault → F → Type 0) (place : R → ℕ) (m : Meaning R K C F)
    (Settles : List ℕ → List R → Type 0) (Ends : List ℕ → List R → Option C → Type 0) (limit : ℕ) (outside : Outside)
    (Wanted : Type 0) → Wanted → Settles [] []
    → MeaningEnds Tells place m Settles Ends limit outside outside Wanted NoMemory
unstarted_ends Tells place m Settles Ends limit outside Wanted wanted settled = (
  endings.NoMemory,
  tt,
  record {
    ran = unstarted m Settles Ends place limit outside.left outside.contents settled;
    judged = known outside.left _ (λ x rs end reads. tt);
    taken = ([], omega arith, Consumes-nil outside.left);
    read = refl;
    cause = record { written = refl; later = omega arith; wanted = λ is. inl wanted };
  },
)
