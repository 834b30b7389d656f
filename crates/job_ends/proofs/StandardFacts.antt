-- The definitions, computed on small runs.
use Rattle.std.proofs.Common.{◌≡◌, ℕ, ◌==◌, if◌then◌else◌, [], ◌∷◌, refl}
use Rattle.job_loop.specs.Meaning.{going, broke, outcome}
use Rattle.job_loop.specs.declared.input_end.InputEnd.TheVariants.{Closed, Cut, Past}
use Rattle.job_loop.specs.declared.ending.Ending.TheVariants as loop
use Rattle.opus_words.specs.declared.ending.Ending.TheVariants.{ReadFault, WriteFault, NoMemory}
use Rattle.job_ends.specs.declared.refusal.Refusal.{Refusal}
use Rattle.job_ends.specs.Refusal.{told, refusal_of}
use Rattle.job_ends.specs.Ends.{TellsEnding}
use Rattle.job_ends.specs.Each.{Made, writes, refuses, each}

-- of a number the record's own number and it; 13 is refused at place 7, for reason 1
abbrev numbered : ℕ → ℕ → Made ℕ
numbered number n = if n == 13 then refuses 7 1 else writes (number ∷ n ∷ [])

-- a cut is refused for reason 2
abbrev cut : ℕ → ℕ → Refusal ℕ
cut number place = refusal_of number place 2

all_are_written : outcome (each cut numbered) (5 ∷ 6 ∷ []) Closed ≡ going (0 ∷ 5 ∷ 1 ∷ 6 ∷ []) tt
all_are_written = refl

-- nothing behind a refused record is written
one_is_refused : outcome (each cut numbered) (5 ∷ 13 ∷ 6 ∷ []) Closed
    ≡ broke (0 ∷ 5 ∷ []) (record { index = 1; place = 7; why = 1 })
one_is_refused = refl

a_cut_is_refused : outcome (each cut numbered) (5 ∷ 6 ∷ []) (Cut 9)
    ≡ broke (0 ∷ 5 ∷ 1 ∷ 6 ∷ []) (record { index = 2; place = 9; why = 2 })
a_cut_is_refused = refl

the_limit_adds_nothing : outcome (each cut numbered) (5 ∷ []) Past ≡ going (0 ∷ 5 ∷ []) tt
the_limit_adds_nothing = refl

-- numbers are told as they are, up to the greatest of 64 bits
small_is_told : told 8 ≡ 8
small_is_told = refl

great_is_told : told 18446744073709551616 ≡ 18446744073709551615
great_is_told = refl

-- a read fault is told as one, and as no other ending
read_fault_is_told : TellsEnding {F = ℕ} (λ fault r. ⊥) ReadFault loop.ReadFault
read_fault_is_told = tt

read_fault_is_no_write_fault : TellsEnding {F = ℕ} (λ fault r. ⊥) WriteFault loop.ReadFault → ⊥
read_fault_is_no_write_fault never = never

want_is_no_end : TellsEnding {F = ℕ} (λ fault r. ⊥) NoMemory loop.Ok → ⊥
want_is_no_end never = never
