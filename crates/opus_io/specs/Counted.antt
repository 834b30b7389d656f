-- What a clause reads of a reader or a writer of std with a count of its errors.
use Rattle.std.specs.Prelude.{ℕ}
use Rattle.opus_io.specs.declared.counted.Counted.{Counted}

-- the reader or the writer inside
abbrev pub inner_of : {T : Type 0} → Counted T → T
inner_of s = s.inner

-- how many errors it gave, up to 2^64 - 1
abbrev pub errors_of : {T : Type 0} → Counted T → ℕ
errors_of s = s.errors
