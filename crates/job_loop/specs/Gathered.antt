-- What a clause reads of the gathered sink.
use Rattle.std.specs.Prelude.{ℕ, List, slice_range}
use Rattle.job_loop.specs.declared.gathered.Gathered.{Gathered}

-- the bytes that it keeps back
abbrev pub held_in : {O : Type 0} → Gathered O → List ℕ
held_in g = slice_range g.buffer.items g.start g.end

-- the sink that it goes on to, as it stands
abbrev pub inner_sink : {O : Type 0} → Gathered O → O
inner_sink g = g.inner.now

-- which borrowed sink that is
abbrev pub inner_name : {O : Type 0} → Gathered O → ℕ
inner_name g = g.inner.ghost_name
