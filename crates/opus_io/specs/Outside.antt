-- The outside of a run, as its clauses see it.
use Rattle.std.specs.Prelude.{ℕ, List}
use Rattle.std.specs.declared.option.Option.{Option}

-- What the source has left and how many of its reads failed; what the sink holds, how many of its writes failed and
-- how many found no memory. Bytes are told where source and sink tell them.
pub record Outside : Type 0 where
  pub left : Option (List ℕ)
  pub reads : ℕ
  pub contents : Option (List ℕ)
  pub writes : ℕ
  pub refusals : ℕ
