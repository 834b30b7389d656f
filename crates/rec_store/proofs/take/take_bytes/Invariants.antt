use Rattle.std.proofs.Common.{◌≡◌, ℕ, ◌+◌, ◌-◌, ◌≤◌, List, ◌++◌, length}
use Rattle.opus_io.specs.Reader.{ReaderState}
use Rattle.std.specs.declared.option.Option.{Option}
use Rattle.rec_store.specs.DumpStore.{AreBytes}
use Rattle.rec_store.proofs.TakeLemmas.{Begun}
use Rattle.rec_store.proofs.take.take_bytes.Given as goal

-- these bytes were taken behind those that stood there
pub record Behind (before now : List ℕ) (old new : ReaderState) (left left' : Option (List ℕ)) : Type 0 where
  pub bytes : List ℕ
  pub items : now ≡ before ++ bytes
  pub are : AreBytes bytes
  pub begun : Begun old new left left' bytes

abbrev pub decreases-bytes : goal.decreases-bytes
decreases-bytes g l = l.most - length (g.R.Room.items l.into)

abbrev pub invariant-bytes : goal.invariant-bytes
invariant-bytes g l = record {
  behind : Behind (g.R.Room.items l.initial.into) (g.R.Room.items l.into) l.initial.input l.input
      (g.S.Source.left l.initial.source) (g.S.Source.left l.source);
  few : length (g.R.Room.items l.into) ≤ l.most;
  room : g.R.Room.size l.initial.into ≤ g.R.Room.size l.into;
  within : l.most ≤ length (g.R.Room.items l.into) → l.input.passed ≤ l.input.limit;
  untouched : l.most - length (g.R.Room.items l.initial.into) ≤ length l.initial.input.bytes
      → l.most - length (g.R.Room.items l.initial.into) ≤ l.initial.input.limit - l.initial.input.passed
      → (l.source ≡ l.initial.source)
      × (length l.input.bytes + length (g.R.Room.items l.into)
      ≡ length l.initial.input.bytes + length (g.R.Room.items l.initial.into));
  cause : g.S.Source.faults l.source ≡ g.S.Source.faults l.initial.source;
}
