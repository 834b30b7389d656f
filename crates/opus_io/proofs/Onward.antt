-- Steps of a sink that goes on to another one.
use Rattle.std.proofs.Common.{ℕ, List, [], ◌++◌, refl, ◌∙◌}
use Rattle.std.specs.declared.option.Option.{Option}
use Rattle.std.proofs.KnownBytes.{Appends-nil, Appends-trans}
use Rattle.opus_io.specs.Sink.{Onward}

-- nothing was written
pub Onward-still : (n : ℕ) (a : Option (List ℕ)) → Onward n n a a
Onward-still n a = record { same = refl; grew = ([], Appends-nil a) }

-- two steps are one
pub Onward-trans : (n m o : ℕ) (a b c : Option (List ℕ)) → Onward n m a b → Onward m o b c → Onward n o a c
Onward-trans n m o a b c p q = record {
  same = q.same ∙ p.same;
  grew = (p.grew.0 ++ q.grew.0, Appends-trans a b c p.grew.0 q.grew.0 p.grew.1 q.grew.1);
}
