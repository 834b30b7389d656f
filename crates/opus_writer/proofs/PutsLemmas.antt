-- Pieces that are written one behind another.
use Rattle.std.proofs.Common.{ℕ, ◌+◌, List, ◌++◌, length, take, Result, Ok, Err, sym, subst, length-append, arith}
use Rattle.std.proofs.Math.Seq.{take-append-add}
use Rattle.std.specs.declared.option.Option.{Option}
use Rattle.std.specs.Io.KnownBytes.{Appends}
use Rattle.std.proofs.KnownBytes.{Appends-trans}
use Rattle.opus_writer.specs.Puts.{Puts}

-- the first was written, and this became of the second
pub Puts-then : {E : Type 0} (old mid new : Option (List ℕ)) (first second : List ℕ) (r : Result (Unit {0}) E)
    → Appends old mid first → Puts mid new second r → Puts old new (first ++ second) r
Puts-then old mid new first second (Ok u) all p = record {
  ok = Appends-trans old mid new first second all p.ok;
  front = tt;
}
Puts-then old mid new first second (Err e) all p =
    let (n, within, some) = p.front in
    record {
      ok = tt;
      front = (
        length first + n,
        omega (arith, length-append first second),
        subst (λ l. Appends old new l) (sym (take-append-add first second n)) (Appends-trans old mid new first (take n second) all some),
      );
    }
