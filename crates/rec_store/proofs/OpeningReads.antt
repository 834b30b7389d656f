-- How the opening of a capture is taken: its first line, and then its head.
use Rattle.std.proofs.Common.{◌≡◌, ℕ, ◌+◌, ◌<◌, ◌≤◌, List, ◌++◌, Err, Result, length, refl, sym, subst, arith}
use Rattle.std.specs.declared.option.Option.{Option}
use Rattle.opus_io.specs.Reader.{ReaderState, Stays, LookedAt}
use Rattle.opus_io.specs.declared.reader.InStop.{InStop}
use Rattle.opus_io.specs.declared.reader.InStop.TheVariants.{Read, Limit}
use Rattle.rec_store.specs.DemoReader.{Passed, NothingComes}
use Rattle.rec_store.specs.DumpLine.{IsDumpLine, IsLinePart, GoesWrong}
use Rattle.rec_store.specs.DumpStore.{AreBytes, IsDumpHead}
use Rattle.rec_store.specs.DumpReader.{OpeningRead, OpeningPassed, LineBad, StartStop}
use Rattle.rec_store.specs.DumpTaking.{stop_of, LineRead}
use Rattle.rec_store.specs.Taking.{Took, Takes}
use Rattle.rec_store.specs.declared.dump_opening.DumpHead.{DumpHead}
use Rattle.rec_store.specs.declared.stop.StoreFault.TheVariants.{StoreCut}
use Rattle.rec_store.specs.declared.stop.StoreStop.{StoreStop}
use Rattle.rec_store.specs.declared.stop.StoreStop.TheVariants.{Fault}
use Rattle.rec_store.proofs.PartLemmas.{opening_part-line, opening_part-head}
use Rattle.rec_store.proofs.TakeLemmas.{Begun, Begun-looked, Passed-trans, passed_some, Took-last}

-- so many bytes of a first line were taken
pub record InLine (seen : ℕ) (old new : ReaderState) (left left' : Option (List ℕ)) : Type 0 where
  pub bytes : List ℕ
  pub begun : Begun old new left left' bytes
  pub part : IsLinePart bytes
  pub count : length bytes ≡ seen

-- a look leaves them
line_looked : (seen : ℕ) (old mid new : ReaderState) (left left' left'' : Option (List ℕ))
    → InLine seen old mid left left' → Stays mid new left' left'' → OpeningPassed old new left left''
line_looked seen old mid new left left' left'' line stays = record {
  bytes = line.bytes;
  passed = Begun-looked old mid new left left' left'' line.bytes line.begun stays;
  part = opening_part-line line.bytes line.part;
}

pub line_stopped : (stop : InStop) (said : StoreStop) (seen : ℕ) (old mid new : ReaderState)
    (left left' left'' : Option (List ℕ)) (look : Result ℕ InStop) → said ≡ stop_of stop → look ≡ Err stop
    → InLine seen old mid left left' → LookedAt mid new left' left'' look → StartStop said old new left left''
line_stopped Read said seen old mid new left left' left'' look told is line looked =
    subst (λ s. StartStop s old new left left'') (sym told)
    (line_looked seen old mid new left left' left'' line looked.stays, looked.fault is)
line_stopped Limit said seen old mid new left left' left'' look told is line looked =
    subst (λ s. StartStop s old new left left'') (sym told) (
      line_looked seen old mid new left left' left'' line looked.stays,
      record { all = (looked.past is).0; more = (looked.past is).1 },
    )

pub line_cut : (said : StoreStop) (seen place : ℕ) (old mid new : ReaderState) (left left' left'' : Option (List ℕ))
    → said ≡ Fault (StoreCut place) → place ≡ new.passed → InLine seen old mid left left' → Stays mid new left' left''
    → NothingComes new left'' → StartStop said old new left left''
line_cut said seen place old mid new left left' left'' told place_is line stays nothing =
    subst (λ s. StartStop s old new left left'') (sym told) record {
      front = line_looked seen old mid new left left' left'' line stays;
      end = nothing;
      place_is = place_is;
    }

pub line_read : (old new : ReaderState) (left left' : Option (List ℕ)) (bytes : List ℕ) → Begun old new left left' bytes
    → IsDumpLine bytes → 1 ≤ length bytes → LineRead old new left left'
line_read old new left left' bytes begun is some =
    let passed = passed_some old new left left' bytes some begun in
    record { bytes = bytes; passed = passed.0; is_line = is; last_read = passed.1 }

pub line_bad : (place : ℕ) (old new : ReaderState) (left left' : Option (List ℕ)) (bytes : List ℕ)
    → Begun old new left left' bytes → GoesWrong bytes → place + 1 ≡ new.passed → LineBad old new left left' place
line_bad place old new left left' bytes begun wrong is =
    let passed = passed_some old new left left' bytes (omega (arith, wrong.2)) begun in
    record {
      bytes = bytes;
      passed = passed.0;
      index = wrong.0;
      bad = wrong.1;
      last = wrong.2;
      place_is = omega (arith, is, wrong.2, begun.passed);
      last_read = passed.1;
    }

-- ---- the head behind the line

head_passed : (old mid new : ReaderState) (left left' left'' : Option (List ℕ)) (bytes : List ℕ)
    → LineRead old mid left left' → Passed mid new left' left'' bytes → AreBytes bytes → length bytes < 16
    → OpeningPassed old new left left''
head_passed old mid new left left' left'' bytes line passed are short = record {
  bytes = line.bytes ++ bytes;
  passed = Passed-trans old mid new left left' left'' line.bytes bytes line.passed passed;
  part = opening_part-head line.bytes bytes line.is_line are short;
}

pub head_stopped : (stop : InStop) (said : StoreStop) (old mid new : ReaderState) (left left' left'' : Option (List ℕ))
    (bytes : List ℕ) → said ≡ stop_of stop → LineRead old mid left left' → Takes 16 mid new left' left'' bytes (Err stop)
    → AreBytes bytes → StartStop said old new left left''
head_stopped Read said old mid new left left' left'' bytes told line takes are =
    subst (λ s. StartStop s old new left left'') (sym told)
    (head_passed old mid new left left' left'' bytes line takes.0.passed are takes.0.short, takes.1)
head_stopped Limit said old mid new left left' left'' bytes told line takes are =
    subst (λ s. StartStop s old new left left'') (sym told)
    (head_passed old mid new left left' left'' bytes line takes.0.passed are takes.0.short, takes.1)

pub head_cut : (said : StoreStop) (place : ℕ) (old mid new : ReaderState) (left left' left'' : Option (List ℕ))
    (bytes : List ℕ) → said ≡ Fault (StoreCut place) → place ≡ new.passed → LineRead old mid left left'
    → Took 16 mid new left' left'' bytes → AreBytes bytes → length bytes < 16 → StartStop said old new left left''
head_cut said place old mid new left left' left'' bytes told place_is line took are short =
    subst (λ s. StartStop s old new left left'') (sym told) record {
      front = head_passed old mid new left left' left'' bytes line took.passed are short;
      end = took.end short;
      place_is = place_is;
    }

pub head_whole : (head : DumpHead) (old mid new : ReaderState) (left left' left'' : Option (List ℕ)) (bytes : List ℕ)
    → LineRead old mid left left' → Took 16 mid new left' left'' bytes → 16 ≤ length bytes → IsDumpHead head bytes
    → OpeningRead old new left left'' head
head_whole head old mid new left left' left'' bytes line took long is = record {
  bytes = line.bytes ++ bytes;
  passed = Passed-trans old mid new left left' left'' line.bytes bytes line.passed took.passed;
  is_opening = record { line = line.bytes; numbers = bytes; is_line = line.is_line; is_head = is; bytes_are = refl };
  last_read = Took-last 16 mid new left' left'' bytes took (omega (arith, long));
}
