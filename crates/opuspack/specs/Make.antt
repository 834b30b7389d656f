-- The job make: the `opus_demo` store of a seed's first records.
use Rattle.std.specs.Prelude.{ℕ, List, [], map}
use Rattle.std.specs.List.{concat, range_with_len}
use Rattle.job_loop.specs.Shown.{Shown}
use Rattle.job_loop.specs.Meaning.{Meaning, goes}
use Rattle.rec_store.specs.DemoStore.{demo_record}
use Rattle.opuspack.specs.declared.made.MadeRecord.{MadeRecord}
use Rattle.opuspack.specs.declared.never.Never.{Never}
use Rattle.opuspack.specs.Made.{made_bytes}

-- record `number` of a seed in the store, with its number as final range; a lost one has no payload
abbrev pub made_record : ℕ → ℕ → List ℕ
made_record seed number = demo_record number (made_bytes seed number)

-- the store of the first `count` records
abbrev pub made_store : ℕ → ℕ → List ℕ
made_store seed count = concat (map (made_record seed) (range_with_len 0 count))

-- the job over records
abbrev pub make : Meaning (Shown MadeRecord) (Unit {0}) Never Never
make = record {
  opening = [];
  start = tt;
  step = λ k r. goes (demo_record r.item.number r.bytes) tt;
  finish = λ k end. goes [] tt;
}
