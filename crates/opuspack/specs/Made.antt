-- The records of a seed, as jobs are handed them.
use Rattle.std.specs.Prelude.{◌≡◌, ℕ, List, map}
use Rattle.std.specs.List.{range_with_len}
use Rattle.job_loop.specs.Shown.{Shown}
use Rattle.opus_make.specs.Generated.{generated, record_bytes}
use Rattle.opuspack.specs.declared.made.MadeRecord.{MadeRecord}

-- the bytes of record `number` of a seed, counted from 0; a lost one has none
unfoldable pub made_bytes : ℕ → ℕ → List ℕ
made_bytes seed number = record_bytes (generated seed number)

abbrev pub made_shown : ℕ → ℕ → Shown MadeRecord
made_shown seed number = record {
  item = record { seed = seed; number = number };
  bytes = made_bytes seed number;
}

-- the first `count` records of a seed
abbrev pub made_records : ℕ → ℕ → List (Shown MadeRecord)
made_records seed count = map (made_shown seed) (range_with_len 0 count)

-- these are the bytes of this record
abbrev pub IsMade : MadeRecord → List ℕ → Type 0
IsMade r bytes = bytes ≡ made_bytes r.seed r.number
