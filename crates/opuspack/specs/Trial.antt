-- The job trial: the store of a seed's first records in normal form, and a line that tells their totals.
use Rattle.std.specs.Prelude.{ℕ, List, [], ◌∷◌, ◌++◌, map}
use Rattle.std.specs.List.{concat, range_with_len}
use Rattle.job_loop.specs.Shown.{Shown}
use Rattle.job_loop.specs.Meaning.{Meaning, goes}
use Rattle.rec_store.specs.DemoStore.{demo_record}
use Rattle.opuspack.specs.declared.made.MadeRecord.{MadeRecord}
use Rattle.opuspack.specs.declared.never.Never.{Never}
use Rattle.opuspack.specs.Totals.{packet_in, normal_form, totals_of, told_totals, totals_line}

-- a record with its packet in canonical form, and its number as final range; a lost one has no payload
abbrev pub normal_record : MadeRecord → List ℕ
normal_record r = demo_record r.number (normal_form (packet_in r))

-- the store of these records
abbrev pub normal_store : List MadeRecord → List ℕ
normal_store rs = concat (map normal_record rs)

-- the first `count` records of a seed
abbrev pub numbered : ℕ → ℕ → List MadeRecord
numbered seed count = map (λ number. record { seed = seed; number = number }) (range_with_len 0 count)

-- all that trial writes
abbrev pub trial_text : ℕ → ℕ → List ℕ
trial_text seed count = normal_store (numbered seed count) ++ totals_line (totals_of (numbered seed count))

-- the job over records: it keeps which ones it took
abbrev pub trial : Meaning (Shown MadeRecord) (List MadeRecord) Never Never
trial = record {
  opening = [];
  start = [];
  step = λ rs r. goes (normal_record r.item) (rs ++ r.item ∷ []);
  finish = λ rs end. goes (totals_line (told_totals (totals_of rs))) tt;
}
