-- The job check: a line for each record. A bad record doesn't end the run, and the refusal at the end is the first one.
use Rattle.std.specs.Prelude.{ℕ, ◌+◌, List, [], Option, Some, None, unwrap_or, codes}
use Rattle.job_loop.specs.Shown.{Shown}
use Rattle.job_loop.specs.Meaning.{Meaning, Step, goes}
use Rattle.job_loop.specs.declared.input_end.InputEnd.{InputEnd}
use Rattle.pack_records.specs.declared.cut.Cut.{Cut}
use Rattle.job_ends.specs.Refusal.{told, refusal_of}
use Rattle.job_ends.specs.First.{first_end}
use Rattle.pack_jobs.specs.Check.{check_line}
use Rattle.stream_records.specs.declared.item.StreamsFound.{StreamsFound}
use Rattle.stream_records.specs.declared.item.StreamsFound.TheVariants.{Packets, Lost, Broken, Unequal}
use Rattle.stream_records.specs.declared.item.StreamsItem.{StreamsItem}
use Rattle.stream_jobs.specs.declared.refusal.StreamWhy.TheVariants as why
use Rattle.stream_jobs.specs.Refusal.{why_text, cut_refusal, StreamRefusal}
use Rattle.stream_jobs.specs.Bad.{fault_why, bad_place}

-- the number of records so far, and the first refusal
pub record CheckKept : Type 0 where
  pub count : ℕ
  pub first : Option StreamRefusal

abbrev pub kept_of : ℕ → Option StreamRefusal → CheckKept
kept_of count first = record { count = count; first = first }

-- the refusal for a record of this number, if it is bad
abbrev pub bad_refusal : ℕ → ℕ → StreamsFound → Option StreamRefusal
bad_refusal streams number Packets = None
bad_refusal streams number Lost = None
bad_refusal streams number (Broken stream start fault) =
    Some (refusal_of number (bad_place start fault) (fault_why streams stream fault))
bad_refusal streams number (Unequal stream start) = Some (refusal_of number start (why.Unequal stream))

-- what is told of a record
abbrev pub found_text : ℕ → StreamsFound → List ℕ
found_text streams Packets = codes "ok"
found_text streams Lost = codes "lost"
found_text streams (Broken stream start fault) = why_text (fault_why streams stream fault)
found_text streams (Unequal stream start) = why_text (why.Unequal stream)

-- the first refusal is kept
abbrev pub first_or : Option StreamRefusal → Option StreamRefusal → Option StreamRefusal
first_or first None = first
first_or first (Some refusal) = Some (unwrap_or first refusal)

-- the record's line, and what is kept
abbrev pub check_found : ℕ → CheckKept → StreamsFound → Step CheckKept StreamRefusal
check_found streams k found =
    goes (check_line (told k.count) (found_text streams found))
    (kept_of (k.count + 1) (first_or k.first (bad_refusal streams (told k.count) found)))

-- an input is refused in the end for the first refusal, or else for its cut
abbrev pub check_end : CheckKept → InputEnd Cut → Step (Unit {0}) StreamRefusal
check_end k end = first_end cut_refusal (told k.count) k.first end

-- records of so many streams
abbrev pub check : ℕ → Meaning (Shown StreamsItem) CheckKept Cut StreamRefusal
check streams = record {
  opening = [];
  start = kept_of 0 None;
  step = λ k r. check_found streams k r.item.found;
  finish = check_end;
}
