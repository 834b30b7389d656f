-- The job check: a line for each record. In forms raw and demo a bad record doesn't end the run, and the
-- refusal at the end is the first one.
use Rattle.std.specs.Prelude.{ℕ, ◌+◌, List, [], ◌∷◌, ◌++◌, Option, Some, None, unwrap_or, codes, decimal}
use Rattle.job_loop.specs.Shown.{Shown}
use Rattle.job_loop.specs.Meaning.{Meaning, Step, goes, stops}
use Rattle.job_loop.specs.declared.input_end.InputEnd.{InputEnd}
use Rattle.opus_words.specs.declared.form.Form.{Form}
use Rattle.opus_words.specs.declared.form.Form.TheVariants.{Raw, Demo, SelfDelimited}
use Rattle.pack_records.specs.declared.cut.Cut.{Cut}
use Rattle.pack_records.specs.declared.item.Found.{Found}
use Rattle.pack_records.specs.declared.item.Found.TheVariants.{Packet, Lost, Bad}
use Rattle.pack_records.specs.declared.item.Item.{Item}
use Rattle.pack_jobs.specs.Refusal.{refusal_at, cut_refusal, fault_text, Refusal}
use Rattle.job_ends.specs.Refusal.{told}
use Rattle.job_ends.specs.First.{first_end}

-- the number of records so far, and the first refusal
pub record CheckKept : Type 0 where
  pub count : ℕ
  pub first : Option Refusal

abbrev pub kept_of : ℕ → Option Refusal → CheckKept
kept_of count first = record { count = count; first = first }

-- `K TEXT`
abbrev pub check_line : ℕ → List ℕ → List ℕ
check_line index text = decimal index ++ codes " " ++ text ++ 10 ∷ []

-- what is told of a record
abbrev pub found_text : Found → List ℕ
found_text (Packet framing shape size) = codes "ok"
found_text Lost = codes "lost"
found_text (Bad fault) = fault_text fault

-- the first refusal is kept
abbrev pub first_refusal : Option Refusal → Refusal → Refusal
first_refusal first refusal = unwrap_or first refusal

-- what is kept behind a record
abbrev pub first_then : CheckKept → Item → Found → Option Refusal
first_then k item (Packet framing shape size) = k.first
first_then k item Lost = k.first
first_then k item (Bad fault) = Some (first_refusal k.first (refusal_at (told k.count) item fault))

-- the record's line, and what is kept
abbrev pub check_goes : CheckKept → Item → Found → Step CheckKept Refusal
check_goes k item found =
    goes (check_line (told k.count) (found_text found)) (kept_of (k.count + 1) (first_then k item found))

-- in form self nothing can follow a bad record
abbrev pub check_found : Form → CheckKept → Item → Found → Step CheckKept Refusal
check_found Raw k item found = check_goes k item found
check_found Demo k item found = check_goes k item found
check_found SelfDelimited k item (Packet framing shape size) = check_goes k item (Packet framing shape size)
check_found SelfDelimited k item Lost = check_goes k item Lost
check_found SelfDelimited k item (Bad fault) =
    stops (check_line (told k.count) (fault_text fault))
    (first_refusal k.first (refusal_at (told k.count) item fault))

-- an input is refused in the end for the first refusal, or else for its cut
abbrev pub check_end : CheckKept → InputEnd Cut → Step (Unit {0}) Refusal
check_end k end = first_end cut_refusal (told k.count) k.first end

abbrev pub check : Form → Meaning (Shown Item) CheckKept Cut Refusal
check form = record {
  opening = [];
  start = kept_of 0 None;
  step = λ k r. check_found form k r.item r.item.found;
  finish = check_end;
}
