-- The job head: lines that tell of the OpusHead that is the whole input (RFC 7845, 5.1; RFC 8486).
use Rattle.std.specs.Prelude.{◌≡◌, ℕ, List, [], ◌++◌, Option, None, Some, codes, decimal}
use Rattle.job_loop.specs.Shown.{Shown}
use Rattle.job_loop.specs.Meaning.{Meaning, Step, goes, stops}
use Rattle.opus_head.specs.HeadFault.{head_fault, fault_place}
use Rattle.opus_head.specs.HeadRead.{head_in}
use Rattle.opus_head.specs.declared.fault.HeadFault.{HeadFault}
use Rattle.opus_head.specs.declared.fault.HeadFault.TheVariants.{Magic, Cut, Version, Channels, Streams, Coupled, MapByte, Extra, NoMemory}
use Rattle.opus_words.specs.declared.ending.JobFault.{JobFault}
use Rattle.opuspack.specs.declared.head.HeadRefusal.{HeadRefusal}
use Rattle.opuspack.specs.declared.never.Never.{Never}
use Rattle.opuspack.specs.declared.whole.WholeInput.{WholeInput}
use Rattle.opuspack.specs.HeadLines.{head_lines}

-- bytes that are no head, for this fault
abbrev pub head_refusal : List ℕ → HeadFault → HeadRefusal
head_refusal bytes fault = record { place = fault_place bytes fault; fault = fault }

-- the lines of a head, or the first check that fails
abbrev pub head_step : List ℕ → Option HeadFault → Step (Unit {0}) HeadRefusal
head_step bytes None = goes (head_lines (head_in bytes)) tt
head_step bytes (Some fault) = stops [] (head_refusal bytes fault)

abbrev pub head : Meaning (Shown WholeInput) (Unit {0}) Never HeadRefusal
head = record {
  opening = [];
  start = tt;
  step = λ k r. head_step r.bytes (head_fault r.bytes);
  finish = λ k end. goes [] tt;
}

-- the text of a fault; it is never want of memory
abbrev pub head_fault_text : HeadFault → List ℕ
head_fault_text (Magic place) = codes "magic"
head_fault_text (Cut place) = codes "cut"
head_fault_text Version = codes "version"
head_fault_text Channels = codes "channels"
head_fault_text Streams = codes "streams"
head_fault_text Coupled = codes "coupled"
head_fault_text (MapByte channel) = codes "mapping " ++ decimal channel
head_fault_text Extra = codes "extra"
head_fault_text NoMemory = []

-- the program's fault tells the refusal, of the input's one record
abbrev pub TellsHead : JobFault → HeadRefusal → Type 0
TellsHead f r = (f.index ≡ 0) × (f.place ≡ r.place) × (f.text.bytes ≡ head_fault_text r.fault)
