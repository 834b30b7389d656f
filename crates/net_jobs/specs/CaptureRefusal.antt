-- How the refusal of a capture is told.
use Rattle.std.specs.Prelude.{◌≡◌, ℕ, List, codes}
use Rattle.opus_words.specs.declared.ending.JobFault.{JobFault}
use Rattle.rec_store.specs.declared.stop.StoreFault.{StoreFault}
use Rattle.rec_store.specs.declared.stop.StoreFault.TheVariants.{StoreCut, DumpLine, DumpLength}
use Rattle.net_jobs.specs.declared.capture_refusal.CaptureRefusal.{CaptureRefusal}

-- its place, from the input's first byte
abbrev pub fault_place : StoreFault → ℕ
fault_place (StoreCut place) = place
fault_place (DumpLine place) = place
fault_place (DumpLength place) = place

abbrev pub fault_text : StoreFault → List ℕ
fault_text (StoreCut place) = codes "store cut"
fault_text (DumpLine place) = codes "dump line"
fault_text (DumpLength place) = codes "dump length"

-- the program's fault tells this refusal
abbrev pub TellsCapture : JobFault → CaptureRefusal → Type 0
TellsCapture f r = (f.index ≡ r.index) × (f.place ≡ fault_place r.fault) × (f.text.bytes ≡ fault_text r.fault)
