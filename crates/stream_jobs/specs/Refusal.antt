-- Why an input of packets of several streams is refused: the record's number, the place in the input, and a reason; and
-- how it is told.
use Rattle.std.specs.Prelude.{ℕ, ◌+◌, List, ◌++◌, codes, decimal}
use Rattle.opus_packet.specs.declared.fault.Fault as faults
use Rattle.opus_words.specs.declared.ending.JobFault.{JobFault}
use Rattle.job_ends.specs.declared.refusal.Refusal.{Refusal}
use Rattle.job_ends.specs.Refusal as refusals
use Rattle.job_ends.specs.Refusal.{told, refusal_of}
use Rattle.pack_records.specs.declared.cut.Cut.{Cut}
use Rattle.pack_records.specs.declared.item.Item.{Item}
use Rattle.pack_jobs.specs.Refusal.{fault_text}
use Rattle.stream_jobs.specs.declared.refusal.StreamWhy.{StreamWhy}
use Rattle.stream_jobs.specs.declared.refusal.StreamWhy.TheVariants as why

abbrev pub StreamRefusal : Type 0
StreamRefusal = Refusal StreamWhy

-- the refusal for a record that holds no packet of one stream, where this number is told for it
abbrev pub refusal_at : ℕ → Item → faults.Fault → StreamRefusal
refusal_at index item fault = refusal_of index (told (item.start + fault.place)) (why.Fault fault)

-- the refusal for a cut of a store, where this number is told for the cut record
abbrev pub cut_refusal : ℕ → Cut → StreamRefusal
cut_refusal index cut = refusal_of index cut.place why.StoreCut

-- `stream S`, where S counts from 0
abbrev pub stream_text : ℕ → List ℕ
stream_text stream = codes "stream " ++ decimal stream

-- the text of a refusal's note
abbrev pub why_text : StreamWhy → List ℕ
why_text (why.Fault fault) = fault_text fault
why_text (why.StreamFault stream fault) = stream_text stream ++ codes " " ++ fault_text fault
why_text (why.Unequal stream) = codes "unequal " ++ stream_text stream
why_text why.LostPart = codes "lost part"
why_text why.ShortGroup = codes "short group"
why_text why.StoreCut = codes "store cut"
why_text why.PaddingLong = codes "padding long"
why_text (why.StreamPaddingLong stream) = stream_text stream ++ codes " padding long"

-- the refusal that a program's fault tells
abbrev pub Tells : JobFault → StreamRefusal → Type 0
Tells = refusals.Tells why_text
