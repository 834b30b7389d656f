-- Why a job over packets refuses an input; and how it is told.
use Rattle.std.specs.Prelude.{ℕ, ◌+◌, List, ◌++◌, codes, decimal}
use Rattle.opus_packet.specs.declared.fault.Rule.{Rule}
use Rattle.opus_packet.specs.declared.fault.Rule.TheVariants.{R1, R2, R3, R4, R5, R6, R7, PadLimit, Cut}
use Rattle.opus_packet.specs.declared.fault.Fault as faults
use Rattle.opus_words.specs.declared.ending.JobFault.{JobFault}
use Rattle.job_ends.specs.declared.refusal.Refusal as refused
use Rattle.job_ends.specs.Refusal as refusals
use Rattle.job_ends.specs.Refusal.{told, refusal_of}
use Rattle.pack_records.specs.declared.cut.Cut as cuts
use Rattle.pack_records.specs.declared.item.Item.{Item}
use Rattle.pack_jobs.specs.declared.refusal.Why.{Why}
use Rattle.pack_jobs.specs.declared.refusal.Why.TheVariants as why

abbrev pub Refusal : Type 0
Refusal = refused.Refusal Why

-- the refusal for a record that holds no packet, where this number is told for it
abbrev pub refusal_at : ℕ → Item → faults.Fault → Refusal
refusal_at index item fault = refusal_of index (told (item.start + fault.place)) (why.Fault fault)

-- the refusal for a cut of a store, where this number is told for the cut record
abbrev pub cut_refusal : ℕ → cuts.Cut → Refusal
cut_refusal index cut = refusal_of index cut.place why.StoreCut

abbrev pub rule_name : Rule → List ℕ
rule_name R1 = codes "R1"
rule_name R2 = codes "R2"
rule_name R3 = codes "R3"
rule_name R4 = codes "R4"
rule_name R5 = codes "R5"
rule_name R6 = codes "R6"
rule_name R7 = codes "R7"
rule_name PadLimit = codes "PadLimit"
rule_name Cut = codes "Cut"

-- `RULE at P`, where P counts from the first byte that could be a packet's
unfoldable pub fault_text : faults.Fault → List ℕ
fault_text f = rule_name f.rule ++ codes " at " ++ decimal f.place

-- the text of a refusal's note
abbrev pub refusal_text : Why → List ℕ
refusal_text (why.Fault f) = fault_text f
refusal_text why.PaddingLong = codes "padding long"
refusal_text why.StoreCut = codes "store cut"
refusal_text why.MixedKind = codes "mixed kind"
refusal_text why.TooLong = codes "too long"
refusal_text why.TooSmall = codes "too small"
refusal_text why.PadLimit = codes "pad limit"

-- the refusal that a program's fault tells
abbrev pub Tells : JobFault → Refusal → Type 0
Tells = refusals.Tells refusal_text
