use Rattle.std.proofs.Common.{◌≡◌, Ok, Err, inl, sym, ap, subst, ◌∙◌, rules}
use Rattle.opus_io.proofs.BytesLemmas.{AreBytes-from}
use Rattle.opus_head.specs.HeadValue.{AreBytes}
use Rattle.opus_head.specs.HeadBytes.{IsOpusHead}
use Rattle.opus_head.specs.HeadFault.{head_fault}
use Rattle.opus_head.specs.declared.fault.HeadFault.TheVariants.{NoMemory}
use Rattle.opus_head.proofs.CheckLemmas.{none-outcome, outcome-none}
use Rattle.opus_head.proofs.NoFaultLemmas.{NoFault-none}
use Rattle.opus_head.proofs.SpelledLemmas.{head_in-spelled}
use Rattle.opus_head.proofs.MemoryLemmas.{memory_never}
use Rattle.opus_head.proofs.ReadingLemmas.{spelled-read, spelled-passes}
use Rattle.opus_head.proofs.read.read_head.Goals as goal

pub returns-in_err-check-clause-only : goal.returns-in_err-check-clause-only
returns-in_err-check-clause-only c =
    let bytes = c.args.bytes.now in
    λ h is. absurd (outcome-none (head_fault bytes) c.in_err-check.field-0.0 c.in_err-check.ensures (spelled-passes h bytes is))

pub returns-clause-found : goal.returns-clause-found
returns-clause-found c =
    let bytes = c.args.bytes.now in
    let are : AreBytes bytes = AreBytes-from bytes (λ i. (c.type_inv.bytes i).fits) in
    let none = none-outcome (head_fault bytes) c.in_ok-check.ensures in
    subst (λ h. IsOpusHead h bytes) (sym c.in_ok-copy_head.ensures) (head_in-spelled bytes (NoFault-none bytes none) are)

pub returns-clause-only : goal.returns-clause-only
returns-clause-only c =
    λ h is. inl (ap Ok (c.in_ok-copy_head.ensures ∙ spelled-read h c.args.bytes.now is))

pub returns-in_err-check-clause-last : goal.returns-in_err-check-clause-last
returns-in_err-check-clause-last c full =
    let e : c.from_residual.result ≡ Err c.in_err-check.field-0.0 = search rules in
    let is : c.in_err-check.field-0.0 ≡ NoMemory = cc in
    absurd (memory_never c.args.bytes.now c.in_err-check.field-0.0 c.in_err-check.ensures is)
