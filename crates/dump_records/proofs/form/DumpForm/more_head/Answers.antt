use Rattle.std.proofs.Common.{◌+◌, ◌++◌, length-take-le, take, ap, ◌∙◌, subst, arith}
use Rattle.opus_io.proofs.BytesLemmas.{AreBytes-from, AreBytes-take}
use Rattle.dump_records.specs.DumpForm.{InHead}
use Rattle.dump_records.proofs.FedLemmas.{head_goes, head_ends, stands_head}
use Rattle.dump_records.proofs.form.DumpForm.more_head.Goals as goal

pub returns-then-self-count-eq-DUMP_HEAD_LEN-clause-fed : goal.returns-then-self-count-eq-DUMP_HEAD_LEN-clause-fed
returns-then-self-count-eq-DUMP_HEAD_LEN-clause-fed c = λ at h rs stands size.
    let s = c.args.self.now in
    let piece = c.args.piece.now in
    let count = c.min-count.result in
    let taken = length-take-le count piece (omega (arith, c.min-count.ensures)) in
    head_ends s (take count piece) h rs c.requires.mode stands
    (AreBytes-take count piece (AreBytes-from piece (λ i. (c.type_inv.piece i).fits)))
    (ap (λ n. s.seen + n) taken ∙ c.if-self-count-eq-DUMP_HEAD_LEN.true)

pub returns-clause-fed : goal.returns-clause-fed
returns-clause-fed c = λ at h rs stands size.
    let s = c.args.self.now in
    let piece = c.args.piece.now in
    let count = c.min-count.result in
    let taken = length-take-le count piece (omega (arith, c.min-count.ensures)) in
    let now = head_goes s (take count piece) h rs c.requires.mode stands
    (AreBytes-take count piece (AreBytes-from piece (λ i. (c.type_inv.piece i).fits))) in
    stands_head _ (h ++ take count piece) rs c.requires.mode
    (subst (λ n. InHead n (h ++ take count piece)) (ap (λ n. s.seen + n) taken) now.0) now.1
