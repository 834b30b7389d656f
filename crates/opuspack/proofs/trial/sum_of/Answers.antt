use Rattle.std.proofs.Common.{◌≡◌, rules, ◌*◌, ◌≤◌, length, sum, arith}
use Rattle.opus_packet.proofs.BytesLemmas.{AreBytes-from}
use Rattle.opuspack.proofs.TrialLemmas.{sum-most}
use Rattle.opuspack.proofs.trial.sum_of.Goals as goal

pub returns-clause-most : goal.returns-clause-most
returns-clause-most c =
    let is : c.sum.result ≡ sum c.args.bytes.now = search rules in
    let most : sum c.args.bytes.now ≤ 255 * length c.args.bytes.now = sum-most c.args.bytes.now (AreBytes-from c.args.bytes.now (λ i. (c.type_inv.bytes i).fits)) in
    omega (arith, is, most, c.requires)
