use Rattle.std.proofs.Common.{length, ap, ◌∙◌, subst}
use Rattle.std.specs.Option.{IfSome}
use Rattle.opus_packet.specs.Value.{IsPacketValue}
use Rattle.opus_repack.specs.Collected.{frames_in}
use Rattle.opus_repack.specs.Inside.{value_inside}
use Rattle.opus_repack.proofs.CollectedLemmas.{count-in, value-of_some}
use Rattle.opus_repack.proofs.InsideLemmas.{count-inside, value-inside}
use Rattle.opus_repack.proofs.repacketizer.Repacketizer.count.Goals as goal

pub returns-clause-count : goal.returns-clause-count
returns-clause-count c =
    let r = c.self.inside in
    count-in r.count (value_inside r) (count-inside r c.self.invariant) ∙ ap (λ v. length (frames_in v)) c.self.view_is

pub returns-clause-value : goal.returns-clause-value
returns-clause-value c =
    let r = c.self.inside in
    subst (λ v. IfSome v IsPacketValue) c.self.view_is
    (value-of_some r.count (value_inside r) (value-inside r c.self.invariant))
