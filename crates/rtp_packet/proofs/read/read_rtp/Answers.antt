use Rattle.std.proofs.Common.{sym, subst, ◌∙◌}
use Rattle.opus_io.proofs.BytesLemmas.{AreBytes-from}
use Rattle.rtp_packet.specs.RtpValue.{AreBytes}
use Rattle.rtp_packet.specs.RtpBytes.{IsRtp}
use Rattle.rtp_packet.proofs.CheckLemmas.{Passes-none}
use Rattle.rtp_packet.proofs.SpelledLemmas.{rtp_in-spelled}
use Rattle.rtp_packet.proofs.ReadingLemmas.{spelled-read, spelled-passes}
use Rattle.rtp_packet.proofs.read.read_rtp.Goals as goal

pub returns-in_err-ends-clause-only : goal.returns-in_err-ends-clause-only
returns-in_err-ends-clause-only c =
    λ p is. absurd (let e = sym (spelled-passes p c.args.bytes.now is) ∙ c.in_err-ends.ensures.fault in cc)

pub returns-clause-found : goal.returns-clause-found
returns-clause-found c =
    let bytes = c.args.bytes.now in
    let are : AreBytes bytes = AreBytes-from bytes (λ i. (c.type_inv.bytes i).fits) in
    subst (λ p. IsRtp p bytes) (sym c.packet_of.ensures) (rtp_in-spelled bytes (Passes-none bytes c.in_ok-ends.ensures.none) are)

pub returns-clause-only : goal.returns-clause-only
returns-clause-only c = λ p is. c.packet_of.ensures ∙ spelled-read p c.args.bytes.now is
