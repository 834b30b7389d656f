use Rattle.std.proofs.Common.{[], ◌++◌, ap, ◌∙◌, append_assoc}
use Rattle.opus_packet.specs.Canonical.{canonical}
use Rattle.rtp_packet.specs.RtpRead.{plain_bytes}
use Rattle.rtp_ends.proofs.SentLemmas.{plain-joined}
use Rattle.rtp_ends.proofs.sender.push_packet.Goals as goal

pub returns-clause-bytes : goal.returns-clause-bytes
returns-clause-bytes c =
    let old = c.args.out.now.items in
    let payload = canonical c.args.packet.now.value in
    (rw c.unwrap-2.ensures at c.write_canon.ensures.ok)
    ∙ ap (λ l. l ++ payload) (rw c.unwrap.ensures at c.write_rtp.ensures.ok)
    ∙ append_assoc old (plain_bytes c.args.fields []) payload
    ∙ ap (λ l. old ++ l) (plain-joined c.args.fields payload)
