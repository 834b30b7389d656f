use Rattle.std.proofs.Common.{◌≡◌, ◌++◌, append_assoc, append-nil, sym, ap, ◌∙◌}
use Rattle.rtp_packet.specs.RtpBytes.{front_bytes}
use Rattle.rtp_packet.specs.RtpRead.{plain_packet}
use Rattle.rtp_packet.proofs.write.write_rtp.Goals as goal

pub returns-clause-ok : goal.returns-clause-ok
returns-clause-ok c =
    let old = c.args.out.now.items in
    let payload = c.args.payload.now in
    let front = front_bytes (plain_packet c.args.fields payload) in
    let begun : c.extend_from_slice.new.self.items ≡ c.reserve.new.self.items ++ c.front_of-front.result =
    rw c.unwrap.ensures at c.extend_from_slice.ensures.items in
    let ended : c.extend_from_slice-2.new.self.items ≡ c.extend_from_slice.new.self.items ++ payload =
    rw c.unwrap-2.ensures at c.extend_from_slice-2.ensures.items in
    ended
    ∙ ap (λ l. l ++ payload) (begun ∙ ap (λ l. l ++ c.front_of-front.result) c.in_ok-reserve.ensures.items
    ∙ ap (λ l. old ++ l) c.front_of-front.ensures)
    ∙ append_assoc old front payload
    ∙ ap (λ l. old ++ (front ++ l)) (sym (append-nil payload))
