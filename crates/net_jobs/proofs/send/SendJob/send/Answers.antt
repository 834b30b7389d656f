use Rattle.std.proofs.Common.{◌+◌, sym, ap, subst}
use Rattle.rtp_ends.specs.Sends.{SenderState, SenderStands}
use Rattle.net_jobs.proofs.CaptureLemmas.{packet_text-made}
use Rattle.net_jobs.proofs.send.SendJob.send.Goals as goal

pub returns-clause-sent : goal.returns-clause-sent
returns-clause-sent c = λ records is.
    let begun = subst (λ (s : SenderState). SenderStands s records) (sym c.begin.ensures.sender) is in
    record {
      stands = (rw c.unwrap.ensures at c.send.ensures.stands) records begun;
      text_is = packet_text-made c.args.self.now.sender c.begin.new.self.sender records c.args.packet.now.value
          (12 + c.canon_size.result) c.begin.new.self.text.items c.send.new.out.items c.begin.ensures.sender
          (ap (λ n. 12 + n) c.canon_size.ensures.size) (c.begin.ensures.head records is)
          ((rw c.unwrap.ensures at c.send.ensures.ok) records begun);
    }
