use Rattle.std.proofs.Common.{◌+◌, length, sym, ap, subst}
use Rattle.rtp_ends.specs.Sends.{SenderState, SenderStands}
use Rattle.net_jobs.proofs.CaptureLemmas.{packet_text-made}
use Rattle.net_jobs.proofs.send.SendJob.send_form.Goals as goal

pub returns-clause-sent : goal.returns-clause-sent
returns-clause-sent c = λ records v is form lasts.
    let begun = subst (λ (s : SenderState). SenderStands s records) (sym c.begin.ensures.sender) is in
    record {
      stands = (rw c.unwrap.ensures at c.send_form.ensures.stands) records v begun lasts;
      text_is = packet_text-made c.args.self.now.sender c.begin.new.self.sender records v (12 + length c.args.form.now)
          c.begin.new.self.text.items c.send_form.new.out.items c.begin.ensures.sender
          (ap (λ l. 12 + length l) form) (c.begin.ensures.head records is)
          ((rw c.unwrap.ensures at c.send_form.ensures.ok) records v begun form);
    }
