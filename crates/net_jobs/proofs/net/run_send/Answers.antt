use Rattle.std.proofs.Common.{refl, sym}
use Rattle.opus_feed.specs.declared.padding.Padding.TheVariants.{Drop}
use Rattle.opus_words.specs.declared.form.Form.TheVariants.{Demo}
use Rattle.pack_jobs.specs.PackEnds.{place_of}
use Rattle.pack_jobs.proofs.PackLemmas.{none_settled}
use Rattle.net_jobs.specs.Send.{send}
use Rattle.net_jobs.proofs.net.run_send.Goals as goal

pub returns : goal.returns
returns g c =
    rw (sym c.sender_in.ensures.first)
    (c.run_over.ensures (send c.sender_in.result.first) c.new-send.ensures.job Drop c.new-records.ensures.padding
    (none_settled Demo Drop) place_of refl)
