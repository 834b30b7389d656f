use Rattle.std.proofs.Common.{List, length, ap, sym, ◌∙◌}
use Rattle.rtp_ends.specs.Numbers.{Placed}
use Rattle.rtp_ends.specs.Receives.{ReceiverState}
use Rattle.rtp_ends.proofs.ReceiverLemmas.{open-is}
use Rattle.rtp_ends.proofs.receiver.Receiver.held.Goals as goal

pub returns-clause-held : goal.returns-clause-held
returns-clause-held c = λ heard is.
    c.held.ensures.held
    ∙ ap (λ (s : ReceiverState). length s.kept) c.self.view_is
    ∙ ap (λ (l : List Placed). length l) (sym (open-is c.args.self.now heard is.0 is.1))
