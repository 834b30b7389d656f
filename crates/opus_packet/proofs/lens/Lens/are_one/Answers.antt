use Rattle.std.proofs.Common.{sym, ap, ◌∙◌}
use Rattle.opus_packet.specs.Canonical.{have_one_length}
use Rattle.opus_packet.proofs.LensLemmas.{are_one}
use Rattle.opus_packet.proofs.lens.Lens.are_one.Goals as goal

pub returns-in-Equal : goal.returns-in-Equal
returns-in-Equal c =
    let l = c.self.inside in
    sym (ap have_one_length (sym c.self.view_is) ∙ are_one l.before l.last l.count c.in-Equal.is)
