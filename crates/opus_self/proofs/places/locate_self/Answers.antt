use Rattle.std.proofs.Common.{ap}
use Rattle.opus_packet.specs.SelfPrefix.{unsized, never, after_header}
use Rattle.opus_self.proofs.ReadSelf.{not_sized, sized≢unsized, sized≢never}
use Rattle.opus_self.proofs.places.locate_self.Goals as goal

pub returns-in-Partial-clause-none : goal.returns-in-Partial-clause-none
returns-in-Partial-clause-none c v s used begins =
    not_sized c.args.bytes.now v s used unsized (ap (after_header c.args.bytes.now) c.in-Partial.ensures) sized≢unsized begins

pub returns-in-Refused-clause-none : goal.returns-in-Refused-clause-none
returns-in-Refused-clause-none c v s used begins =
    not_sized c.args.bytes.now v s used (never _ _) (ap (after_header c.args.bytes.now) c.in-Refused.ensures) (sized≢never _ _) begins
