use Rattle.opus_packet.specs.HeaderRead.{partial, refused}
use Rattle.opus_packet.proofs.ReadBody.{no_header, whole≢partial, whole≢refused}
use Rattle.opus_packet.proofs.places.locate.Goals as goal

pub returns-in-Partial-clause-none : goal.returns-in-Partial-clause-none
returns-in-Partial-clause-none c v s spelled =
    no_header c.args.bytes.now v s partial c.in-Partial.ensures whole≢partial spelled

pub returns-in-Refused-clause-none : goal.returns-in-Refused-clause-none
returns-in-Refused-clause-none c v s spelled =
    no_header c.args.bytes.now v s (refused _ _) c.in-Refused.ensures (whole≢refused _ _) spelled
