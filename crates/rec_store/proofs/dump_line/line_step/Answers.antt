use Rattle.std.proofs.Common.{arith}
use Rattle.rec_store.proofs.LineSteps.{mark_no_part}
use Rattle.rec_store.proofs.dump_line.line_step.Goals as goal

pub returns-else-seen-lt13-clause-is : goal.returns-else-seen-lt13-clause-is
returns-else-seen-lt13-clause-is c = λ h part size.
    c.in_text.ensures.is h (mark_no_part h (omega (arith, size, c.if-seen-lt13.false)) part) size
