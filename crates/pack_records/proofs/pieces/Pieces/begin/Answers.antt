use Rattle.pack_records.proofs.TakenLemmas.{stands_nothing}
use Rattle.pack_records.proofs.pieces.Pieces.begin.Goals as goal

pub returns-clause-stands : goal.returns-clause-stands
returns-clause-stands c = stands_nothing _ c.reset.ensures.stands c.reset.ensures.reading
