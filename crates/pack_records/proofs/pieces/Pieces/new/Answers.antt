use Rattle.pack_records.proofs.TakenLemmas.{stands_nothing}
use Rattle.pack_records.proofs.pieces.Pieces.new.Goals as goal

pub returns-clause-stands : goal.returns-clause-stands
returns-clause-stands c = stands_nothing _ c.in_ok-new.ensures.stands c.in_ok-new.ensures.reading
