use Rattle.std.proofs.Common.{refl}
use Rattle.pack_records.proofs.StoreHeads.{nothing_stands}
use Rattle.pack_records.proofs.store.Store.over.Goals as goal

pub returns-clause-stands : goal.returns-clause-stands
returns-clause-stands g c = nothing_stands g.P.PayloadReader.reads _ refl c.new.ensures
