use Rattle.pack_records.proofs.FramedLemmas.{self_none}
use Rattle.pack_records.proofs.self_form.SelfForm.new.Goals as goal

pub returns-clause-stands : goal.returns-clause-stands
returns-clause-stands c = self_none c.in_ok-new.field-0
