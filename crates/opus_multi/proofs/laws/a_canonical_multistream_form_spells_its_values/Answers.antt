use Rattle.opus_multi.proofs.FormsLemmas.{canonical-is_multistream, canonical_multistream-unique}
use Rattle.opus_multi.proofs.laws.a_canonical_multistream_form_spells_its_values.Goals as goal

pub returns-clause-spelled : goal.returns-clause-spelled
returns-clause-spelled c = canonical-is_multistream

pub returns-clause-unique : goal.returns-clause-unique
returns-clause-unique c = canonical_multistream-unique
