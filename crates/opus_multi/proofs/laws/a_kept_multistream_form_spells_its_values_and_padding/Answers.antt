use Rattle.opus_multi.proofs.FormsLemmas.{kept-is_multistream, kept_multistream-unique}
use Rattle.opus_multi.proofs.laws.a_kept_multistream_form_spells_its_values_and_padding.Goals as goal

pub returns-clause-spelled : goal.returns-clause-spelled
returns-clause-spelled c = kept-is_multistream

pub returns-clause-unique : goal.returns-clause-unique
returns-clause-unique c = kept_multistream-unique
