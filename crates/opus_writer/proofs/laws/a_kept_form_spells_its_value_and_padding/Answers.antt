use Rattle.opus_packet.proofs.SpellingLemmas.{kept_form-nil}
use Rattle.opus_writer.proofs.KeptLemmas.{kept-is_packet, kept-unique}
use Rattle.opus_writer.proofs.laws.a_kept_form_spells_its_value_and_padding.Goals as goal

pub returns-clause-spelled : goal.returns-clause-spelled
returns-clause-spelled c = kept-is_packet

pub returns-clause-unique : goal.returns-clause-unique
returns-clause-unique c = kept-unique

pub returns-clause-plain : goal.returns-clause-plain
returns-clause-plain c = kept_form-nil
