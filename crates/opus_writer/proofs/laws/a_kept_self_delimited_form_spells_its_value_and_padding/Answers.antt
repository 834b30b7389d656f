use Rattle.opus_writer.proofs.FormLemmas.{kept_self-nil}
use Rattle.opus_writer.proofs.KeptLemmas.{kept_self-is_packet, kept_self-unique}
use Rattle.opus_writer.proofs.laws.a_kept_self_delimited_form_spells_its_value_and_padding.Goals as goal

pub returns-clause-spelled : goal.returns-clause-spelled
returns-clause-spelled c = kept_self-is_packet

pub returns-clause-unique : goal.returns-clause-unique
returns-clause-unique c = kept_self-unique

pub returns-clause-plain : goal.returns-clause-plain
returns-clause-plain c = kept_self-nil
