use Rattle.opus_writer.proofs.SelfLemmas.{canonical_self-is_packet, canonical_self-unique}
use Rattle.opus_writer.proofs.laws.a_canonical_self_delimited_form_spells_one_value.Goals as goal

pub returns-clause-spelled : goal.returns-clause-spelled
returns-clause-spelled c = canonical_self-is_packet

pub returns-clause-unique : goal.returns-clause-unique
returns-clause-unique c = canonical_self-unique
