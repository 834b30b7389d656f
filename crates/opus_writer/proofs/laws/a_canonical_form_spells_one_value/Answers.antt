use Rattle.opus_packet.proofs.CanonicalLemmas.{canonical-is_packet, canonical-unique}
use Rattle.opus_writer.proofs.laws.a_canonical_form_spells_one_value.Goals as goal

pub returns-clause-spelled : goal.returns-clause-spelled
returns-clause-spelled c = canonical-is_packet

pub returns-clause-unique : goal.returns-clause-unique
returns-clause-unique c = canonical-unique
