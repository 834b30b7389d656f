use Rattle.opus_writer.proofs.PaddedLemmas.{padded_to-size, padded_to-is_packet}
use Rattle.opus_writer.proofs.laws.a_padded_form_has_its_size.Goals as goal

pub returns-clause-size : goal.returns-clause-size
returns-clause-size c = padded_to-size

pub returns-clause-spelled : goal.returns-clause-spelled
returns-clause-spelled c = padded_to-is_packet
