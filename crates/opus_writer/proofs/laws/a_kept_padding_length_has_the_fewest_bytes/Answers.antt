use Rattle.opus_writer.proofs.KeptLemmas.{pad_total-data, pad_total-least, pad_total-fewest}
use Rattle.opus_writer.proofs.laws.a_kept_padding_length_has_the_fewest_bytes.Goals as goal

pub returns-clause-data : goal.returns-clause-data
returns-clause-data c = pad_total-data

pub returns-clause-least : goal.returns-clause-least
returns-clause-least c = pad_total-least

pub returns-clause-fewest : goal.returns-clause-fewest
returns-clause-fewest c = pad_total-fewest
