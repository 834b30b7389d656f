use Rattle.stream_records.proofs.LentLemmas.{lent_values, lent_count}
use Rattle.stream_records.proofs.laws.lent_bytes_spell_the_values_of_all_streams.Goals as goal

pub returns-clause-values : goal.returns-clause-values
returns-clause-values c = lent_values

pub returns-clause-count : goal.returns-clause-count
returns-clause-count c = lent_count
