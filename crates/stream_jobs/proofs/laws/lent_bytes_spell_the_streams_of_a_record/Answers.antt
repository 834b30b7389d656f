use Rattle.stream_jobs.proofs.StreamsInLemmas.{streams-held, streams-are}
use Rattle.stream_jobs.proofs.laws.lent_bytes_spell_the_streams_of_a_record.Goals as goal

pub returns-clause-record_values : goal.returns-clause-record_values
returns-clause-record_values c = streams-held

pub returns-clause-packet_values : goal.returns-clause-packet_values
returns-clause-packet_values c = streams-are
