use Rattle.example_recorder.proofs.StreamLemmas.{stream-one}
use Rattle.example_recorder.proofs.laws.a_stream_has_one_list_of_packets.Goals as goal

pub returns : goal.returns
returns c = stream-one c.a_list_has_one_reading.ensures.value c.a_packet_is_no_front_of_another.ensures.one
