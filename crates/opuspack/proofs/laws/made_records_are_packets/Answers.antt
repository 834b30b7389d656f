use Rattle.opuspack.proofs.MadePacketLemmas.{made_packet-spelled, made_packet-lost}
use Rattle.opuspack.proofs.laws.made_records_are_packets.Goals as goal

pub returns-clause-packet : goal.returns-clause-packet
returns-clause-packet c = made_packet-spelled

pub returns-clause-lost : goal.returns-clause-lost
returns-clause-lost c = made_packet-lost
