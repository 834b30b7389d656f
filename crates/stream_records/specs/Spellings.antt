-- What is shown of a packet that was read.
use Rattle.opus_packet.specs.Read.{PacketRead}
use Rattle.opus_multi.specs.Parts.{dropped_of}
use Rattle.stream_records.specs.declared.item.Spelling.{Spelling}

-- how it was spelled, and how many padding bytes aren't kept
abbrev pub spelling_read : PacketRead → Spelling
spelling_read p = record { shape = p.shape; size = p.size; dropped = dropped_of p.tail }
