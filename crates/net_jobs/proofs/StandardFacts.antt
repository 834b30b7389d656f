-- Captures of small stores, computed from the definitions.
use Rattle.std.proofs.Common.{◌≡◌, false, [], ◌∷◌, None, Some, flat_map, refl}
use Rattle.opus_toc.specs.Configuration.{samples_of, row_of}
use Rattle.opus_packet.specs.Canonical.{canonical}
use Rattle.opus_packet.specs.Header.{header_bytes}
use Rattle.opus_packet.specs.Value.{PacketValue}
use Rattle.rec_store.specs.Dump.{dump_record_bytes}
use Rattle.rtp_ends.specs.Sent.{first_fields}
use Rattle.net_jobs.specs.Capture.{offset_behind, captured_records}

-- two packets of 20 ms, and one of 2.5 ms
long_frame : PacketValue
long_frame = record { config = 31; stereo = false; frames = (0xAA ∷ []) ∷ [] }

other_frame : PacketValue
other_frame = record { config = 31; stereo = false; frames = (0xBB ∷ []) ∷ [] }

short_frame : PacketValue
short_frame = record { config = 28; stereo = false; frames = [] ∷ [] }

-- a lost packet takes a number and as much time as the one before it, but has no record; numbers and stamps wrap
two_packets_around_a_loss : flat_map dump_record_bytes (captured_records (first_fields 65535 4294967000 1 111)
    (Some long_frame ∷ None ∷ Some other_frame ∷ []))
    ≡ 0x00 ∷ 0x16 ∷ 0x00 ∷ 0x0E ∷ 0 ∷ 0 ∷ 0 ∷ 0
    ∷ 0x80 ∷ 0x6F ∷ 0xFF ∷ 0xFF ∷ 0xFF ∷ 0xFF ∷ 0xFE ∷ 0xD8 ∷ 0 ∷ 0 ∷ 0 ∷ 1 ∷ 0xF8 ∷ 0xAA
    ∷ 0x00 ∷ 0x16 ∷ 0x00 ∷ 0x0E ∷ 0 ∷ 0 ∷ 0 ∷ 0x28
    ∷ 0x80 ∷ 0x6F ∷ 0x00 ∷ 0x01 ∷ 0x00 ∷ 0x00 ∷ 0x06 ∷ 0x58 ∷ 0 ∷ 0 ∷ 0 ∷ 1 ∷ 0xF8 ∷ 0xBB ∷ []
unfolding long_frame other_frame canonical header_bytes samples_of row_of
two_packets_around_a_loss = refl

-- 960 and 120 samples are 22.5 ms
rounded_down : offset_behind (Some long_frame ∷ Some short_frame ∷ []) ≡ 22
unfolding long_frame short_frame samples_of row_of
rounded_down = refl

-- a loss before any packet takes no time
no_time : offset_behind (None ∷ None ∷ []) ≡ 0
no_time = refl
