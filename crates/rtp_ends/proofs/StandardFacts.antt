-- Packets of a short stream, computed from the definitions.
use Rattle.std.proofs.Common.{◌≡◌, false, [], ◌∷◌, None, Some, refl}
use Rattle.opus_toc.specs.Configuration.{samples_of, row_of}
use Rattle.opus_packet.specs.Value.{PacketValue}
use Rattle.opus_packet.specs.Header.{header_bytes}
use Rattle.opus_packet.specs.Canonical.{canonical}
use Rattle.rtp_ends.specs.Sent.{raises_after, elapsed_in, first_fields, packets_sent}

-- one frame of 20 ms, of 2.5 ms, and of 60 ms

abbrev twenty : PacketValue
twenty = record { config = 31; stereo = false; frames = (0xAA ∷ []) ∷ [] }

abbrev short : PacketValue
short = record { config = 28; stereo = false; frames = [] ∷ [] }

abbrev sixty : PacketValue
sixty = record { config = 3; stereo = false; frames = [] ∷ [] }

-- numbers and stamps wrap, and the lost packet takes both
two_packets_and_a_loss : packets_sent (first_fields 65535 4294967000 1 111) (Some twenty ∷ None ∷ Some twenty ∷ [])
    ≡ (0x80 ∷ 0x6F ∷ 0xFF ∷ 0xFF ∷ 0xFF ∷ 0xFF ∷ 0xFE ∷ 0xD8 ∷ 0 ∷ 0 ∷ 0 ∷ 1 ∷ 0xF8 ∷ 0xAA ∷ [])
    ∷ (0x80 ∷ 0x6F ∷ 0 ∷ 1 ∷ 0 ∷ 0 ∷ 0x06 ∷ 0x58 ∷ 0 ∷ 0 ∷ 0 ∷ 1 ∷ 0xF8 ∷ 0xAA ∷ []) ∷ []
unfolding canonical header_bytes samples_of row_of
two_packets_and_a_loss = refl

-- losses before the first packet take no time, and later ones that of the packet before them
raises : raises_after 0 (None ∷ None ∷ Some twenty ∷ None ∷ Some short ∷ None ∷ None ∷ Some sixty ∷ [])
    ≡ 0 ∷ 0 ∷ 960 ∷ 960 ∷ 120 ∷ 120 ∷ 120 ∷ 2880 ∷ []
unfolding samples_of row_of
raises = refl

elapsed : elapsed_in (None ∷ Some twenty ∷ None ∷ Some short ∷ []) ≡ 2040
unfolding samples_of row_of
elapsed = refl
