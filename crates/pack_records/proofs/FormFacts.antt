-- Small inputs, computed from the definitions.
use Rattle.std.proofs.Common.{◌≡◌, false, [], ◌∷◌, None, Some, refl, arith}
use Rattle.opus_toc.specs.Configuration.{samples_of, row_of}
use Rattle.opus_flen.specs.PaddingLength.{most_full}
use Rattle.opus_packet.specs.declared.fault.Rule.TheVariants.{R5, Cut}
use Rattle.opus_packet.specs.Canonical.{kept_self_delimited}
use Rattle.opus_packet.specs.Header.{header_bytes}
use Rattle.opus_packet.specs.HeaderRead.{shape_of, header_read}
use Rattle.opus_packet.specs.PacketFault.{fault}
use Rattle.opus_packet.specs.SelfGrammar.{IsSelfDelimited}
use Rattle.opus_packet.specs.Value.{PacketValue}
use Rattle.opus_feed.specs.declared.framing.Framing.TheVariants.{Whole, SelfDelimited}
use Rattle.opus_feed.specs.declared.padding.Padding.TheVariants.{Drop}
use Rattle.pack_records.specs.declared.item.Found.TheVariants.{Packet, Bad}
use Rattle.pack_records.specs.Framed.{Shows, end_records}
use Rattle.pack_records.specs.Holds.{record_of}
use Rattle.pack_records.specs.Lent.{lent_value}
use Rattle.pack_records.specs.Settled.{early_records}

-- a fault before the end is settled, and its place counts from the record's first byte
no_frames : early_records Whole 0 (0xFB ∷ 0x00 ∷ 0xF8 ∷ []) ≡ record_of 0 2 0 (Bad (fault R5 1)) [] ∷ []
unfolding header_read header_bytes samples_of row_of most_full
no_frames = refl

no_frames_later : early_records SelfDelimited 4 (0xFB ∷ 0x00 ∷ 0xF8 ∷ []) ≡ record_of 4 6 0 (Bad (fault R5 1)) [] ∷ []
unfolding header_read header_bytes samples_of row_of most_full
no_frames_later = refl

-- a fault at the end isn't
odd_frames : early_records Whole 0 (0xF9 ∷ 0xAA ∷ []) ≡ []
unfolding header_read header_bytes samples_of row_of most_full
odd_frames = refl

half_a_frame : early_records SelfDelimited 0 (0xF8 ∷ 0x02 ∷ 0xAA ∷ []) ≡ []
unfolding header_read header_bytes samples_of row_of most_full
half_a_frame = refl

-- the end tells it
half_a_frame_at_the_end : end_records 0 (0xF8 ∷ 0x02 ∷ 0xAA ∷ []) ≡ record_of 0 3 0 (Bad (fault Cut 3)) [] ∷ []
unfolding header_read header_bytes samples_of row_of most_full
half_a_frame_at_the_end = refl

nothing_left : end_records 6 [] ≡ []
nothing_left = refl

-- two packets are two records, the second counted from the place where it begins

two_bytes : PacketValue
two_bytes = record { config = 31; stereo = false; frames = (0xAA ∷ 0xBB ∷ []) ∷ [] }

no_byte : PacketValue
no_byte = record { config = 31; stereo = false; frames = [] ∷ [] }

first_packet : IsSelfDelimited two_bytes (shape_of 0 false 0) [] (0xF8 ∷ 0x02 ∷ 0xAA ∷ 0xBB ∷ [])
unfolding two_bytes header_bytes samples_of row_of
first_packet = record {
  value = record {
    config = omega arith;
    some = omega arith;
    most = omega arith;
    each = (omega arith, tt);
    duration = omega arith;
  };
  suits = (refl, refl, refl);
  padding = refl;
  spelled = refl;
}

second_packet : IsSelfDelimited no_byte (shape_of 0 false 0) [] (0xF8 ∷ 0x00 ∷ [])
unfolding no_byte header_bytes samples_of row_of
second_packet = record {
  value = record {
    config = omega arith;
    some = omega arith;
    most = omega arith;
    each = (omega arith, tt);
    duration = omega arith;
  };
  suits = (refl, refl, refl);
  padding = refl;
  spelled = refl;
}

two_records : Shows Drop end_records 0 ((0xF8 ∷ 0x02 ∷ 0xAA ∷ 0xBB ∷ []) ∷ (0xF8 ∷ 0x00 ∷ []) ∷ []) []
    (record_of 0 4 0 (Packet SelfDelimited (shape_of 0 false 0) 4) (0xF8 ∷ 0x02 ∷ 0xAA ∷ 0xBB ∷ [])
    ∷ record_of 4 6 0 (Packet SelfDelimited (shape_of 0 false 0) 2) (0xF8 ∷ 0x00 ∷ []) ∷ [])
unfolding two_bytes no_byte kept_self_delimited header_bytes samples_of row_of
two_records = (
  record { value = two_bytes; shape = shape_of 0 false 0; tail = []; reads = first_packet; shows = refl },
  (record { value = no_byte; shape = shape_of 0 false 0; tail = []; reads = second_packet; shows = refl }, refl),
)

-- the value that lent bytes spell

pub two_frames : PacketValue
two_frames = record { config = 31; stereo = false; frames = (0xAA ∷ 0xBB ∷ []) ∷ (0xCC ∷ []) ∷ [] }

lent_two_frames : lent_value Whole (0xFA ∷ 0x02 ∷ 0xAA ∷ 0xBB ∷ 0xCC ∷ []) ≡ Some two_frames
unfolding lent_value two_frames header_read header_bytes samples_of row_of most_full
lent_two_frames = refl

lent_two_frames_delimited : lent_value SelfDelimited (0xFA ∷ 0x02 ∷ 0x01 ∷ 0xAA ∷ 0xBB ∷ 0xCC ∷ []) ≡ Some two_frames
unfolding lent_value two_frames header_read header_bytes samples_of row_of most_full
lent_two_frames_delimited = refl

-- a byte too few, and a byte too many
lent_odd_frames : lent_value Whole (0xF9 ∷ 0xAA ∷ []) ≡ None
unfolding lent_value header_read header_bytes samples_of row_of most_full
lent_odd_frames = refl

lent_and_more : lent_value SelfDelimited (0xF8 ∷ 0x00 ∷ 0xAA ∷ []) ≡ None
unfolding lent_value header_read header_bytes samples_of row_of most_full
lent_and_more = refl
