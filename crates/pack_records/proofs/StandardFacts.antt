-- Small records, computed from the definitions.
use Rattle.std.specs.Prelude.{◌≡◌, false, true, [], ◌∷◌}
use Rattle.std.proofs.Common.{refl, arith}
use Rattle.opus_toc.specs.Configuration.{samples_of, row_of}
use Rattle.opus_flen.specs.PaddingLength.{most_full}
use Rattle.opus_packet.specs.declared.fault.Rule.TheVariants.{R3, R5, Cut as CutRule}
use Rattle.opus_packet.specs.Value.{PacketValue}
use Rattle.opus_packet.specs.Header.{header_bytes}
use Rattle.opus_packet.specs.HeaderRead.{shape_of, header_read}
use Rattle.opus_packet.specs.Canonical.{kept_form, kept_self_delimited}
use Rattle.opus_packet.specs.PacketFault.{fault}
use Rattle.opus_feed.specs.declared.framing.Framing.TheVariants.{Whole, SelfDelimited}
use Rattle.opus_feed.specs.declared.padding.Padding.TheVariants.{Drop, Keep}
use Rattle.pack_records.specs.declared.item.Found.TheVariants.{Packet, Lost, Bad}
use Rattle.pack_records.specs.Early.{IsEarly, IsDecided}
use Rattle.pack_records.specs.Holds.{record_of, packet_record, bad_record, lost_record}

-- a count of no frames is decided behind the count byte, whatever follows
early : IsEarly Whole (0xFB ∷ 0x00 ∷ 0xAA ∷ [])
unfolding header_read header_bytes samples_of row_of most_full
early = omega arith

decided : IsDecided Whole (0xFB ∷ 0x00 ∷ [])
unfolding header_read header_bytes samples_of row_of most_full
decided = refl

-- an even code 1 packet is decided by its end alone
not_early : IsEarly Whole (0xF9 ∷ 0xAA ∷ []) → ⊥
unfolding header_read header_bytes samples_of row_of most_full
not_early is = omega arith

-- of five bytes behind a store's head the second decides R5; an end fault is decided by the last
bad_inside : bad_record 8 0 (fault R5 1) 5 ≡ record_of 8 10 0 (Bad (fault R5 1)) []
bad_inside = refl

bad_at_end : bad_record 8 0 (fault R3 2) 2 ≡ record_of 8 10 0 (Bad (fault R3 2)) []
bad_at_end = refl

bad_of_none : bad_record 0 0 (fault CutRule 0) 0 ≡ record_of 0 0 0 (Bad (fault CutRule 0)) []
bad_of_none = refl

-- one frame AA BB with two padding bytes, spelled with VBR in eight bytes
frame : PacketValue
frame = record { config = 31; stereo = false; frames = (0xAA ∷ 0xBB ∷ []) ∷ [] }

dropped : packet_record Drop Whole 8 7 frame (shape_of 3 true 3) (0x11 ∷ 0x22 ∷ []) 8
    ≡ record_of 8 16 7 (Packet Whole (shape_of 3 true 3) 8) (0xF8 ∷ 0xAA ∷ 0xBB ∷ [])
unfolding kept_form header_bytes frame
dropped = refl

kept : packet_record Keep Whole 8 7 frame (shape_of 3 true 3) (0x11 ∷ 0x22 ∷ []) 8
    ≡ record_of 8 16 7 (Packet Whole (shape_of 3 true 3) 8)
    (0xFB ∷ 0x41 ∷ 0x02 ∷ 0xAA ∷ 0xBB ∷ 0x11 ∷ 0x22 ∷ [])
unfolding kept_form header_bytes frame
kept = refl

framed : packet_record Drop SelfDelimited 0 0 frame (shape_of 0 false 0) [] 4
    ≡ record_of 0 4 0 (Packet SelfDelimited (shape_of 0 false 0) 4) (0xF8 ∷ 0x02 ∷ 0xAA ∷ 0xBB ∷ [])
unfolding kept_self_delimited header_bytes frame
framed = refl

lost : lost_record 8 5 ≡ record_of 8 8 5 Lost []
lost = refl
