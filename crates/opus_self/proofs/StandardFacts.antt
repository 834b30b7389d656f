-- Small self-delimited packets and faults, computed against the definitions.
use Rattle.std.proofs.Common.{◌≡◌, ℕ, ◌<◌, false, true, List, [], ◌∷◌, refl, lt-ltb, arith}
use Rattle.opus_toc.specs.Configuration.{samples_of, row_of}
use Rattle.opus_flen.specs.PaddingLength.{most_full, full_bytes}
use Rattle.opus_packet.specs.declared.fault.Rule.TheVariants.{R5, PadLimit, Cut}
use Rattle.opus_packet.specs.Value.{PacketValue}
use Rattle.opus_packet.specs.Header.{header_bytes}
use Rattle.opus_packet.specs.HeaderRead.{shape_of, header_read}
use Rattle.opus_packet.specs.PacketFault.{fault}
use Rattle.opus_packet.specs.SelfGrammar.{IsSelfDelimited, BeginsWithSelf}
use Rattle.opus_packet.specs.SelfPrefix.{self_delimited_fault}

-- faults

no_bytes : self_delimited_fault [] ≡ fault Cut 0
unfolding header_read
no_bytes = refl

no_length : self_delimited_fault (0xF8 ∷ []) ≡ fault Cut 1
unfolding header_read header_bytes
no_length = refl

half_a_length : self_delimited_fault (0xF8 ∷ 0xFC ∷ []) ≡ fault Cut 2
unfolding header_read header_bytes
half_a_length = refl

half_a_frame : self_delimited_fault (0xF8 ∷ 0x02 ∷ 0xAA ∷ []) ≡ fault Cut 3
unfolding header_read header_bytes
half_a_frame = refl

half_the_padding : self_delimited_fault (0xFB ∷ 0x41 ∷ 0x01 ∷ 0x02 ∷ 0xAA ∷ 0xBB ∷ []) ≡ fault Cut 6
unfolding header_read header_bytes samples_of row_of most_full
half_the_padding = refl

no_frames : self_delimited_fault (0xFB ∷ 0x00 ∷ []) ≡ fault R5 1
unfolding header_read header_bytes
no_frames = refl

too_long : self_delimited_fault (0xFB ∷ 0x07 ∷ []) ≡ fault R5 1
unfolding header_read header_bytes samples_of row_of
too_long = refl

-- the 65,793rd byte 255 of a padding length
too_much_padding : (bytes : List ℕ) → 65792 < full_bytes bytes
    → self_delimited_fault (0xFB ∷ 0x41 ∷ bytes) ≡ fault PadLimit 65794
unfolding header_read samples_of row_of most_full
too_much_padding bytes much = rw (lt-ltb 65792 (full_bytes bytes) much)

-- one frame, as code 0 and as code 3 with one padding byte

one_frame : PacketValue
one_frame = record { config = 31; stereo = false; frames = (0xAA ∷ 0xBB ∷ []) ∷ [] }

one_frame-packet : IsSelfDelimited one_frame (shape_of 0 false 0) [] (0xF8 ∷ 0x02 ∷ 0xAA ∷ 0xBB ∷ [])
unfolding one_frame header_bytes samples_of row_of
one_frame-packet = record {
  value = record {
    config = omega arith;
    some = omega arith;
    most = omega arith;
    each = (omega arith, tt);
    duration = omega arith;
  };
  suits = (refl, refl, refl);
  padding = refl;
  spelled = refl;
}

-- the padding length stands before the last frame's length
one_frame-padded : IsSelfDelimited one_frame (shape_of 3 false 2) (0x00 ∷ [])
    (0xFB ∷ 0x41 ∷ 0x01 ∷ 0x02 ∷ 0xAA ∷ 0xBB ∷ 0x00 ∷ [])
unfolding one_frame header_bytes samples_of row_of
one_frame-padded = record {
  value = record {
    config = omega arith;
    some = omega arith;
    most = omega arith;
    each = (omega arith, tt);
    duration = omega arith;
  };
  suits = (omega arith, λ plain. (2, (refl, tt)));
  padding = refl;
  spelled = refl;
}

-- what follows the packet isn't looked at
one_frame-first : BeginsWithSelf one_frame (shape_of 0 false 0) 4
    (0xF8 ∷ 0x02 ∷ 0xAA ∷ 0xBB ∷ 0xF8 ∷ 0x00 ∷ [])
one_frame-first = record { within = omega arith; spelled = ([], one_frame-packet) }

-- two frames, whose lengths stand in order: that of the first, and that of the last

two_frames : PacketValue
two_frames = record { config = 31; stereo = false; frames = (0xAA ∷ []) ∷ (0xBB ∷ 0xCC ∷ []) ∷ [] }

two_frames-packet : IsSelfDelimited two_frames (shape_of 2 false 0) []
    (0xFA ∷ 0x01 ∷ 0x02 ∷ 0xAA ∷ 0xBB ∷ 0xCC ∷ [])
unfolding two_frames header_bytes samples_of row_of
two_frames-packet = record {
  value = record {
    config = omega arith;
    some = omega arith;
    most = omega arith;
    each = (omega arith, (omega arith, tt));
    duration = omega arith;
  };
  suits = (refl, refl, refl);
  padding = refl;
  spelled = refl;
}

-- the same with VBR and one padding byte
two_frames-padded : IsSelfDelimited two_frames (shape_of 3 true 2) (0x00 ∷ [])
    (0xFB ∷ 0xC2 ∷ 0x01 ∷ 0x01 ∷ 0x02 ∷ 0xAA ∷ 0xBB ∷ 0xCC ∷ 0x00 ∷ [])
unfolding two_frames header_bytes samples_of row_of
two_frames-padded = record {
  value = record {
    config = omega arith;
    some = omega arith;
    most = omega arith;
    each = (omega arith, (omega arith, tt));
    duration = omega arith;
  };
  suits = (omega arith, λ plain. (let with_vbr : true ≡ false = plain in cc));
  padding = refl;
  spelled = refl;
}
