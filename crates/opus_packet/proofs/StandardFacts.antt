-- Small packets and faults, computed against the definitions.
use Rattle.std.proofs.Common.{◌≡◌, ℕ, ◌<◌, inl, inr, false, true, List, [], ◌∷◌, ◌++◌, length, refl, lt-ltb, arith}
use Rattle.std.proofs.lemmas.Bool.{lt-leb}
use Rattle.opus_toc.specs.Configuration.{samples_of, row_of}
use Rattle.opus_flen.specs.PaddingLength.{most_full, full_bytes}
use Rattle.opus_packet.specs.declared.fault.Rule.TheVariants.{R1, R2, R3, R4, R5, R6, R7, PadLimit}
use Rattle.opus_packet.specs.Value.{PacketValue}
use Rattle.opus_packet.specs.Header.{header_bytes, equal}
use Rattle.opus_packet.specs.HeaderRead.{whole, shape_of, header_of, header_read}
use Rattle.opus_packet.specs.PacketGrammar.{IsPacket}
use Rattle.opus_packet.specs.PacketFault.{fault, packet_fault}
use Rattle.opus_packet.specs.Canonical.{canonical, pad_total, kept_form, kept_self_delimited}
use Rattle.opus_packet.specs.Spelled.{lengths_in}
use Rattle.opus_packet.specs.Tail.{tail_of, kept, counted}
use Rattle.opus_packet.specs.Refusals.{HasBadCount}

-- each rule, at the end of bytes that can go on or at the byte that can't stand

no_bytes : packet_fault [] ≡ fault R1 0
unfolding header_read
no_bytes = refl

odd_frames_of_code_1 : packet_fault (0xF9 ∷ 0xAA ∷ []) ≡ fault R3 2
unfolding header_read header_bytes
odd_frames_of_code_1 = refl

code_2_alone : packet_fault (0xFA ∷ []) ≡ fault R4 1
unfolding header_read header_bytes
code_2_alone = refl

code_2_with_half_a_length : packet_fault (0xFA ∷ 0xFC ∷ []) ≡ fault R4 2
unfolding header_read header_bytes
code_2_with_half_a_length = refl

code_2_with_half_a_frame : packet_fault (0xFA ∷ 0x05 ∷ 0xAA ∷ []) ≡ fault R4 3
unfolding header_read header_bytes
code_2_with_half_a_frame = refl

no_frames : packet_fault (0xFB ∷ 0x00 ∷ []) ≡ fault R5 1
unfolding header_read header_bytes
no_frames = refl

too_long : packet_fault (0xFB ∷ 0x07 ∷ []) ≡ fault R5 1
unfolding header_read header_bytes samples_of row_of
too_long = refl

code_3_alone : packet_fault (0xFB ∷ []) ≡ fault R6 1
unfolding header_read header_bytes
code_3_alone = refl

unequal_frames : packet_fault (0xFB ∷ 0x02 ∷ 0xAA ∷ []) ≡ fault R6 3
unfolding header_read header_bytes samples_of row_of
unequal_frames = refl

no_padding_length : packet_fault (0xFB ∷ 0x42 ∷ []) ≡ fault R6 2
unfolding header_read header_bytes samples_of row_of most_full
no_padding_length = refl

half_the_padding : packet_fault (0xFB ∷ 0x41 ∷ 0x05 ∷ 0x00 ∷ []) ≡ fault R6 4
unfolding header_read header_bytes samples_of row_of most_full
half_the_padding = refl

half_a_frame : packet_fault (0xFB ∷ 0x82 ∷ 0x03 ∷ 0xAA ∷ []) ≡ fault R7 4
unfolding header_read header_bytes samples_of row_of
half_a_frame = refl

-- one byte more than the longest packet of code 0, of code 1, and of code 2 with a first frame of two bytes

code_0_too_large : (bytes : List ℕ) → 1275 < length bytes → packet_fault (0xF8 ∷ bytes) ≡ fault R2 1276
unfolding header_read header_bytes
code_0_too_large bytes large = rw (lt-leb (length (0xF8 ∷ bytes)) 1276 (omega arith))

code_1_too_large : (bytes : List ℕ) → 2550 < length bytes → packet_fault (0xF9 ∷ bytes) ≡ fault R2 2551
unfolding header_read header_bytes
code_1_too_large bytes large = rw (lt-leb (length (0xF9 ∷ bytes)) 2551 (omega arith))

code_2_too_large : (byte : ℕ) (bytes : List ℕ) → 1276 < length bytes
    → packet_fault (0xFA ∷ 0x02 ∷ byte ∷ bytes) ≡ fault R2 1279
unfolding header_read header_bytes
code_2_too_large byte bytes large = rw (lt-leb (length (0xFA ∷ 0x02 ∷ byte ∷ bytes)) 1279 (omega arith))

-- a packet that says P = 2, with three frames: 2 + 2 + 3 * 1275 bytes at most
code_3_too_large : (bytes : List ℕ) → 3826 < length bytes
    → packet_fault (0xFB ∷ 0x43 ∷ 0x01 ∷ bytes) ≡ fault R2 3829
unfolding header_read header_bytes samples_of row_of most_full
code_3_too_large bytes large =
    rw (
      lt-ltb 0 (length (0x01 ∷ bytes)) (omega arith),
      lt-leb (length (0xFB ∷ 0x43 ∷ 0x01 ∷ bytes)) 3829 (omega arith),
    )

-- the 65,793rd byte 255 of a padding length
too_much_padding : (bytes : List ℕ) → 65792 < full_bytes bytes
    → packet_fault (0xFB ∷ 0x41 ∷ bytes) ≡ fault PadLimit 65794
unfolding header_read samples_of row_of most_full
too_much_padding bytes much = rw (lt-ltb 65792 (full_bytes bytes) much)

-- packets, their values, and their canonical forms

six_empty_frames : PacketValue
six_empty_frames =
    record { config = 31; stereo = false; frames = [] ∷ [] ∷ [] ∷ [] ∷ [] ∷ [] ∷ [] }

six_empty_frames-header : header_read (0xFB ∷ 0x06 ∷ [])
    ≡ whole (header_of 0xFB (shape_of 3 false 0) (equal 6))
unfolding header_read samples_of row_of
six_empty_frames-header = refl

six_empty_frames-packet : IsPacket six_empty_frames (shape_of 3 false 0) [] (0xFB ∷ 0x06 ∷ [])
unfolding six_empty_frames header_bytes samples_of row_of
six_empty_frames-packet = record {
  value = record {
    config = omega arith;
    some = omega arith;
    most = omega arith;
    each = (omega arith, (omega arith, (omega arith, (omega arith, (omega arith, (omega arith, tt))))));
    duration = omega arith;
  };
  suits = (omega arith, λ plain. (0, (refl, (refl, (refl, (refl, (refl, (refl, tt))))))));
  padding = refl;
  spelled = refl;
}

two_frames : PacketValue
two_frames =
    record { config = 31; stereo = false; frames = (0xAA ∷ 0xBB ∷ []) ∷ (0xCC ∷ 0xDD ∷ []) ∷ [] }

two_frames-packet : IsPacket two_frames (shape_of 2 false 0) []
    (0xFA ∷ 0x02 ∷ 0xAA ∷ 0xBB ∷ 0xCC ∷ 0xDD ∷ [])
unfolding two_frames header_bytes samples_of row_of
two_frames-packet = record {
  value = record {
    config = omega arith;
    some = omega arith;
    most = omega arith;
    each = (omega arith, (omega arith, tt));
    duration = omega arith;
  };
  suits = (refl, refl, refl);
  padding = refl;
  spelled = refl;
}

two_frames-canonical : canonical two_frames ≡ 0xF9 ∷ 0xAA ∷ 0xBB ∷ 0xCC ∷ 0xDD ∷ []
unfolding two_frames canonical header_bytes
two_frames-canonical = refl

padded_frames : PacketValue
padded_frames = record { config = 31; stereo = false; frames = (0xAA ∷ []) ∷ (0xBB ∷ []) ∷ [] }

padded_frames-packet : IsPacket padded_frames (shape_of 3 true 3) (0x00 ∷ 0x00 ∷ [])
    (0xFB ∷ 0xC2 ∷ 0x02 ∷ 0x01 ∷ 0xAA ∷ 0xBB ∷ 0x00 ∷ 0x00 ∷ [])
unfolding padded_frames header_bytes samples_of row_of
padded_frames-packet = record {
  value = record {
    config = omega arith;
    some = omega arith;
    most = omega arith;
    each = (omega arith, (omega arith, tt));
    duration = omega arith;
  };
  suits = (omega arith, λ plain. (1, (refl, (refl, tt))));
  padding = refl;
  spelled = refl;
}

padded_frames-canonical : canonical padded_frames ≡ 0xF9 ∷ 0xAA ∷ 0xBB ∷ []
unfolding padded_frames canonical header_bytes
padded_frames-canonical = refl

one_empty_frame : PacketValue
one_empty_frame = record { config = 1; stereo = false; frames = [] ∷ [] }

one_empty_frame-canonical : canonical one_empty_frame ≡ 0x08 ∷ []
unfolding one_empty_frame canonical header_bytes
one_empty_frame-canonical = refl

-- three frames, of one length and of two, have code 3
three_frames-canonical : canonical (record { config = 1; stereo = true; frames = [] ∷ [] ∷ [] ∷ [] })
    ≡ 0x0F ∷ 0x03 ∷ []
unfolding canonical header_bytes
three_frames-canonical = refl

unequal_frames-canonical :
    canonical (record { config = 1; stereo = true; frames = [] ∷ (0xAA ∷ []) ∷ [] ∷ [] })
    ≡ 0x0F ∷ 0x83 ∷ 0x00 ∷ 0x01 ∷ 0xAA ∷ []
unfolding canonical header_bytes
unequal_frames-canonical = refl

two_unequal_frames-canonical :
    canonical (record { config = 1; stereo = false; frames = [] ∷ (0xAA ∷ []) ∷ [] })
    ≡ 0x0A ∷ 0x00 ∷ 0xAA ∷ []
unfolding canonical header_bytes
two_unequal_frames-canonical = refl

-- lengths, one after another: of one byte, and of two

three_lengths : lengths_in 3 (0x05 ∷ 0xFC ∷ 0x00 ∷ 0xFF ∷ 0xFF ∷ []) ≡ 5 ∷ 252 ∷ 1275 ∷ []
three_lengths = refl

-- padding totals with the fewest length bytes: the last byte stands for 254 padding bytes where it can

pad_total-1 : pad_total 1 ≡ 2
pad_total-1 = refl

pad_total-254 : pad_total 254 ≡ 255
pad_total-254 = refl

pad_total-255 : pad_total 255 ≡ 257
pad_total-255 = refl

pad_total-508 : pad_total 508 ≡ 510
pad_total-508 = refl

pad_total-65535 : pad_total 65535 ≡ 65794
pad_total-65535 = refl

-- padding bytes are kept up to 65,535

most_kept : (tail : List ℕ) → length tail ≡ 65535 → tail_of tail ≡ kept tail
most_kept tail size = rw size refl

more_counted : (tail : List ℕ) → length tail ≡ 65536 → tail_of tail ≡ counted 65536
more_counted tail size = rw size refl

-- kept forms, in both framings

padded_frames-kept : kept_form padded_frames (0x11 ∷ 0x22 ∷ [])
    ≡ 0xFB ∷ 0x42 ∷ 0x02 ∷ 0xAA ∷ 0xBB ∷ 0x11 ∷ 0x22 ∷ []
unfolding padded_frames kept_form header_bytes
padded_frames-kept = refl

padded_frames-kept_nothing : kept_form padded_frames [] ≡ 0xF9 ∷ 0xAA ∷ 0xBB ∷ []
unfolding padded_frames kept_form header_bytes
padded_frames-kept_nothing = refl

one_frame : PacketValue
one_frame = record { config = 31; stereo = false; frames = (0xAA ∷ 0xBB ∷ []) ∷ [] }

one_frame-kept_self : kept_self_delimited one_frame (0x00 ∷ [])
    ≡ 0xFB ∷ 0x41 ∷ 0x01 ∷ 0x02 ∷ 0xAA ∷ 0xBB ∷ 0x00 ∷ []
unfolding one_frame kept_self_delimited header_bytes
one_frame-kept_self = refl

-- 254 padding bytes, whose length may be spelled FF 00 too
one_frame-kept_254 : (tail : List ℕ) → length tail ≡ 254
    → kept_form one_frame tail ≡ (0xFB ∷ 0x41 ∷ 0xFE ∷ 0xAA ∷ 0xBB ∷ []) ++ tail
unfolding one_frame kept_form header_bytes
one_frame-kept_254 tail size = rw size refl

-- counts that no packet has: none, and seven frames of 20 ms

count_of_none : HasBadCount (0xFB ∷ 0x00 ∷ [])
count_of_none = (refl, inl refl)

count_too_long : HasBadCount (0xFB ∷ 0x07 ∷ [])
unfolding samples_of row_of
count_too_long = (refl, inr (omega arith))
