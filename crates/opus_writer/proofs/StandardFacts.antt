-- Forms of given sizes, computed against the definitions.
use Rattle.std.proofs.Common.{◌≡◌, false, [], ◌∷◌, refl}
use Rattle.opus_packet.specs.Value.{PacketValue}
use Rattle.opus_packet.specs.Header.{header_bytes}
use Rattle.opus_packet.specs.Canonical.{canonical}
use Rattle.opus_writer.specs.Padded.{padded_by, padding_for, padded_to}

one_frame : PacketValue
one_frame = record { config = 31; stereo = false; frames = (0xAA ∷ []) ∷ [] }

-- its canonical form has two bytes; then code 3 has no padding, a padding length, and padding bytes

one_frame-2 : padded_to one_frame 2 ≡ 0xF8 ∷ 0xAA ∷ []
unfolding one_frame canonical padded_by header_bytes
one_frame-2 = refl

one_frame-3 : padded_to one_frame 3 ≡ 0xFB ∷ 0x01 ∷ 0xAA ∷ []
unfolding one_frame canonical padded_by header_bytes
one_frame-3 = refl

one_frame-4 : padded_to one_frame 4 ≡ 0xFB ∷ 0x41 ∷ 0x00 ∷ 0xAA ∷ []
unfolding one_frame canonical padded_by header_bytes
one_frame-4 = refl

one_frame-5 : padded_to one_frame 5 ≡ 0xFB ∷ 0x41 ∷ 0x01 ∷ 0xAA ∷ 0x00 ∷ []
unfolding one_frame canonical padded_by header_bytes
one_frame-5 = refl

-- the first size above the limit: 2^24 bytes of padding
one_frame-limit : padding_for one_frame 16777219 ≡ 16777216
unfolding one_frame padded_by header_bytes
one_frame-limit = refl

-- two frames of two lengths have VBR
two_frames : PacketValue
two_frames = record { config = 1; stereo = false; frames = [] ∷ (0xAA ∷ []) ∷ [] }

two_frames-4 : padded_to two_frames 4 ≡ 0x0B ∷ 0x82 ∷ 0x00 ∷ 0xAA ∷ []
unfolding two_frames canonical padded_by header_bytes
two_frames-4 = refl
