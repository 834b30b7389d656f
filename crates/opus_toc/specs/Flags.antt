-- The flags at the front of a SILK or Hybrid frame (RFC 6716, 4.2.3).
use Rattle.std.specs.Prelude.{ℕ, ◌+◌, ◌-◌, ◌*◌, ◌/◌, ◌%◌, ◌^◌, Bool, false, ◌==◌, if◌then◌else◌, List, [], ◌∷◌, Option, None, Some}
use Rattle.opus_toc.specs.Configuration.{samples_of, mode_of}
use Rattle.opus_toc.specs.declared.toc.Mode.{Mode}
use Rattle.opus_toc.specs.declared.toc.Mode.TheVariants.{Silk, Hybrid, Celt}
use Rattle.opus_toc.specs.declared.silk_flags.Flags.{Flags}

-- SILK frames of a frame with so many samples at 48 kHz: one for each 20 ms begun (RFC 6716, 4.2.2)
abbrev pub silk_frames_in : ℕ → ℕ
silk_frames_in samples = (samples + 959) / 960

-- so many bits of a byte from a place on, as a number; place 0 is the highest bit
abbrev pub bits_at : ℕ → ℕ → ℕ → ℕ
bits_at byte place count = (byte / 2 ^ (8 - (place + count))) % 2 ^ count

abbrev pub bit_at : ℕ → ℕ → Bool
bit_at byte place = bits_at byte place 1 == 1

-- n VAD bits and one LBRR bit for mid, and for stereo the same for side, from the top of the byte down
abbrev pub flags_in : ℕ → Bool → ℕ → Flags
flags_in n stereo byte = record {
  silk_frames = n;
  vad_mid = bits_at byte 0 n;
  lbrr_mid = bit_at byte n;
  vad_side = if stereo then bits_at byte (n + 1) n else 0;
  lbrr_side = if stereo then bit_at byte (2 * n + 1) else false;
}

-- the flags in a frame's first byte; a CELT frame has none
abbrev pub flags_by : Mode → ℕ → Bool → ℕ → Option Flags
flags_by Silk n stereo byte = Some (flags_in n stereo byte)
flags_by Hybrid n stereo byte = Some (flags_in n stereo byte)
flags_by Celt n stereo byte = None

abbrev pub silk_flags : ℕ → Bool → ℕ → Option Flags
silk_flags config stereo byte =
    flags_by (mode_of config) (silk_frames_in (samples_of config)) stereo byte

-- the flags of a whole frame; one without data has none
abbrev pub frame_flags : ℕ → Bool → List ℕ → Option Flags
frame_flags config stereo [] = None
frame_flags config stereo (byte ∷ bytes) = silk_flags config stereo byte
