-- The first records of seed 0, computed by the definitions.
use Rattle.std.proofs.Common.{◌≡◌, false, [], ◌∷◌, length, replicate, take, refl}
use Rattle.opus_toc.specs.Configuration.{samples_of, row_of}
use Rattle.opus_make.specs.Draws.{draws}
use Rattle.opus_make.specs.Plan.{plan_at, state_behind_plan}
use Rattle.opus_make.specs.Written.{frames_from, packet_of}
use Rattle.opus_make.specs.Generated.{packet, state_before, generated, record_bytes}
use Rattle.opus_make.specs.Draws.{next_state}

first_numbers : draws 7 0 ≡ 0x3C6E ∷ 0x4750 ∷ 0xD1CC ∷ 0xAAF9 ∷ 0x6252 ∷ 0x9F2E ∷ 0x57FE ∷ []
first_numbers = refl

-- record 0 has one frame of eight bytes, in configuration 16, mono
record_0 : generated 0 0 ≡ packet (0x80 ∷ 0 ∷ 1 ∷ 2 ∷ 3 ∷ 4 ∷ 5 ∷ 6 ∷ 7 ∷ [])
unfolding plan_at packet_of samples_of row_of
record_0 = refl

-- record 1 has eleven frames of 26 bytes in code 3 without VBR, and a padding total of 4
record_1_plan : plan_at (next_state (state_before 0 1)) ≡ record {
  config = 18;
  stereo = false;
  form = record { code = 3; vbr = false; count = 11; pad = 4 };
  lengths = replicate 11 26;
}
unfolding plan_at state_behind_plan samples_of row_of
record_1_plan = refl

record_1_front : take 4 (record_bytes (generated 0 1)) ≡ 0x93 ∷ 0x4B ∷ 3 ∷ 0 ∷ []
unfolding plan_at state_behind_plan packet_of samples_of row_of
record_1_front = refl

record_1_size : length (record_bytes (generated 0 1)) ≡ 292
unfolding plan_at state_behind_plan packet_of samples_of row_of
record_1_size = refl

-- the bytes of a frame begin with its number
two_frames : frames_from 0 (3 ∷ 2 ∷ []) ≡ 0 ∷ 1 ∷ 2 ∷ 1 ∷ 2 ∷ []
two_frames = refl
