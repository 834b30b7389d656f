-- The flags of a frame, made of the bits of each channel.
use Rattle.std.proofs.Common.{◌≡◌, ℕ, ◌+◌, ◌*◌, ◌/◌, ◌%◌, ◌<◌, Bool, true, false, nat_eq, if◌then◌else◌, refl, arith}
use Rattle.opus_toc.specs.Flags.{bits_at, flags_in}
use Rattle.opus_toc.specs.declared.silk_flags.Flags.{Flags}

-- the bits of mid, and those behind them that are side's where there is one
pub record ChannelBits (n first mid behind : ℕ) : Type 0 where
  pub vad_mid : mid / 2 ≡ bits_at first 0 n
  pub lbrr_mid : mid % 2 ≡ bits_at first n 1
  pub vad_side : behind / 2 ≡ bits_at first (n + 1) n
  pub lbrr_side : behind % 2 ≡ bits_at first (2 * n + 1) 1

pub one_frame : (first : ℕ) → first < 256 → ChannelBits 1 first (first / 64) ((first / 16) % 4)
one_frame first fits = record {
  vad_mid = omega arith;
  lbrr_mid = omega arith;
  vad_side = omega arith;
  lbrr_side = omega arith;
}

pub two_frames : (first : ℕ) → first < 256 → ChannelBits 2 first (first / 32) ((first / 4) % 8)
two_frames first fits = record {
  vad_mid = omega arith;
  lbrr_mid = omega arith;
  vad_side = omega arith;
  lbrr_side = omega arith;
}

pub three_frames : (first : ℕ) → first < 256 → ChannelBits 3 first (first / 16) (first % 16)
three_frames first fits = record {
  vad_mid = omega arith;
  lbrr_mid = omega arith;
  vad_side = omega arith;
  lbrr_side = omega arith;
}

abbrev pub flags_made : ℕ → ℕ → ℕ → Flags
flags_made n mid side = record {
  silk_frames = n;
  vad_mid = mid / 2;
  lbrr_mid = nat_eq (mid % 2) 1;
  vad_side = side / 2;
  lbrr_side = nat_eq (side % 2) 1;
}

pub flags_in-made : (n first mid behind side : ℕ) (stereo : Bool) → ChannelBits n first mid behind
    → side ≡ (if stereo then behind else 0) → flags_made n mid side ≡ flags_in n stereo first
flags_in-made n first mid behind side true bits is =
    rw (is, bits.vad_mid, bits.lbrr_mid, bits.vad_side, bits.lbrr_side) refl
flags_in-made n first mid behind side false bits is = rw (is, bits.vad_mid, bits.lbrr_mid) refl
