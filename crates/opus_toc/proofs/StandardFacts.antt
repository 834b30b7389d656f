-- The standard's own figures, computed by the definitions.
use Rattle.std.proofs.Common.{◌≡◌, ℕ, ◌*◌, ◌/◌, true, false, List, [], ◌∷◌, ◌++◌, map, Some, None, refl}
use Rattle.std.specs.List.{range_with_len}
use Rattle.opus_toc.specs.Toc.{toc_byte}
use Rattle.opus_toc.specs.Configuration.{row_of, samples_of, mode_of, bandwidth_of}
use Rattle.opus_toc.specs.Flags.{silk_frames_in, flags_in, silk_flags}
use Rattle.opus_toc.specs.declared.toc.Mode.TheVariants.{Silk, Hybrid, Celt}
use Rattle.opus_toc.specs.declared.toc.Band.{Band}
use Rattle.opus_toc.specs.declared.toc.Band.TheVariants.{Narrow, Medium, Wide, SuperWide, Full}

-- the frame sizes of the table in tenths of a millisecond, 4.8 samples each (RFC 6716, 3.1, Table 2)
silk_sizes : List ℕ
silk_sizes = 100 ∷ 200 ∷ 400 ∷ 600 ∷ []

hybrid_sizes : List ℕ
hybrid_sizes = 100 ∷ 200 ∷ []

celt_sizes : List ℕ
celt_sizes = 25 ∷ 50 ∷ 100 ∷ 200 ∷ []

samples-by_row : map samples_of (range_with_len 0 32)
    ≡ map (λ tenths. 48 * tenths / 10)
    (silk_sizes ++ silk_sizes ++ silk_sizes ++ hybrid_sizes ++ hybrid_sizes
    ++ celt_sizes ++ celt_sizes ++ celt_sizes ++ celt_sizes)
unfolding samples_of row_of silk_sizes hybrid_sizes celt_sizes
samples-by_row = refl

four : Band → List Band
four band = band ∷ band ∷ band ∷ band ∷ []

bandwidths-by_row : map bandwidth_of (range_with_len 0 32)
    ≡ four Narrow ++ four Medium ++ four Wide
    ++ SuperWide ∷ SuperWide ∷ Full ∷ Full ∷ []
    ++ four Narrow ++ four Wide ++ four SuperWide ++ four Full
unfolding bandwidth_of row_of four
bandwidths-by_row = refl

modes-by_row : map mode_of (range_with_len 0 32)
    ≡ map (λ config. Silk) (range_with_len 0 12) ++ map (λ config. Hybrid) (range_with_len 12 4)
    ++ map (λ config. Celt) (range_with_len 16 16)
unfolding mode_of row_of
modes-by_row = refl

-- the first bytes of the standard's examples (RFC 6716, 3.3)

one_narrow_mono_silk_frame : toc_byte 1 false 0 ≡ 8
one_narrow_mono_silk_frame = refl

two_full_mono_celt_frames : toc_byte 29 false 1 ≡ 233
two_full_mono_celt_frames = refl

two_full_mono_hybrid_frames : toc_byte 15 false 3 ≡ 123
two_full_mono_hybrid_frames = refl

four_full_stereo_celt_frames : toc_byte 31 true 3 ≡ 255
four_full_stereo_celt_frames = refl

-- SILK frames of 10, 20, 40 and 60 milliseconds (RFC 6716, 4.2.2)
silk_frames-by_size : map (λ tenths. silk_frames_in (48 * tenths / 10)) silk_sizes ≡ 1 ∷ 1 ∷ 2 ∷ 3 ∷ []
unfolding silk_sizes
silk_frames-by_size = refl

-- flags (RFC 6716, 4.2.3): VAD of each SILK frame, then LBRR, mid before side, from the highest bit down

redundancy_of_one_mono_frame : silk_flags 1 false 0x40
    ≡ Some (record { silk_frames = 1; vad_mid = 0; lbrr_mid = true; vad_side = 0; lbrr_side = false })
unfolding samples_of mode_of row_of
redundancy_of_one_mono_frame = refl

redundancy_of_three_stereo_frames : silk_flags 3 true 0x11
    ≡ Some (record { silk_frames = 3; vad_mid = 0; lbrr_mid = true; vad_side = 0; lbrr_side = true })
unfolding samples_of mode_of row_of
redundancy_of_three_stereo_frames = refl

-- of two SILK frames the first alone is active in mid, and the second alone in side
activity_of_two_stereo_frames : flags_in 2 true 0x88
    ≡ record { silk_frames = 2; vad_mid = 2; lbrr_mid = false; vad_side = 1; lbrr_side = false }
activity_of_two_stereo_frames = refl

hybrid_frames_have_flags : silk_flags 15 true 0xA0
    ≡ Some (record { silk_frames = 1; vad_mid = 1; lbrr_mid = false; vad_side = 1; lbrr_side = false })
unfolding samples_of mode_of row_of
hybrid_frames_have_flags = refl

celt_frames_have_none : silk_flags 31 true 0xFF ≡ None
unfolding samples_of mode_of row_of
celt_frames_have_none = refl
