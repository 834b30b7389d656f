-- Small values joined and parted, computed against the definitions.
use Rattle.std.proofs.Common.{◌≡◌, ℕ, Bool, true, false, Some, None, List, [], ◌∷◌, replicate, refl, arith}
use Rattle.opus_toc.specs.Configuration.{samples_of, row_of}
use Rattle.opus_packet.specs.Value.{PacketValue, duration_of}
use Rattle.opus_packet.specs.Header.{header_bytes}
use Rattle.opus_packet.specs.Canonical.{canonical}
use Rattle.opus_repack.specs.Joined.{joined}
use Rattle.opus_repack.specs.Parts.{slice_of, parts_from}
use Rattle.opus_repack.specs.Collected.{with_frames, GoesBehind, IsMixed, IsTooLong}

-- frames of 20 ms, fullband, mono or stereo
abbrev packet : Bool → List (List ℕ) → PacketValue
packet stereo frames = record { config = 31; stereo = stereo; frames = frames }

abbrev first : PacketValue
first = packet false ((0xAA ∷ []) ∷ [])

abbrev second : PacketValue
second = packet false ((0xBB ∷ []) ∷ [])

abbrev third : PacketValue
third = packet false ((0xCC ∷ []) ∷ [])

abbrev all_three : PacketValue
all_three = packet false ((0xAA ∷ []) ∷ (0xBB ∷ []) ∷ (0xCC ∷ []) ∷ [])

abbrev frames_of : ℕ → PacketValue
frames_of count = packet false (replicate count (0xAA ∷ []))

-- three packets of one frame are one of three

three_joined : with_frames (Some (with_frames (Some (with_frames None first)) second)) third ≡ all_three
three_joined = refl

three_joined-canonical : canonical (joined (joined first second) third) ≡ 0xFB ∷ 0x03 ∷ 0xAA ∷ 0xBB ∷ 0xCC ∷ []
unfolding canonical header_bytes
three_joined-canonical = refl

-- and come apart as one of two and one of one

two_of_three : canonical (slice_of all_three 0 2) ≡ 0xF9 ∷ 0xAA ∷ 0xBB ∷ []
unfolding canonical header_bytes
two_of_three = refl

last_of_three : canonical (slice_of all_three 2 3) ≡ 0xF8 ∷ 0xCC ∷ []
unfolding canonical header_bytes
last_of_three = refl

parts_of_three : parts_from all_three 0 (2 ∷ 1 ∷ [])
    ≡ packet false ((0xAA ∷ []) ∷ (0xBB ∷ []) ∷ []) ∷ third ∷ []
parts_of_three = refl

-- six frames of 20 ms last 120 ms, and a seventh is too long

six_frames : duration_of (frames_of 6) ≡ 5760
unfolding samples_of row_of
six_frames = refl

sixth_goes : GoesBehind (Some (frames_of 5)) first
unfolding samples_of row_of
sixth_goes = record { kind = record { config = refl; stereo = refl }; lasts = omega arith }

seventh_too_long : IsTooLong (Some (frames_of 6)) first
unfolding samples_of row_of
seventh_too_long = (record { config = refl; stereo = refl }, omega arith)

-- stereo frames and those of another configuration aren't of the kind, also where all would be too long

stereo_mixed : IsMixed (Some first) (packet true ((0xBB ∷ []) ∷ []))
stereo_mixed same = cc

config_mixed : IsMixed (Some (frames_of 6))
    (record { config = 30; stereo = false; frames = (0xBB ∷ []) ∷ [] })
config_mixed same = cc

-- where there are no frames, every packet goes

any_first : GoesBehind None (packet true ((0xBB ∷ []) ∷ []))
any_first = tt
