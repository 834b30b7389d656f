-- What a `Frames` still gives.
use Rattle.std.specs.Prelude.{◌≡◌, List, ℕ, length, sum}
use Rattle.opus_packet.specs.declared.frames.Frames.TheInside.{Inside}
use Rattle.opus_packet.specs.Cut.{cut}

-- the frames that are to come
abbrev pub frames_inside : Inside → List (List ℕ)
frames_inside f = cut f.body.now f.lens

-- they fill the bytes that are to come
abbrev pub AreFrames : Inside → Type 0
AreFrames f = sum f.lens ≡ length f.body.now
