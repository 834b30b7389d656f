-- The bytes that frames are cut from.
use Rattle.std.specs.Prelude.{ℕ, ◌%◌, List, map}
use Rattle.std.specs.List.{range_with_len}

-- 0 to 255 and 0 to 90: each frame is a part of them
unfoldable pub ramp_bytes : List ℕ
ramp_bytes = map (λ i. i % 256) (range_with_len 0 347)
