-- What a `Repacketizer` keeps, and what it stands for.
use Rattle.std.specs.Prelude.{◌≡◌, ℕ, zero, suc, ◌*◌, ◌<◌, ◌≤◌, List, length, take, sum, All, Option, Some, None, vec_len, vec_capacity}
use Rattle.opus_toc.specs.Configuration.{samples_of}
use Rattle.opus_packet.specs.Value.{PacketValue, max_frame, max_duration}
use Rattle.opus_packet.specs.Cut.{cut}
use Rattle.opus_repack.specs.declared.repacketizer.Repacketizer.TheInside.{Inside}

-- the lengths of the frames so far
abbrev pub lens_inside : Inside → List ℕ
lens_inside r = take r.count r.lens

-- their value, where there are some
abbrev pub value_inside : Inside → PacketValue
value_inside r = record {
  config = r.config;
  stereo = r.stereo;
  frames = cut (take r.size r.bytes.items) (lens_inside r);
}

-- a value, where there are some frames
abbrev pub some_value : ℕ → PacketValue → Option PacketValue
some_value zero v = None
some_value (suc count) v = Some v

abbrev pub collected_inside : Inside → Option PacketValue
collected_inside r = some_value r.count (value_inside r)

-- the frames fill the first bytes, and can be one packet; there is memory for just these bytes
pub record IsCollected (r : Inside) : Type 0 where
  pub memory : vec_len r.bytes ≡ 61200
  pub capacity : vec_capacity r.bytes ≡ 61200
  pub config_in : r.config < 32
  pub most : r.count ≤ 48
  pub counted : length (lens_inside r) ≡ r.count
  pub lasts : r.count * samples_of r.config ≤ max_duration
  pub each : All (λ n. n ≤ max_frame) (lens_inside r)
  pub fills : r.size ≡ sum (lens_inside r)
