-- A packet's frames behind those so far.
use Rattle.std.proofs.Common.{◌≡◌, ℕ, ◌+◌, ◌*◌, ◌≤◌, Some, refl, ◌++◌, length, map, take, sum, All, sym, ap, ◌∙◌, subst, length-append, arith}
use Rattle.std.specs.List.{concat}
use Rattle.std.proofs.lemmas.List.{length-map}
use Rattle.std.proofs.lemmas.List.Elements.{All-append}
use Rattle.std.proofs.lemmas.List.Sums.{sum_by-append, sum_by-le}
use Rattle.std.specs.Vec.{vec_len, vec_capacity}
use Rattle.opus_toc.specs.Configuration.{samples_of}
use Rattle.opus_packet.specs.Value.{PacketValue, IsPacketValue, max_frame, max_duration}
use Rattle.opus_packet.specs.Cut.{cut}
use Rattle.opus_packet.proofs.CutLemmas.{cut-concat, length-concat}
use Rattle.opus_packet.proofs.HeaderBegins.{frames-most}
use Rattle.opus_repack.specs.declared.repacketizer.Repacketizer.TheInside.{Inside}
use Rattle.opus_repack.specs.Collected.{GoesBehind, with_frames}
use Rattle.opus_repack.specs.Inside.{lens_inside, value_inside, collected_inside, IsCollected}
use Rattle.opus_repack.proofs.CutLemmas.{cut-append}
use Rattle.opus_repack.proofs.CollectedLemmas.{lasts-behind, pushed}
use Rattle.opus_repack.proofs.InsideLemmas.{count-inside, size-inside}

-- the packet's kind, and its lengths and bytes behind the others
pub record IsPushed (r : Inside) (w : PacketValue) (n : Inside) : Type 0 where
  pub memory : vec_len n.bytes ≡ 61200
  pub capacity : vec_capacity n.bytes ≡ 61200
  pub config_is : n.config ≡ w.config
  pub stereo_is : n.stereo ≡ w.stereo
  pub count_is : n.count ≡ r.count + length w.frames
  pub lens_are : lens_inside n ≡ lens_inside r ++ map length w.frames
  pub each : All (λ k. k ≤ max_frame) (map length w.frames)
  pub size_is : n.size ≡ r.size + length (concat w.frames)
  pub bytes_are : take n.size n.bytes.items ≡ take r.size r.bytes.items ++ concat w.frames

-- how long all frames last together, and so how many they are
pub lasts-pushed : (r : Inside) (w : PacketValue) → IsCollected r → IsPacketValue w → GoesBehind (collected_inside r) w
    → (r.count + length w.frames) * samples_of w.config ≤ max_duration
lasts-pushed r w is value goes = lasts-behind r.count (value_inside r) w (count-inside r is) value goes

pub most-pushed : (r : Inside) (w : PacketValue) → IsCollected r → IsPacketValue w → GoesBehind (collected_inside r) w
    → r.count + length w.frames ≤ 48
most-pushed r w is value goes = frames-most w.config (r.count + length w.frames) value.config (lasts-pushed r w is value goes)

-- and how many bytes they have
pub size-pushed : (r : Inside) (w : PacketValue) → IsCollected r → IsPacketValue w → GoesBehind (collected_inside r) w
    → All (λ k. k ≤ max_frame) (map length w.frames) → r.size + length (concat w.frames) ≤ 61200
size-pushed r w is value goes each =
    let most = most-pushed r w is value goes in
    let old = sum_by-le (λ (k : ℕ). k) max_frame (lens_inside r) is.each in
    let more = sum_by-le (λ (k : ℕ). k) max_frame (map length w.frames) each in
    omega (arith, most, old, more, is.fills, is.counted, length-concat w.frames, length-map w.frames (length {A = ℕ}))

pub Pushed-collected : (r : Inside) (w : PacketValue) (n : Inside) → IsCollected r → IsPacketValue w
    → GoesBehind (collected_inside r) w → IsPushed r w n → IsCollected n
Pushed-collected r w n is value goes new =
    let more = map (length {A = ℕ}) w.frames in
    let counts = ap length new.lens_are ∙ length-append (lens_inside r) more in
    let sums : sum (lens_inside n) ≡ sum (lens_inside r) + sum more =
    ap sum new.lens_are ∙ sum_by-append (λ (k : ℕ). k) (lens_inside r) more in
    record {
      memory = new.memory;
      capacity = new.capacity;
      config_in = omega (arith, new.config_is, value.config);
      most = omega (arith, new.count_is, most-pushed r w is value goes);
      counted = omega (arith, counts, is.counted, new.count_is, length-map w.frames (length {A = ℕ}));
      lasts =
          subst (λ k. k * samples_of n.config ≤ max_duration) (sym new.count_is)
          (subst (λ k. (r.count + length w.frames) * samples_of k ≤ max_duration) (sym new.config_is) (lasts-pushed r w is value goes));
      each =
          subst (λ l. All (λ k. k ≤ max_frame) l) (sym new.lens_are)
          (All-append (λ k. k ≤ max_frame) (lens_inside r) more is.each new.each);
      fills = omega (arith, sums, new.size_is, is.fills, length-concat w.frames);
    }

pub Pushed-value : (r : Inside) (w : PacketValue) (n : Inside) → IsCollected r → IsPacketValue w
    → GoesBehind (collected_inside r) w → IsPushed r w n
    → collected_inside n ≡ Some (with_frames (collected_inside r) w)
Pushed-value r w n is value goes new =
    let frames : cut (take n.size n.bytes.items) (lens_inside n) ≡ (value_inside r).frames ++ w.frames =
    ap (λ b. cut b (lens_inside n)) new.bytes_are
    ∙ ap (λ l. cut (take r.size r.bytes.items ++ concat w.frames) l) new.lens_are
    ∙ cut-append (take r.size r.bytes.items) (concat w.frames) (lens_inside r) (map length w.frames) (sym is.fills ∙ size-inside r r.bytes.items is refl)
    ∙ ap (λ fs. (value_inside r).frames ++ fs) (cut-concat w.frames) in
    pushed r.count n.count (value_inside r) w (value_inside n) (count-inside r is) (omega (arith, new.count_is, value.some)) goes new.config_is new.stereo_is frames
