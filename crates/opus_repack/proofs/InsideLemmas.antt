-- What follows from the numbers that a `Repacketizer` keeps.
use Rattle.std.proofs.Common.{◌≡◌, ℕ, ◌≤◌, ◌∙◌, length, take, sym, ap, List, arith, length-take-le}
use Rattle.std.proofs.lemmas.List.Sums.{sum_by-le}
use Rattle.opus_packet.specs.Value.{IsPacketValue, max_frame}
use Rattle.opus_packet.proofs.CutLemmas.{length-cut}
use Rattle.opus_packet.proofs.LensLemmas.{cut-frames}
use Rattle.opus_repack.specs.declared.repacketizer.Repacketizer.TheInside.{Inside}
use Rattle.opus_repack.specs.Inside.{lens_inside, value_inside, IsCollected}

pub count-inside : (r : Inside) → IsCollected r → length (value_inside r).frames ≡ r.count
count-inside r is = length-cut (take r.size r.bytes.items) (lens_inside r) ∙ is.counted

pub size-most : (r : Inside) → IsCollected r → r.size ≤ 61200
size-most r is = omega (arith, is.fills, is.most, is.counted, sum_by-le (λ (n : ℕ). n) max_frame (lens_inside r) is.each)

pub value-inside : (r : Inside) → IsCollected r → 1 ≤ r.count → IsPacketValue (value_inside r)
value-inside r is some =
    let count = count-inside r is in
    record {
      config = is.config_in;
      some = omega (arith, count);
      most = omega (arith, count, is.most);
      each = cut-frames (take r.size r.bytes.items) (lens_inside r) is.each;
      duration = rw count is.lasts;
    }

-- the bytes of all frames stand first
pub size-inside : (r : Inside) (bytes : List ℕ) → IsCollected r → bytes ≡ r.bytes.items
    → r.size ≡ length (take r.size bytes)
size-inside r bytes is same =
    sym (length-take-le r.size bytes (omega (arith, size-most r is, is.memory, ap length same)))
