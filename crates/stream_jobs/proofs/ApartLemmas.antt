-- What the job apart writes, piece by piece.
use Rattle.std.proofs.Common.{◌≡◌, ℕ, suc, ◌+◌, ◌-◌, ◌<◌, ◌++◌, ap, arith}
use Rattle.stream_jobs.specs.Apart.{lost_record, lost_records}

-- one lost record of those that are left
pub lost-next : (count at : ℕ) → at < count
    → lost_records (count - at) ≡ lost_record ++ lost_records (count - (at + 1))
lost-next count at some =
    let left : count - at ≡ suc (count - (at + 1)) = omega (arith, some) in ap lost_records left
