-- What the object of the job merge stands for.
use Rattle.std.specs.Prelude.{◌≡◌}
use Rattle.job_loop.specs.Shown.{Shown}
use Rattle.job_loop.specs.Meaning.{Meaning}
use Rattle.pack_records.specs.declared.cut.Cut.{Cut}
use Rattle.pack_records.specs.declared.item.Item.{Item}
use Rattle.pack_jobs.specs.declared.merge.Merge.{Merge}
use Rattle.pack_jobs.specs.Refusal.{Refusal}
use Rattle.job_ends.specs.Refusal.{told}
use Rattle.pack_jobs.specs.Merge.{Group, group_of, MergeKept, merge}

-- the job over records of the object's form
abbrev pub merge_job : Merge → Meaning (Shown Item) MergeKept Cut Refusal
merge_job m = merge m.form m.most

-- the object's open group
abbrev pub open_group : Merge → Group
open_group m = group_of m.frames m.left m.range

pub record MergeStands (m : Merge) (k : MergeKept) : Type 0 where
  pub count : m.count ≡ told k.count
  pub group : open_group m ≡ k.group
