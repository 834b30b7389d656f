-- The job that the object of pad does.
use Rattle.std.specs.Prelude.{ℕ, vec_capacity}
use Rattle.job_loop.specs.Shown.{Shown}
use Rattle.job_loop.specs.Meaning.{Meaning}
use Rattle.job_ends.specs.declared.each.Each.{Each}
use Rattle.job_ends.specs.EachStands.{maker_of}
use Rattle.pack_records.specs.declared.cut.Cut.{Cut}
use Rattle.pack_records.specs.declared.item.Item.{Item}
use Rattle.pack_jobs.specs.declared.pad.Pad.{Pad}
use Rattle.pack_jobs.specs.Refusal.{Refusal}
use Rattle.pack_jobs.specs.Pad.{pad}

-- over records of the object's form
abbrev pub pad_job : Each Pad → Meaning (Shown Item) ℕ Cut Refusal
pad_job e = pad (maker_of e).form (maker_of e).size

-- bytes of its own memory, where padded forms are made
abbrev pub padded_room : Each Pad → ℕ
padded_room e = vec_capacity (maker_of e).padded
