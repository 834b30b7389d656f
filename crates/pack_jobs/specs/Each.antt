-- A job that makes something of each record of packets by itself.
use Rattle.std.specs.Prelude.{ℕ, ◌+◌}
use Rattle.job_loop.specs.Shown.{Shown}
use Rattle.job_loop.specs.Meaning.{Meaning}
use Rattle.opus_packet.specs.declared.fault.Fault as faults
use Rattle.job_ends.specs.Refusal.{told}
use Rattle.job_ends.specs.Each as ends
use Rattle.job_ends.specs.Each.{Made, refuses}
use Rattle.pack_records.specs.declared.cut.Cut.{Cut}
use Rattle.pack_records.specs.declared.item.Item.{Item}
use Rattle.pack_jobs.specs.declared.refusal.Why.{Why}
use Rattle.pack_jobs.specs.declared.refusal.Why.TheVariants.{Fault}
use Rattle.pack_jobs.specs.Refusal.{Refusal, cut_refusal}

-- a record that holds no packet is refused, at its fault
abbrev pub bad_made : Item → faults.Fault → Made Why
bad_made item fault = refuses (told (item.start + fault.place)) (Fault fault)

-- the job that makes this of each record, which has this number
abbrev pub each : (ℕ → Shown Item → Made Why) → Meaning (Shown Item) ℕ Cut Refusal
each made = ends.each cut_refusal made
