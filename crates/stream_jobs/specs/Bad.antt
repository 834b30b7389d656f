-- Why a record that holds no multistream packet is refused, and where; or one whose padding bytes aren't kept.
use Rattle.std.specs.Prelude.{ℕ, ◌+◌, ◌==◌, if◌then◌else◌}
use Rattle.opus_packet.specs.declared.fault.Fault as faults
use Rattle.job_ends.specs.Refusal.{told}
use Rattle.stream_jobs.specs.declared.refusal.StreamWhy.{StreamWhy}
use Rattle.stream_jobs.specs.declared.refusal.StreamWhy.TheVariants as why

-- of so many streams this one doesn't read: the only one isn't named
abbrev pub fault_why : ℕ → ℕ → faults.Fault → StreamWhy
fault_why streams stream fault = if streams == 1 then why.Fault fault else why.StreamFault stream fault

-- of so many streams this one has more padding bytes than are kept
abbrev pub long_why : ℕ → ℕ → StreamWhy
long_why streams stream = if streams == 1 then why.PaddingLong else why.StreamPaddingLong stream

-- the place in the input of a fault of a packet that begins at `start`
abbrev pub bad_place : ℕ → faults.Fault → ℕ
bad_place start fault = told (start + fault.place)
