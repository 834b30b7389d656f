-- What the object of the job sdp stands for.
use Rattle.std.specs.Prelude.{◌≡◌, ℕ}
use Rattle.text_jobs.specs.declared.sdp.Sdp.{Sdp}
use Rattle.job_ends.specs.Refusal.{told}

abbrev pub SdpStands : Sdp → ℕ → Type 0
SdpStands s number = s.count ≡ told number
