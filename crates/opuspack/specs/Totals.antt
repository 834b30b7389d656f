-- What is told of made records in the end.
use Rattle.std.specs.Prelude.{ℕ, List, [], ◌∷◌, ◌++◌, ◌≡◌, ◌+◌, Option, None, Some, length, sum, sum_by, codes, decimal}
use Rattle.opus_packet.specs.Value.{PacketValue, duration_of}
use Rattle.opus_packet.specs.Canonical.{canonical}
use Rattle.job_ends.specs.Refusal.{told}
use Rattle.pack_jobs.specs.Named.{named}
use Rattle.opuspack.specs.declared.made.MadeRecord.{MadeRecord}
use Rattle.opuspack.specs.declared.totals.Totals.{Totals}
use Rattle.opuspack.specs.Made.{made_bytes}
use Rattle.opuspack.specs.MadePackets.{made_packet}

-- ---- what one record adds

abbrev pub packet_in : MadeRecord → Option PacketValue
packet_in r = made_packet r.seed r.number

abbrev pub lost_in : Option PacketValue → ℕ
lost_in None = 1
lost_in (Some v) = 0

abbrev pub frames_in : Option PacketValue → ℕ
frames_in None = 0
frames_in (Some v) = length v.frames

-- at 48 kHz
abbrev pub samples_in : Option PacketValue → ℕ
samples_in None = 0
samples_in (Some v) = duration_of v

-- the canonical form, and nothing of a lost record
abbrev pub normal_form : Option PacketValue → List ℕ
normal_form None = []
normal_form (Some v) = canonical v

-- ---- and what all add: `size_in` are bytes as they were made, `size_out` those of the canonical forms, which `sum` adds up

abbrev pub totals_of : List MadeRecord → Totals
totals_of rs = record {
  records = length rs;
  lost = sum_by (λ r. lost_in (packet_in r)) rs;
  frames = sum_by (λ r. frames_in (packet_in r)) rs;
  samples = sum_by (λ r. samples_in (packet_in r)) rs;
  size_in = sum_by (λ r. length (made_bytes r.seed r.number)) rs;
  size_out = sum_by (λ r. length (normal_form (packet_in r))) rs;
  sum = sum_by (λ r. sum (normal_form (packet_in r))) rs;
}

-- each as it is told, in 64 bits
abbrev pub told_totals : Totals → Totals
told_totals t = record {
  records = told t.records;
  lost = told t.lost;
  frames = told t.frames;
  samples = told t.samples;
  size_in = told t.size_in;
  size_out = told t.size_out;
  sum = told t.sum;
}

unfoldable pub totals_line : Totals → List ℕ
totals_line t =
    codes "records " ++ decimal t.records ++ named (codes "lost") t.lost ++ named (codes "frames") t.frames
    ++ named (codes "samples") t.samples ++ named (codes "in") t.size_in ++ named (codes "out") t.size_out
    ++ named (codes "sum") t.sum ++ 10 ∷ []

-- what a packet of so many bytes adds to totals as they are told
pub record Adds (old new : Totals) (v : PacketValue) (size : ℕ) : Type 0 where
  pub records : new.records ≡ told (old.records + 1)
  pub lost : new.lost ≡ old.lost
  pub frames : new.frames ≡ told (old.frames + length v.frames)
  pub samples : new.samples ≡ told (old.samples + duration_of v)
  pub size_in : new.size_in ≡ told (old.size_in + size)
  pub size_out : new.size_out ≡ told (old.size_out + length (canonical v))
  pub sum_is : new.sum ≡ told (old.sum + sum (canonical v))
