-- Totals of records, one after another, and how large they can get.
use Rattle.std.proofs.Common.{◌≡◌, ℕ, ◌+◌, List, [], ◌∷◌, ◌++◌, length, sum, sum_by, None, Some, ap, ◌∙◌, length-append, arith}
use Rattle.std.proofs.lemmas.List.Sums.{sum_by-append, sum_by-cons}
use Rattle.opus_packet.specs.Value.{PacketValue, duration_of}
use Rattle.opus_packet.specs.Canonical.{canonical}
use Rattle.job_ends.specs.Refusal.{told}
use Rattle.opuspack.specs.declared.made.MadeRecord.{MadeRecord}
use Rattle.opuspack.specs.declared.totals.Totals.{Totals}
use Rattle.opuspack.specs.Made.{made_bytes}
use Rattle.opuspack.specs.Totals.{packet_in, lost_in, frames_in, samples_in, normal_form, totals_of, told_totals, Adds}

pub same_totals : (t u : Totals) → t.records ≡ u.records → t.lost ≡ u.lost → t.frames ≡ u.frames → t.samples ≡ u.samples
    → t.size_in ≡ u.size_in → t.size_out ≡ u.size_out → t.sum ≡ u.sum → t ≡ u
same_totals t u records lost frames samples size_in size_out sum i = record {
  records = records i;
  lost = lost i;
  frames = frames i;
  samples = samples i;
  size_in = size_in i;
  size_out = size_out i;
  sum = sum i;
}

told_count : (rs : List MadeRecord) (r : MadeRecord) (a : ℕ) → a ≡ told (length rs) → told (a + 1) ≡ told (length (rs ++ r ∷ []))
told_count rs r a is = omega (arith, length-append rs (r ∷ []))

-- one record more
told_sum : (f : MadeRecord → ℕ) (rs : List MadeRecord) (r : MadeRecord) (a n : ℕ) → a ≡ told (sum_by f rs) → f r ≡ n
    → told (a + n) ≡ told (sum_by f (rs ++ r ∷ []))
told_sum f rs r a n is adds = omega (arith, sum_by-append f rs (r ∷ []), sum_by-cons f r [])

same_sum : (f : MadeRecord → ℕ) (rs : List MadeRecord) (r : MadeRecord) (a : ℕ) → a ≡ told (sum_by f rs) → f r ≡ 0
    → a ≡ told (sum_by f (rs ++ r ∷ []))
same_sum f rs r a is adds = omega (arith, sum_by-append f rs (r ∷ []), sum_by-cons f r [])

pub lost_stands : (t : Totals) (rs : List MadeRecord) (r : MadeRecord) → t ≡ told_totals (totals_of rs) → packet_in r ≡ None
    → made_bytes r.seed r.number ≡ []
    → record t { records = told (t.records + 1); lost = told (t.lost + 1) } ≡ told_totals (totals_of (rs ++ r ∷ []))
lost_stands t rs r is lost empty =
    let new : Totals = record t { records = told (t.records + 1); lost = told (t.lost + 1) } in
    same_totals new (told_totals (totals_of (rs ++ r ∷ [])))
    (told_count rs r t.records (ap (λ (u : Totals). u.records) is))
    (told_sum (λ r. lost_in (packet_in r)) rs r t.lost 1 (ap (λ (u : Totals). u.lost) is) (ap lost_in lost))
    (same_sum (λ r. frames_in (packet_in r)) rs r t.frames (ap (λ (u : Totals). u.frames) is) (ap frames_in lost))
    (same_sum (λ r. samples_in (packet_in r)) rs r t.samples (ap (λ (u : Totals). u.samples) is) (ap samples_in lost))
    (same_sum (λ r. length (made_bytes r.seed r.number)) rs r t.size_in (ap (λ (u : Totals). u.size_in) is) (ap length empty))
    (same_sum (λ r. length (normal_form (packet_in r))) rs r t.size_out (ap (λ (u : Totals). u.size_out) is)
    (ap (λ o. length (normal_form o)) lost))
    (same_sum (λ r. sum (normal_form (packet_in r))) rs r t.sum (ap (λ (u : Totals). u.sum) is) (ap (λ o. sum (normal_form o)) lost))

-- one packet more
pub packet_stands : (t new : Totals) (rs : List MadeRecord) (r : MadeRecord) (v : PacketValue) (size : ℕ)
    → t ≡ told_totals (totals_of rs) → packet_in r ≡ Some v → Adds t new v size
    → length (made_bytes r.seed r.number) ≡ size → new ≡ told_totals (totals_of (rs ++ r ∷ []))
packet_stands t new rs r v size is packet adds sized =
    same_totals new (told_totals (totals_of (rs ++ r ∷ [])))
    (adds.records ∙ told_count rs r t.records (ap (λ (u : Totals). u.records) is))
    (adds.lost ∙ same_sum (λ r. lost_in (packet_in r)) rs r t.lost (ap (λ (u : Totals). u.lost) is) (ap lost_in packet))
    (adds.frames ∙ told_sum (λ r. frames_in (packet_in r)) rs r t.frames (length v.frames) (ap (λ (u : Totals). u.frames) is)
    (ap frames_in packet))
    (adds.samples ∙ told_sum (λ r. samples_in (packet_in r)) rs r t.samples (duration_of v) (ap (λ (u : Totals). u.samples) is)
    (ap samples_in packet))
    (adds.size_in ∙ told_sum (λ r. length (made_bytes r.seed r.number)) rs r t.size_in size (ap (λ (u : Totals). u.size_in) is) sized)
    (adds.size_out ∙ told_sum (λ r. length (normal_form (packet_in r))) rs r t.size_out (length (canonical v))
    (ap (λ (u : Totals). u.size_out) is) (ap (λ o. length (normal_form o)) packet))
    (adds.sum_is ∙ told_sum (λ r. sum (normal_form (packet_in r))) rs r t.sum (sum (canonical v)) (ap (λ (u : Totals). u.sum) is)
    (ap (λ o. sum (normal_form o)) packet))
