-- What the job trial writes.
use Rattle.std.proofs.Common.{◌≡◌, ℕ, ◌*◌, ◌^◌, ◌<◌, ◌≤◌, List, [], ◌∷◌, ◌++◌, length, sum, map, Option, None, Some, refl, sym, ap, ◌∙◌, subst, append-nil, append_assoc, arith}
use Rattle.std.specs.List.{range_with_len}
use Rattle.std.proofs.lemmas.Simd.{map-map}
use Rattle.std.proofs.lemmas.List.FromFn.{length-map-range_with_len}
use Rattle.std.proofs.lemmas.List.Sums.{sum_by-cons, sum_by-le}
use Rattle.job_loop.specs.Shown.{Shown}
use Rattle.job_loop.specs.Meaning.{going, runs, run_text, closes, outcome}
use Rattle.job_loop.specs.declared.input_end.InputEnd.TheVariants.{Closed}
use Rattle.opus_packet.specs.Value.{PacketValue}
use Rattle.opus_packet.specs.PacketPrefix.{AreBytes}
use Rattle.opus_packet.specs.Canonical.{canonical}
use Rattle.opus_packet.proofs.SpellingLemmas.{kept_form-nil}
use Rattle.opus_feed.specs.declared.framing.Framing.TheVariants.{Whole}
use Rattle.pack_jobs.proofs.FormBytes.{form-are}
use Rattle.pack_jobs.proofs.FormSizes.{form_sizes}
use Rattle.opuspack.specs.declared.made.MadeRecord.{MadeRecord}
use Rattle.opuspack.specs.Made.{made_bytes, made_shown, made_records}
use Rattle.opuspack.specs.Totals.{packet_in, lost_in, frames_in, samples_in, normal_form, totals_of, told_totals, totals_line}
use Rattle.opuspack.specs.Trial.{normal_record, normal_store, numbered, trial, trial_text}
use Rattle.opuspack.proofs.MadeSizes.{made_bytes-most}
use Rattle.opuspack.proofs.MadePacketLemmas.{IsPacketOf, made_packet-is}
use Rattle.opuspack.proofs.TotalsLemmas.{same_totals}

-- ---- a canonical form is short, and its bytes are

pub sum-most : (bytes : List ℕ) → AreBytes bytes → sum bytes ≤ 255 * length bytes
sum-most [] are = omega arith
sum-most (b ∷ bytes) are = let behind = sum-most bytes are.1 in omega (arith, are.0, sum_by-cons (λ (n : ℕ). n) b bytes)

canonical-most : (v : PacketValue) (bytes : List ℕ) → IsPacketOf v bytes
    → (length (canonical v) ≤ 500000) × (sum (canonical v) ≤ 127500000)
canonical-most v bytes is =
    let value = is.spelled.1.value in
    let size : length (canonical v) ≤ 500000 =
    subst (λ l. length l ≤ 500000) (kept_form-nil v) (form_sizes Whole v [] value (omega arith)).1 in
    let are = subst AreBytes (kept_form-nil v) (form-are Whole v [] value is.frames tt) in
    (size, omega (arith, size, sum-most (canonical v) are))

-- ---- what one record adds is bounded, so totals are told as they are

record IsBounded (o : Option PacketValue) : Type 0 where
  lost : lost_in o ≤ 1
  frames : frames_in o ≤ 48
  samples : samples_in o ≤ 5760
  size : length (normal_form o) ≤ 500000
  sum_is : sum (normal_form o) ≤ 127500000

bounded_by : (o : Option PacketValue) → ((v : PacketValue) → o ≡ Some v → (bytes : List ℕ) × IsPacketOf v bytes) → IsBounded o
bounded_by None packet = record {
  lost = omega arith;
  frames = omega arith;
  samples = omega arith;
  size = omega arith;
  sum_is = omega arith;
}
bounded_by (Some v) packet =
    let is = packet v refl in
    let value = is.1.spelled.1.value in
    let most = canonical-most v is.0 is.1 in record {
      lost = omega arith;
      frames = value.most;
      samples = value.duration;
      size = most.0;
      sum_is = most.1;
    }

bounded : (r : MadeRecord) → IsBounded (packet_in r)
bounded r = bounded_by (packet_in r) (λ v is. (made_bytes r.seed r.number, made_packet-is r.seed r.number v is))

exact : (rs : List MadeRecord) → length rs < 2 ^ 32 → told_totals (totals_of rs) ≡ totals_of rs
exact rs few =
    let t = totals_of rs in
    let lost = sum_by-le (λ r. lost_in (packet_in r)) 1 rs (λ k d within. (bounded _).lost) in
    let frames = sum_by-le (λ r. frames_in (packet_in r)) 48 rs (λ k d within. (bounded _).frames) in
    let samples = sum_by-le (λ r. samples_in (packet_in r)) 5760 rs (λ k d within. (bounded _).samples) in
    let size_in = sum_by-le (λ r. length (made_bytes r.seed r.number)) 14455 rs (λ k d within. made_bytes-most _ _) in
    let size_out = sum_by-le (λ r. length (normal_form (packet_in r))) 500000 rs (λ k d within. (bounded _).size) in
    let sums = sum_by-le (λ r. sum (normal_form (packet_in r))) 127500000 rs (λ k d within. (bounded _).sum_is) in
    same_totals (told_totals t) t (omega (arith, few)) (omega (arith, few, lost)) (omega (arith, few, frames))
    (omega (arith, few, samples)) (omega (arith, few, size_in)) (omega (arith, few, size_out)) (omega (arith, few, sums))

-- ---- all of it

item_of : Shown MadeRecord → MadeRecord
item_of r = r.item

trial_runs : (text : List ℕ) (taken : List MadeRecord) (rs : List (Shown MadeRecord))
    → runs trial (going text taken) rs ≡ going (text ++ normal_store (map item_of rs)) (taken ++ map item_of rs)
unfolding item_of
trial_runs text taken [] =
    ap (λ t. going t taken) (sym (append-nil text)) ∙ ap (λ l. going (text ++ []) l) (sym (append-nil taken))
trial_runs text taken (r ∷ rs) =
    let rest = map item_of rs in
    trial_runs (text ++ normal_record r.item) (taken ++ r.item ∷ []) rs
    ∙ ap (λ t. going t ((taken ++ r.item ∷ []) ++ rest)) (append_assoc text (normal_record r.item) (normal_store rest))
    ∙ ap (λ l. going (text ++ (normal_record r.item ++ normal_store rest)) l) (append_assoc taken (r.item ∷ []) rest)

items-are : (seed count : ℕ) → map item_of (made_records seed count) ≡ numbered seed count
unfolding item_of
items-are seed count = map-map item_of (made_shown seed) (range_with_len 0 count)

-- the store in normal form, and the line behind it
pub trial_text-is : (seed count : ℕ) → count < 2 ^ 32 → run_text (outcome trial (made_records seed count) Closed) ≡ trial_text seed count
trial_text-is seed count few =
    let rs = numbered seed count in
    let long : length rs ≡ count = length-map-range_with_len (λ number. record { seed = seed; number = number }) 0 count in
    ap (λ run. run_text (closes trial Closed run)) (trial_runs [] [] (made_records seed count))
    ∙ ap (λ l. normal_store l ++ totals_line (told_totals (totals_of l))) (items-are seed count)
    ∙ ap (λ t. normal_store rs ++ totals_line t) (exact rs (omega (arith, long, few)))
