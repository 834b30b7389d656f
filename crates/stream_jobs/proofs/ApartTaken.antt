-- Which records apart takes.
use Rattle.std.proofs.Common.{◌≡◌, ◌↔◌, ℕ, List, refl}
use Rattle.job_loop.specs.Shown.{Shown}
use Rattle.job_loop.specs.Meaning.{going, outcome}
use Rattle.job_loop.specs.declared.input_end.InputEnd.TheVariants.{Closed}
use Rattle.job_ends.specs.Refusal.{told}
use Rattle.stream_records.specs.declared.item.StreamsFound.{StreamsFound}
use Rattle.stream_records.specs.declared.item.StreamsFound.TheVariants as found
use Rattle.stream_records.specs.declared.item.StreamsItem.{StreamsItem}
use Rattle.stream_jobs.specs.declared.refusal.StreamWhy.{StreamWhy}
use Rattle.stream_jobs.specs.Each.{found_made, made_of}
use Rattle.job_ends.specs.Each.{Made, texts_from, IsWritten, AreWritten}
use Rattle.stream_jobs.specs.Apart.{apart_makes, apart}
use Rattle.stream_jobs.specs.JoinAgain.{IsGood, AreGood}
use Rattle.job_ends.proofs.EachLemmas.{each_written, all_written, written_all}
use Rattle.stream_jobs.specs.Refusal.{cut_refusal}

-- ---- which records apart takes

abbrev pub apart_made : ℕ → ℕ → Shown StreamsItem → Made StreamWhy
apart_made streams number r = made_of streams (apart_makes streams) (told number) r

good_by : (streams number : ℕ) (r : Shown StreamsItem) (found : StreamsFound)
    → IsWritten (found_made streams (apart_makes streams) number r found) → IsGood found
good_by streams number r found.Packets written = tt
good_by streams number r found.Lost written = tt
good_by streams number r (found.Broken stream start fault) written = absurd written
good_by streams number r (found.Unequal stream start) written = absurd written

written_by : (streams number : ℕ) (r : Shown StreamsItem) (found : StreamsFound) → IsGood found
    → IsWritten (found_made streams (apart_makes streams) number r found)
written_by streams number r found.Packets good = tt
written_by streams number r found.Lost good = tt
written_by streams number r (found.Broken stream start fault) good = absurd good
written_by streams number r (found.Unequal stream start) good = absurd good

all_good : (streams number : ℕ) (rs : List (Shown StreamsItem)) → AreWritten (apart_made streams) number rs → AreGood rs
all_good streams =
    written_all (apart_made streams) (λ (r : Shown StreamsItem). IsGood r.item.found) (λ number r. good_by streams (told number) r r.item.found)

good_all : (streams number : ℕ) (rs : List (Shown StreamsItem)) → AreGood rs → AreWritten (apart_made streams) number rs
good_all streams =
    all_written (apart_made streams) (λ (r : Shown StreamsItem). IsGood r.item.found) (λ number r. written_by streams (told number) r r.item.found)

pub apart_taken : (streams : ℕ) (rs : List (Shown StreamsItem))
    → ((text : List ℕ) × (outcome (apart streams) rs Closed ≡ going text tt)) ↔ AreGood rs
apart_taken streams rs = (
  λ (text, e). all_good streams 0 rs ((each_written cut_refusal (apart_made streams) rs Closed text).0 e).0,
  λ good. let text = texts_from (apart_made streams) 0 rs in
      (text, (each_written cut_refusal (apart_made streams) rs Closed text).1 (good_all streams 0 rs good, tt, refl)),
)
