-- What the job make writes.
use Rattle.std.proofs.Common.{◌≡◌, ℕ, List, [], ◌∷◌, ◌++◌, map, sym, ap, ◌∙◌, append-nil, append_assoc}
use Rattle.std.proofs.lemmas.Simd.{map-map}
use Rattle.std.specs.List.{concat, range_with_len}
use Rattle.job_loop.specs.Shown.{Shown}
use Rattle.job_loop.specs.Meaning.{going, runs, run_text, closes, outcome}
use Rattle.job_loop.specs.declared.input_end.InputEnd.TheVariants.{Closed}
use Rattle.rec_store.specs.DemoStore.{demo_record}
use Rattle.opuspack.specs.declared.made.MadeRecord.{MadeRecord}
use Rattle.opuspack.specs.Made.{made_shown, made_records}
use Rattle.opuspack.specs.Make.{make, made_store}

written : Shown MadeRecord → List ℕ
written r = demo_record r.item.number r.bytes

make_runs : (text : List ℕ) (rs : List (Shown MadeRecord)) → runs make (going text tt) rs ≡ going (text ++ concat (map written rs)) tt
unfolding written
make_runs text [] = ap (λ t. going t tt) (sym (append-nil text))
make_runs text (r ∷ rs) =
    make_runs (text ++ written r) rs ∙ ap (λ t. going t tt) (append_assoc text (written r) (concat (map written rs)))

-- the records of a seed in a store, one after another
pub make_text : (seed count : ℕ) → run_text (outcome make (made_records seed count) Closed) ≡ made_store seed count
unfolding written
make_text seed count =
    ap (λ run. run_text (closes make Closed run)) (make_runs [] (made_records seed count))
    ∙ append-nil (concat (map written (made_records seed count)))
    ∙ ap concat (map-map written (made_shown seed) (range_with_len 0 count))
