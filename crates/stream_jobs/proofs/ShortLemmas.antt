-- Where a group that is too short is told.
use Rattle.std.proofs.Common.{◌≡◌, ℕ, suc, ◌+◌, ◌==◌, Bool, true, false, if◌then◌else◌, List, [], ◌∷◌, ◌++◌, length, Option, None, Some, Result, Ok, Err, inl, inr, refl, ap, sym, subst, ◌∙◌, arith, append-nil, length-append}
use Rattle.std.specs.List.{AllByRecursion}
use Rattle.job_loop.specs.Shown.{Shown}
use Rattle.job_loop.specs.Meaning.{Run, going, broke, adds, runs, closes, outcome}
use Rattle.job_loop.specs.declared.input_end.InputEnd.TheVariants.{Closed}
use Rattle.job_loop.proofs.RunLemmas.{runs-broke}
use Rattle.opus_packet.specs.declared.fault.Fault.{Fault as FaultOf}
use Rattle.opus_packet.specs.Value.{PacketValue, duration_of}
use Rattle.opus_feed.specs.declared.padding.Padding.TheVariants.{Drop}
use Rattle.rec_store.specs.DemoStore.{demo_record}
use Rattle.rec_store.proofs.DemoLemmas.{length-demo_record}
use Rattle.pack_records.specs.declared.item.Item.{Item}
use Rattle.pack_records.specs.Demo.{StoreRecord, store_of, ShowsPayload, ShowsStore, ShowsRest, DemoEnds, cut_at}
use Rattle.job_ends.specs.Refusal.{told, refusal_of}
use Rattle.stream_jobs.specs.declared.refusal.StreamWhy.{StreamWhy}
use Rattle.stream_jobs.specs.declared.refusal.StreamWhy.TheVariants as why
use Rattle.stream_jobs.specs.Refusal.{refusal_at, StreamRefusal}
use Rattle.stream_jobs.specs.Join.{Part, part_of, held_in, differs, differs_in, JoinKept, kept_of, full_text, next_group, join_put, join_held, closed_why, closed_step, join}

-- ---- a short group is told behind the last record

abbrev pub last_place : ℕ → List (Shown Item) → ℕ
last_place at [] = at
last_place at (r ∷ rs) = last_place r.item.place rs

-- it holds a packet, or is lost
abbrev pub IsGood : Shown Item → Type 0
IsGood r = (v : Option PacketValue) × (held_in r.item.found r.bytes ≡ Ok v)

abbrev Breaks : ℕ → List (Shown Item) → Run JoinKept StreamRefusal → List ℕ → StreamRefusal → Type 0
Breaks streams rs run text f = closes (join streams) Closed (runs (join streams) run rs) ≡ broke text f

-- the refusal is that of the end
abbrev IsLast : JoinKept → List (Shown Item) → StreamRefusal → Type 0
IsLast k rs f = (f ≡ refusal_of (told (k.count + length rs)) (last_place k.place rs) why.ShortGroup) × AllByRecursion IsGood rs

abbrev AllLast : ℕ → List (Shown Item) → Type 0
AllLast streams rs = (before text : List ℕ) (k : JoinKept) (f : StreamRefusal) → f.why ≡ why.ShortGroup
    → Breaks streams rs (going before k) text f → IsLast k rs f

broke_at : (streams : ℕ) (rs : List (Shown Item)) (before text : List ℕ) (e f : StreamRefusal)
    → Breaks streams rs (broke before e) text f → e ≡ f
broke_at streams rs before text e f breaks =
    same_refusal (ap (closes (join streams) Closed) (sym (runs-broke (join streams) before e rs)) ∙ breaks) where
      same_refusal : ◌≡◌ {A = Run (Unit {0}) StreamRefusal} (broke before e) (broke text f) → e ≡ f
      same_refusal same = cc

by_length : (n m : ℕ) (b : Bool)
    → ◌≡◌ {A = Option StreamWhy} (if b then None else Some (why.Unequal n)) (Some why.ShortGroup) → ⊥
by_length n m true e = let f = e in cc
by_length n m false e = let f = e in cc

never_short : (group : List Part) (v : Option PacketValue) → differs_in group v ≡ Some why.ShortGroup → ⊥
never_short [] v e = let f = e in cc
never_short (p ∷ ps) v e = by p.value v (length (p ∷ ps)) e where
  by : (u v : Option PacketValue) (at : ℕ) → differs u at v ≡ Some why.ShortGroup → ⊥
  by None None at e = let f = e in cc
  by None (Some w) at e = let f = e in cc
  by (Some u) None at e = let f = e in cc
  by (Some u) (Some w) at e = by_length at 0 (duration_of w == duration_of u) e

last_closed : (k : JoinKept) (before text : List ℕ) (f : StreamRefusal) (group : List Part)
    → adds before (closed_step k (closed_why group)) ≡ broke text f → IsLast k [] f
last_closed k before text f [] e = let g = e in cc
last_closed k before text f (p ∷ ps) e = (same e, tt) where
  same : ◌≡◌ {A = Run (Unit {0}) StreamRefusal} (broke (before ++ []) (refusal_of (told k.count) k.place why.ShortGroup)) (broke text f)
      → f ≡ refusal_of (told (k.count + 0)) k.place why.ShortGroup
  same is = rw (plus_none k.count) cc where
    plus_none : (n : ℕ) → n + 0 ≡ n
    plus_none n = omega arith

last_differs : (streams : ℕ) (k : JoinKept) (r : Shown Item) (rs : List (Shown Item)) (before text : List ℕ)
    (f : StreamRefusal) (v : Option PacketValue) → AllLast streams rs → f.why ≡ why.ShortGroup
    → held_in r.item.found r.bytes ≡ Ok v → (d : Option StreamWhy) → differs_in k.group v ≡ d
    → Breaks streams rs (adds before (join_put streams k r.item v d)) text f → IsLast k (r ∷ rs) f
last_differs streams k r rs before text f v all short held (Some w) same breaks =
    let e = broke_at streams rs (before ++ []) text (refusal_of (told k.count) r.item.place w) f breaks in
    absurd (never_short k.group v (same ∙ ap Some (ap (λ f. f.why) e ∙ short)))
last_differs streams k r rs before text f v all short held None same breaks =
    let group = k.group ++ part_of v r.item.range ∷ [] in
    let behind = all (before ++ full_text streams group) text
    (kept_of (k.count + 1) r.item.place (next_group streams group)) f short breaks in (
      behind.0 ∙ ap (λ n. refusal_of (told n) (last_place r.item.place rs) why.ShortGroup) (plus_one k.count (length rs)),
      ((v, held), behind.1),
    ) where
      plus_one : (n m : ℕ) → n + 1 + m ≡ n + suc m
      plus_one n m = omega arith

last_held : (streams : ℕ) (k : JoinKept) (r : Shown Item) (rs : List (Shown Item)) (before text : List ℕ)
    (f : StreamRefusal) → AllLast streams rs → f.why ≡ why.ShortGroup → (held : Result (Option PacketValue) FaultOf)
    → held_in r.item.found r.bytes ≡ held
    → Breaks streams rs (adds before (join_held streams k r.item held)) text f → IsLast k (r ∷ rs) f
last_held streams k r rs before text f all short (Err fault) is breaks =
    let e = broke_at streams rs (before ++ []) text (refusal_at (told k.count) r.item fault) f breaks in
    let same = ap (λ f. f.why) e ∙ short in cc
last_held streams k r rs before text f all short (Ok v) is breaks =
    last_differs streams k r rs before text f v all short is (differs_in k.group v) refl breaks

lasts : (streams : ℕ) (rs : List (Shown Item)) → AllLast streams rs
lasts streams [] before text k f short breaks = last_closed k before text f k.group breaks
lasts streams (r ∷ rs) before text k f short breaks =
    last_held streams k r rs before text f (lasts streams rs) short (held_in r.item.found r.bytes) refl breaks

-- ---- behind the last record of a whole store the input ends

payload_place : (start range : ℕ) (payload : List ℕ) (r : Shown Item) → ShowsPayload Drop start range payload r → IsGood r
    → r.item.place ≡ start + length payload
payload_place start range [] r shows good = ap (λ r. r.item.place) shows ∙ plus_none start where
  plus_none : (n : ℕ) → n ≡ n + 0
  plus_none n = omega arith
payload_place start range (b ∷ bs) r (inl packet) good = ap (λ r. r.item.place) packet.shows
payload_place start range (b ∷ bs) r (inr bad) good =
    let e = rw bad.shows at good.1 in let f = e in cc

none_early : (at : ℕ) (rs : List (Shown Item)) → ShowsRest at [] rs → rs ≡ []
none_early at rs (inl early) = let e = early.payload.rest_is in cc
none_early at rs (inr nothing) = nothing.shows

store_place : (at : ℕ) (ss : List StoreRecord) (rs : List (Shown Item)) → ShowsStore Drop at ss [] rs
    → AllByRecursion IsGood rs → last_place at rs ≡ at + length (store_of ss)
store_place at [] rs shows good = rw (none_early at rs shows) (plus_none at) where
  plus_none : (n : ℕ) → n ≡ n + 0
  plus_none n = omega arith
store_place at (s ∷ ss) [] shows good = absurd shows
store_place at (s ∷ ss) (r ∷ rs) shows good =
    let here : r.item.place ≡ at + (8 + length s.payload) =
    payload_place (at + 8) s.range s.payload r shows.0 good.0 ∙ sums at (length s.payload) in
    ap (λ n. last_place n rs) here ∙ store_place (at + (8 + length s.payload)) ss rs shows.1 good.1
    ∙ sizes at (length s.payload) (length (store_of ss)) (length (demo_record s.range s.payload ++ store_of ss))
    (length-append (demo_record s.range s.payload) (store_of ss) ∙ ap (λ n. n + length (store_of ss)) (length-demo_record s.range s.payload)) where
      sums : (n m : ℕ) → n + 8 + m ≡ n + (8 + m)
      sums n m = omega arith

      sizes : (n m k all : ℕ) → all ≡ 8 + m + k → n + (8 + m) + k ≡ n + all
      sizes n m k all e = omega (arith, e)

pub whole_store : (place : ℕ) (rest : List ℕ) → None ≡ cut_at place rest → rest ≡ []
whole_store place [] e = refl
whole_store place (b ∷ bs) e = let f = e in cc

pub short_told : (streams : ℕ) (h : List ℕ) (rs : List (Shown Item)) (text : List ℕ) (f : StreamRefusal)
    → DemoEnds Drop h rs None → outcome (join streams) rs Closed ≡ broke text f → f.why ≡ why.ShortGroup
    → f ≡ refusal_of (told (length rs)) (length h) why.ShortGroup
short_told streams h rs text f ends breaks short =
    let last = lasts streams rs [] text (kept_of 0 0 []) f short breaks in
    let none : ends.0 ≡ [] = whole_store (length h) ends.0 ends.2 in
    let whole : h ≡ store_of ends.1.whole = ends.1.parts ∙ ap (λ l. store_of ends.1.whole ++ l) none ∙ append-nil (store_of ends.1.whole) in
    let size : length (store_of ends.1.whole) ≡ length h = ap length (sym whole) in
    let place = store_place 0 ends.1.whole rs (subst (λ l. ShowsStore Drop 0 ends.1.whole l rs) none ends.1.shows) last.1 in
    last.0 ∙ ap (λ n. refusal_of (told n) (last_place 0 rs) why.ShortGroup) (none_plus (length rs))
    ∙ ap (λ n. refusal_of (told (length rs)) n why.ShortGroup) (place ∙ none_plus (length (store_of ends.1.whole)) ∙ size) where
      none_plus : (n : ℕ) → 0 + n ≡ n
      none_plus n = omega arith
