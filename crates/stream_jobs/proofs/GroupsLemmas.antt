-- Where the job join refuses nothing, its records are groups, and groups are never refused.
use Rattle.std.proofs.Common.{◌≡◌, ℕ, ◌+◌, ◌==◌, ◌<◌, ◌≤◌, Bool, true, false, nat_lt, if◌then◌else◌, List, [], ◌∷◌, ◌++◌, length, Option, None, Some, Result, Ok, Err, refl, ap, sym, subst, ◌∙◌, arith, append_assoc, append-nil, length-append}
use Rattle.std.proofs.lemmas.Bool.{ltb-true, lt-ltb, eqb-true, eq-eqb}
use Rattle.std.specs.List.{AllByRecursion}
use Rattle.job_loop.specs.Shown.{Shown}
use Rattle.job_loop.specs.Meaning.{Run, going, broke, adds, runs, closes, outcome}
use Rattle.job_loop.specs.declared.input_end.InputEnd.TheVariants.{Closed}
use Rattle.job_loop.proofs.RunLemmas.{runs-broke}
use Rattle.opus_packet.specs.declared.fault.Fault.{Fault}
use Rattle.opus_packet.specs.Value.{PacketValue, duration_of}
use Rattle.pack_records.specs.declared.item.Item.{Item}
use Rattle.stream_jobs.specs.declared.refusal.StreamWhy.{StreamWhy}
use Rattle.stream_jobs.specs.declared.refusal.StreamWhy.TheVariants as why
use Rattle.stream_jobs.specs.Refusal.{StreamRefusal}
use Rattle.stream_jobs.specs.JoinParts.{samples_in}
use Rattle.stream_jobs.specs.Join.{Part, part_of, held_in, joined, differs, differs_in, JoinKept, kept_of, group_goes, join_put, join_held, closed_why, closed_step, join}
use Rattle.stream_jobs.specs.JoinGroups.{IsPart, AreParts, AreAlike, IsGroup, all_of, groups_text, JoinsTo}
use Rattle.stream_jobs.proofs.JoinLemmas.{held_goes, open_next, open_text, full_next, full_is}

-- ---- records that can be one

all_push : {A : Type 0} (P : A → Type 0) (xs : List A) (x : A) → AllByRecursion P xs → P x → AllByRecursion P (xs ++ x ∷ [])
all_push P [] x all is = (is, tt)
all_push P (y ∷ ys) x all is = (all.0, all_push P ys x all.1 is)

all_behind : {A : Type 0} (P : A → Type 0) (xs : List A) (x : A) (more : List A) → AllByRecursion P (xs ++ x ∷ more) → P x
all_behind P [] x more all = all.0
all_behind P (y ∷ ys) x more all = all_behind P ys x more all.1

same_by : (n m at : ℕ) (b : Bool) → (n == m) ≡ b
    → ◌≡◌ {A = Option StreamWhy} (if b then None else Some (why.Unequal at)) None → n ≡ m
same_by n m at true e none = eqb-true n m e
same_by n m at false e none = let f = none in cc

differs_same : (v : Option PacketValue) (at : ℕ) (w : Option PacketValue) → differs v at w ≡ None
    → samples_in w ≡ samples_in v
differs_same None at None same = refl
differs_same None at (Some w) same = let e = same in cc
differs_same (Some v) at None same = let e = same in cc
differs_same (Some v) at (Some w) same =
    ap Some (same_by (duration_of w) (duration_of v) at (duration_of w == duration_of v) refl same)

some_one : {A : Type 0} {a b : A} → Some a ≡ Some b → a ≡ b
some_one e = cc

same_differs : (v : Option PacketValue) (at : ℕ) (w : Option PacketValue) → samples_in w ≡ samples_in v
    → differs v at w ≡ None
same_differs None at None same = refl
same_differs None at (Some w) same = let e = same in cc
same_differs (Some v) at None same = let e = same in cc
same_differs (Some v) at (Some w) same =
    let e : duration_of w ≡ duration_of v = some_one same in
    rw (eq-eqb (duration_of w) (duration_of v) e) refl

alike_push : (group : List Part) (v : Option PacketValue) (range : ℕ) → AreAlike group → differs_in group v ≡ None
    → AreAlike (group ++ part_of v range ∷ [])
alike_push [] v range alike same = (samples_in v, (refl, tt))
alike_push (p ∷ ps) v range alike same =
    let is = differs_same p.value (length (p ∷ ps)) v same ∙ alike.1.0 in
    (alike.0, all_push (λ q. samples_in q.value ≡ alike.0) (p ∷ ps) (part_of v range) alike.1 is)

alike_same : (group : List Part) (p : Part) (more : List Part) → AreAlike (group ++ p ∷ more)
    → differs_in group p.value ≡ None
alike_same [] p more alike = refl
alike_same (q ∷ qs) p more alike =
    same_differs q.value (length (q ∷ qs)) p.value
    (all_behind (λ q. samples_in q.value ≡ alike.0) (q ∷ qs) p more alike.1 ∙ sym alike.1.0)

-- ---- what isn't refused is groups

-- behind an open group stand these records, which fill it and further groups
record Fills (streams : ℕ) (group : List Part) (rs : List (Shown Item)) (before final : List ℕ) : Type 0 where
  pub parts : List Part
  pub are : AreParts rs parts
  pub groups : List (List Part)
  pub split : group ++ parts ≡ all_of groups
  pub each : AllByRecursion (IsGroup streams) groups
  pub text_is : final ≡ before ++ groups_text groups

abbrev Ends : ℕ → List (Shown Item) → Run JoinKept StreamRefusal → List ℕ → Type 0
Ends streams rs run final = closes (join streams) Closed (runs (join streams) run rs) ≡ going final tt

abbrev AllFill : ℕ → List (Shown Item) → Type 0
AllFill streams rs = (before final : List ℕ) (k : JoinKept) → length k.group < streams → AreAlike k.group
    → Ends streams rs (going before k) final → Fills streams k.group rs before final

not_broke : (streams : ℕ) (rs : List (Shown Item)) (text final : List ℕ) (f : StreamRefusal)
    → Ends streams rs (broke text f) final → ⊥
not_broke streams rs text final f e =
    let g = ap (closes (join streams) Closed) (sym (runs-broke (join streams) text f rs)) ∙ e in cc

closed_fill : (streams : ℕ) (before final : List ℕ) (k : JoinKept) (group : List Part) → k.group ≡ group
    → adds before (closed_step k (closed_why group)) ≡ going final tt → Fills streams group [] before final
closed_fill streams before final k [] is e = record {
  parts = [];
  are = tt;
  groups = [];
  split = refl;
  each = tt;
  text_is = sym (text_of e);
} where
  text_of : ◌≡◌ {A = Run (Unit {0}) StreamRefusal} (going (before ++ []) tt) (going final tt) → before ++ [] ≡ final
  text_of e = cc
closed_fill streams before final k (p ∷ ps) is e = let f = e in cc

-- the group is full with this record, or not
fill_by : (streams : ℕ) (group : List Part) (p : Part) (r : Shown Item) (rs : List (Shown Item)) (before final : List ℕ)
    (count place : ℕ) → 1 ≤ streams → AllFill streams rs → IsPart r p → length group < streams
    → AreAlike (group ++ p ∷ [])
    → (b : Bool) → nat_lt (length (group ++ p ∷ [])) streams ≡ b
    → Ends streams rs (going (before ++ (if b then [] else joined (group ++ p ∷ [])))
    (kept_of count place (if b then group ++ p ∷ [] else []))) final
    → Fills streams group (r ∷ rs) before final
fill_by streams group p r rs before final count place some all is below alike true e ends =
    let f = all (before ++ []) final (kept_of count place (group ++ p ∷ []))
    (ltb-true (length (group ++ p ∷ [])) streams e) alike ends in
    record {
      parts = p ∷ f.parts;
      are = (is, f.are);
      groups = f.groups;
      split = sym (append_assoc group (p ∷ []) f.parts) ∙ f.split;
      each = f.each;
      text_is = f.text_is ∙ ap (λ l. l ++ groups_text f.groups) (append-nil before);
    }
fill_by streams group p r rs before final count place some all is below alike false e ends =
    let f = all (before ++ joined (group ++ p ∷ [])) final (kept_of count place []) (omega (arith, some)) (None, tt) ends in
    record {
      parts = p ∷ f.parts;
      are = (is, f.are);
      groups = (group ++ p ∷ []) ∷ f.groups;
      split = sym (append_assoc group (p ∷ []) f.parts) ∙ ap (λ l. (group ++ p ∷ []) ++ l) f.split;
      each = (record { full = full; alike = alike }, f.each);
      text_is = f.text_is ∙ append_assoc before (joined (group ++ p ∷ [])) (groups_text f.groups);
    } where
      reached : length (group ++ p ∷ []) < streams → ⊥
      reached less = let g = sym e ∙ lt-ltb (length (group ++ p ∷ [])) streams less in cc

      full : length (group ++ p ∷ []) ≡ streams
      full = omega (arith, reached, below, length-append group (p ∷ []))

fill_differs : (streams : ℕ) (k : JoinKept) (v : Option PacketValue) (r : Shown Item) (rs : List (Shown Item))
    (before final : List ℕ) → 1 ≤ streams → AllFill streams rs → held_in r.item.found r.bytes ≡ Ok v
    → length k.group < streams → AreAlike k.group → (d : Option StreamWhy) → differs_in k.group v ≡ d
    → Ends streams rs (adds before (join_put streams k r.item v d)) final → Fills streams k.group (r ∷ rs) before final
fill_differs streams k v r rs before final some all held below alike (Some why) same ends =
    absurd (not_broke streams rs (before ++ []) final _ ends)
fill_differs streams k v r rs before final some all held below alike None same ends =
    fill_by streams k.group (part_of v r.item.range) r rs before final (k.count + 1) r.item.place some all
    (record { holds = held; range = refl }) below (alike_push k.group v r.item.range alike same)
    (nat_lt (length (k.group ++ part_of v r.item.range ∷ [])) streams) refl ends

fill_held : (streams : ℕ) (k : JoinKept) (r : Shown Item) (rs : List (Shown Item)) (before final : List ℕ) → 1 ≤ streams
    → AllFill streams rs → length k.group < streams → AreAlike k.group → (held : Result (Option PacketValue) Fault)
    → held_in r.item.found r.bytes ≡ held
    → Ends streams rs (adds before (join_held streams k r.item held)) final → Fills streams k.group (r ∷ rs) before final
fill_held streams k r rs before final some all below alike (Err fault) is ends =
    absurd (not_broke streams rs (before ++ []) final _ ends)
fill_held streams k r rs before final some all below alike (Ok v) is ends =
    fill_differs streams k v r rs before final some all is below alike (differs_in k.group v) refl ends

fills : (streams : ℕ) (rs : List (Shown Item)) → 1 ≤ streams → AllFill streams rs
fills streams [] some before final k below alike ends = closed_fill streams before final k k.group refl ends
fills streams (r ∷ rs) some before final k below alike ends =
    fill_held streams k r rs before final some (fills streams rs some) below alike (held_in r.item.found r.bytes) refl ends

pub joins-groups : (streams : ℕ) (rs : List (Shown Item)) (text : List ℕ) → 1 ≤ streams
    → outcome (join streams) rs Closed ≡ going text tt → JoinsTo streams rs text
joins-groups streams rs text some ends =
    let f = fills streams rs some [] text (kept_of 0 0 []) (omega (arith, some)) (None, tt) ends in
    record { groups = f.groups; parts = subst (AreParts rs) f.split f.are; each = f.each; text_is = f.text_is }

-- ---- groups aren't refused

part_goes : (streams : ℕ) (k : JoinKept) (r : Shown Item) (p : Part) (more : List Part) → IsPart r p
    → AreAlike (k.group ++ p ∷ more)
    → join_held streams k r.item (held_in r.item.found r.bytes)
    ≡ group_goes streams (k.count + 1) r.item.place (k.group ++ p ∷ [])
part_goes streams k r p more is alike =
    held_goes streams k r.item (held_in r.item.found r.bytes) p.value is.holds (alike_same k.group p more alike)
    ∙ ap (λ n. group_goes streams (k.count + 1) r.item.place (k.group ++ part_of p.value n ∷ [])) is.range

abbrev AllBack : ℕ → List (List Part) → Type 0
AllBack streams groups = (rs : List (Shown Item)) (before : List ℕ) (k : JoinKept) → k.group ≡ []
    → AreParts rs (all_of groups) → Ends streams rs (going before k) (before ++ groups_text groups)

back_group : (streams : ℕ) (p : Part) (ps : List Part) (groups : List (List Part)) (rs : List (Shown Item))
    (before : List ℕ) (k : JoinKept) → AllBack streams groups → length (k.group ++ p ∷ ps) ≡ streams
    → AreAlike (k.group ++ p ∷ ps) → AreParts rs ((p ∷ ps) ++ all_of groups)
    → Ends streams rs (going before k) (before ++ groups_text ((k.group ++ p ∷ ps) ∷ groups))
back_group streams p ps groups [] before k all full alike are = absurd are
back_group streams p [] groups (r ∷ rs) before k all full alike are =
    let full_by : streams ≤ length (k.group ++ p ∷ []) = omega (arith, full) in
    rw (part_goes streams k r p [] are.0 alike, full_is streams (k.group ++ p ∷ []) full_by, full_next streams (k.group ++ p ∷ []) full_by)
    (all rs (before ++ joined (k.group ++ p ∷ [])) (kept_of (k.count + 1) r.item.place []) refl are.1
    ∙ ap (λ t. going t tt) (append_assoc before (joined (k.group ++ p ∷ [])) (groups_text groups)))
back_group streams p (q ∷ qs) groups (r ∷ rs) before k all full alike are =
    let g = k.group ++ p ∷ [] in
    let whole : g ++ q ∷ qs ≡ k.group ++ p ∷ q ∷ qs = append_assoc k.group (p ∷ []) (q ∷ qs) in
    let below : length g < streams = omega (arith, full, length-append k.group (p ∷ q ∷ qs), length-append k.group (p ∷ [])) in
    let behind = back_group streams q qs groups rs (before ++ []) (kept_of (k.count + 1) r.item.place g) all
    (ap length whole ∙ full) (subst AreAlike (sym whole) alike) are.1 in
    rw (part_goes streams k r p (q ∷ qs) are.0 alike, open_text streams g below, open_next streams g below)
    (behind ∙ ap (λ t. going t tt) (ap (λ l. (before ++ []) ++ groups_text (l ∷ groups)) whole
    ∙ ap (λ l. l ++ groups_text ((k.group ++ p ∷ q ∷ qs) ∷ groups)) (append-nil before)))

back_none : (streams : ℕ) (before : List ℕ) (k : JoinKept) → k.group ≡ []
    → Ends streams [] (going before k) (before ++ [])
back_none streams before k none = rw none refl

back : (streams : ℕ) (groups : List (List Part)) → 1 ≤ streams → AllByRecursion (IsGroup streams) groups
    → AllBack streams groups
back streams [] some each [] before k none are = back_none streams before k none
back streams [] some each (r ∷ rs) before k none are = absurd are
back streams ([] ∷ groups) some each rs before k none are = absurd (omega (arith, some, each.0.full))
back streams ((p ∷ ps) ∷ groups) some each rs before k none are =
    let whole : p ∷ ps ≡ k.group ++ p ∷ ps = rw none refl in
    back_group streams p ps groups rs before k (back streams groups some each.1) (ap length (sym whole) ∙ each.0.full)
    (subst AreAlike whole each.0.alike) are
    ∙ ap (λ l. going (before ++ groups_text (l ∷ groups)) tt) (sym whole)

pub groups-joins : (streams : ℕ) (rs : List (Shown Item)) (text : List ℕ) → 1 ≤ streams → JoinsTo streams rs text
    → outcome (join streams) rs Closed ≡ going text tt
groups-joins streams rs text some j =
    back streams j.groups some j.each rs [] (kept_of 0 0 []) refl j.parts ∙ ap (λ t. going t tt) (sym j.text_is)
