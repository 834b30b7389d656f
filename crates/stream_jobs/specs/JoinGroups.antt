-- Records in groups, as the job join takes them.
use Rattle.std.specs.Prelude.{◌≡◌, ℕ, List, [], ◌∷◌, length, flat_map, Option, Ok}
use Rattle.std.specs.List.{AllByRecursion}
use Rattle.job_loop.specs.Shown.{Shown}
use Rattle.pack_records.specs.declared.item.Item.{Item}
use Rattle.stream_jobs.specs.JoinParts.{samples_in}
use Rattle.stream_jobs.specs.Join.{Part, held_in, joined}

-- a record has a packet of this value, or is lost, and it has this range
pub record IsPart (r : Shown Item) (p : Part) : Type 0 where
  pub holds : held_in r.item.found r.bytes ≡ Ok p.value
  pub range : r.item.range ≡ p.range

abbrev pub AreParts : List (Shown Item) → List Part → Type 0
AreParts [] [] = Unit {0}
AreParts [] (p ∷ ps) = ⊥
AreParts (r ∷ rs) [] = ⊥
AreParts (r ∷ rs) (p ∷ ps) = IsPart r p × AreParts rs ps

-- all records are lost, or all have packets that last as long
abbrev pub AreAlike : List Part → Type 0
AreAlike group = (samples : Option ℕ) × AllByRecursion (λ p. samples_in p.value ≡ samples) group

-- so many records that can be one
pub record IsGroup (streams : ℕ) (group : List Part) : Type 0 where
  pub full : length group ≡ streams
  pub alike : AreAlike group

-- the records of groups one after another
abbrev pub all_of : List (List Part) → List Part
all_of groups = flat_map (λ group. group) groups

-- the text of groups
abbrev pub groups_text : List (List Part) → List ℕ
groups_text groups = flat_map joined groups

-- the records are such groups one after another, and this is the text of these
pub record JoinsTo (streams : ℕ) (rs : List (Shown Item)) (text : List ℕ) : Type 0 where
  pub groups : List (List Part)
  pub parts : AreParts rs (all_of groups)
  pub each : AllByRecursion (IsGroup streams) groups
  pub text_is : text ≡ groups_text groups
