-- The lengths of a packet's frames, kept where they are: as one number, as they are spelled, or as a list.
use Rattle.std.specs.Prelude.{◌≡◌, ℕ, zero, suc, ◌≤◌, List, [], ◌∷◌, ◌++◌, length, replicate, All, Option, Some, None}
use denote.Ref.{Bor}
use Rattle.opus_packet.specs.declared.lens.Before as declared
use Rattle.opus_packet.specs.declared.lens.Before.TheVariants.{Equal, Spelled, Listed}
use Rattle.opus_packet.specs.declared.lens.Lens.TheInside.{Inside}
use Rattle.opus_packet.specs.Value.{max_frame}
use Rattle.opus_packet.specs.SelfGrammar.{last_length}
use Rattle.opus_packet.specs.Spelled.{lengths_in, SpellsLengths}

-- so many lengths of which the last is known, by what is known of those before it
abbrev pub lens_by : declared.Before → ℕ → ℕ → List ℕ
lens_by Equal last count = replicate count last
lens_by (Spelled bytes) last zero = []
lens_by (Spelled bytes) last (suc count) = lengths_in count bytes.now ++ last ∷ []
lens_by (Listed lens) last count = lens.now

-- the lengths that a `Lens` stands for
abbrev pub lens_inside : Inside → List ℕ
lens_inside l = lens_by l.before l.last l.count

-- the bytes that spell those before the last, where they lie spelled
abbrev pub spelling_of : declared.Before → Option (Bor (List ℕ))
spelling_of Equal = None
spelling_of (Spelled bytes) = Some bytes
spelling_of (Listed lens) = None

-- what is kept of those before the last is so many lengths
abbrev pub IsBefore : declared.Before → ℕ → ℕ → Type 0
IsBefore Equal last count = Unit {0}
IsBefore (Spelled bytes) last zero = bytes.now ≡ []
IsBefore (Spelled bytes) last (suc count) = SpellsLengths count bytes.now
IsBefore (Listed lens) last count = (length lens.now ≡ count) × (1 ≤ count → last_length lens.now ≡ last)

pub record IsLens (l : Inside) : Type 0 where
  pub before : IsBefore l.before l.last l.count
  pub counted : length (lens_inside l) ≡ l.count
  pub most : l.count ≤ 48
  pub last_small : l.last ≤ max_frame
  pub each : All (λ n. n ≤ max_frame) (lens_inside l)
