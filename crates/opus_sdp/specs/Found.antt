-- What is kept of the parameters in front of a place, which no public clause cites.
use Rattle.std.specs.Prelude.{◌≡◌, ◌⊎◌, ◌<◌, ℕ, nat_lt, List, [], ◌∷◌, ◌++◌, length, map, filter, Option, None, Some, Result, Ok, Err}
use Rattle.std.specs.List.{slice_index_or}
use Rattle.opus_sdp.specs.Table.{is_named}
use Rattle.opus_sdp.specs.Params.{number, others}
use Rattle.opus_sdp.specs.Parts.{Part, part_at, trimmed, param_of}
use Rattle.opus_sdp.specs.Fault.{fault_after, first_fault}
use Rattle.opus_sdp.specs.Names.{has_met}
use Rattle.opus_sdp.specs.declared.param.Param.{Param}
use Rattle.opus_sdp.specs.declared.fault.SdpFault.{SdpFault}
use Rattle.opus_sdp.specs.declared.fault.SdpFault.TheVariants.{NoMemory}
use Rattle.opus_sdp.specs.declared.found.Found.{Found}

-- what is found stands for these parameters
pub record Stands (found : Found) (before : List Param) : Type 0 where
  pub size : length found.numbers ≡ 8
  pub numbers : (row : ℕ) → row < 8 → slice_index_or found.numbers row None ≡ number row before
  pub rest : found.others.items ≡ others before
  pub names : (name : List ℕ) → has_met found.names name ≡ is_named name (others before)

-- want of memory, or the fault that there is
abbrev pub Tells : SdpFault → Option SdpFault → Type 0
Tells fault said = (fault ≡ NoMemory) ⊎ (said ≡ Some fault)

-- one parameter more is taken, unless it has a fault
abbrev pub Takes : Result (Unit {0}) SdpFault → Found → List Param → Part → Type 0
Takes (Ok _) found before p = (fault_after before p ≡ None) × Stands found (before ++ param_of p ∷ [])
Takes (Err fault) found before p = Tells fault (fault_after before p)

-- all are taken, unless one has a fault
abbrev pub TakesAll : Result (Unit {0}) SdpFault → Found → List Param → List Part → Type 0
TakesAll (Ok _) found before parts =
    (first_fault before parts ≡ None) × Stands found (before ++ map param_of parts)
TakesAll (Err fault) found before parts = Tells fault (first_fault before parts)

-- the piece between two `;` that stands at this place: a parameter, or none where it is blanks alone
abbrev pub piece_parts : ℕ → List ℕ → List Part
piece_parts at text = filter (λ p. nat_lt 0 (length p.text)) (trimmed (part_at at text) ∷ [])
