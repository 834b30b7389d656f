-- One check after another.
use Rattle.std.proofs.Common.{◌≡◌, Option, None, Some, Ok, Err, refl}
use Rattle.std.specs.Option.{option_or}
use Rattle.opus_head.specs.Checks.{outcome}
use Rattle.opus_head.specs.declared.fault.HeadFault.{HeadFault}

-- what the first finds stands
pub outcome-found : (first later : Option HeadFault) (fault : HeadFault) → Err fault ≡ outcome first
    → Err fault ≡ outcome (option_or first later)
outcome-found None later fault e = cc
outcome-found (Some found) later fault e = e

-- where the first finds nothing, it is what the later ones find
pub outcome-later : (first later : Option HeadFault) → Ok tt ≡ outcome first
    → outcome (option_or first later) ≡ outcome later
outcome-later None later e = refl
outcome-later (Some found) later e = cc

-- whether there is a fault
pub none-outcome : (fault : Option HeadFault) → Ok tt ≡ outcome fault → fault ≡ None
none-outcome None e = refl
none-outcome (Some fault) e = cc

pub outcome-none : (first : Option HeadFault) (fault : HeadFault) → Err fault ≡ outcome first → first ≡ None → ⊥
outcome-none first fault e none = let other = rw none at e in cc
