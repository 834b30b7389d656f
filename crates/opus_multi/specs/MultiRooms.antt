-- What a feed of multistream packets keeps, by where it stands.
use Rattle.std.specs.Prelude.{◌≡◌, ℕ, ◌<◌, ◌≤◌, List, None, length, map, replicate}
use Rattle.std.proofs.Props.{props}
use Rattle.opus_packet.specs.Value.{duration_of}
use Rattle.opus_multi.specs.declared.durations.Durations.{Durations}
use Rattle.opus_multi.specs.declared.part.Part.{Part}
use Rattle.opus_multi.specs.declared.multi_place.MultiPlace.{MultiPlace}
use Rattle.opus_multi.specs.declared.multi_place.MultiPlace.TheVariants.{Reading, Done, Failed}

-- samples at 48 kHz of each part
abbrev pub part_durations : List Part → List ℕ
part_durations parts = map (λ p. duration_of p.held.value) parts

-- there is room for one more part, and all last as long unless another duration was told
pub record HasMore (streams : ℕ) (d : Durations) (parts : List Part) : Type 0 where
  pub room : length parts < streams
  pub equal : d.other ≡ None → part_durations parts ≡ replicate (length parts) d.first

-- there are parts, and all last as long
pub record HasEqual (d : Durations) (parts : List Part) : Type 0 where
  pub some : 1 ≤ length parts
  pub equal : part_durations parts ≡ replicate (length parts) d.first

abbrev pub HasRoom : MultiPlace → ℕ → Durations → List Part → Type 0
HasRoom Reading streams d parts = HasMore streams d parts
HasRoom Done streams d parts = HasEqual d parts
HasRoom (Failed f) streams d parts = Unit {0}

-- it has one proof at most
pub HasRoom-prop : (place : MultiPlace) (streams : ℕ) (d : Durations) (parts : List Part)
    → IsProp (HasRoom place streams d parts)
HasRoom-prop Reading streams d parts = Prim.hlevel props
HasRoom-prop Done streams d parts = Prim.hlevel props
HasRoom-prop (Failed f) streams d parts = Prim.hlevel props
