-- What the numbers of a record say of the bytes that are lent with them.
use Rattle.std.specs.Prelude.{◌≡◌, ℕ, ◌*◌, ◌≤◌, List, [], length}
use Rattle.stream_records.specs.declared.item.StreamsFound.{StreamsFound}
use Rattle.stream_records.specs.declared.item.StreamsFound.TheVariants.{Packets, Lost, Broken, Unequal}
use Rattle.stream_records.specs.declared.item.StreamsItem.{StreamsItem}

-- so many streams have at most so many bytes in their kept forms
pub record StreamsFit (count size : ℕ) : Type 0 where
  pub some : 1 ≤ count
  pub most : count ≤ 255
  pub room : size ≤ 192628 * count

-- packets are lent in their kept forms, and nothing of any other record
abbrev pub FoundFits : StreamsFound → ℕ → List ℕ → Type 0
FoundFits Packets count bytes = StreamsFit count (length bytes)
FoundFits Lost count bytes = bytes ≡ []
FoundFits (Broken stream start fault) count bytes = bytes ≡ []
FoundFits (Unequal stream start) count bytes = bytes ≡ []

abbrev pub ItemFits : StreamsItem → List ℕ → Type 0
ItemFits item bytes = FoundFits item.found (length item.streams.items) bytes
