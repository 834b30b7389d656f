-- What the numbers of a record say of the bytes that are lent with them.
use Rattle.std.specs.Prelude.{◌≡◌, ℕ, ◌≤◌, List, [], length}
use Rattle.dump_records.specs.declared.item.Found.{Found}
use Rattle.dump_records.specs.declared.item.Found.TheVariants.{Record, Bad}
use Rattle.dump_records.specs.declared.item.Item.{Item}

-- a packet has 65,527 bytes at most, and nothing is lent where a capture goes wrong
abbrev pub FoundFits : Found → List ℕ → Type 0
FoundFits (Record told) bytes = length bytes ≤ 65527
FoundFits (Bad fault) bytes = bytes ≡ []

abbrev pub ItemFits : Item → List ℕ → Type 0
ItemFits item bytes = FoundFits item.found bytes
