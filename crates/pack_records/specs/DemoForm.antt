-- What the form of `opus_demo` stores of packets stands for.
use Rattle.std.specs.Prelude.{ℕ, List}
use Rattle.job_loop.specs.Shown.{Shown}
use Rattle.pack_records.specs.declared.item.Item.{Item}
use Rattle.pack_records.specs.declared.store.Store.{Store}
use Rattle.pack_records.specs.declared.undelimited.Undelimited.{Undelimited}
use Rattle.pack_records.specs.StoreStands.{StoreStands}
use Rattle.pack_records.specs.Undelimited.{packet_reading}

-- the machine was fed these bytes, and these records stood
abbrev pub DemoStands : Store Undelimited → List ℕ → List (Shown Item) → Type 0
DemoStands = StoreStands packet_reading
