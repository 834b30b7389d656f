-- What the form of `opus_demo` stores of multistream packets stands for.
use Rattle.std.specs.Prelude.{ℕ, List}
use Rattle.job_loop.specs.Shown.{Shown}
use Rattle.pack_records.specs.declared.store.Store.{Store}
use Rattle.pack_records.specs.StoreStands.{StoreStands}
use Rattle.stream_records.specs.declared.item.StreamsItem.{StreamsItem}
use Rattle.stream_records.specs.declared.stream_pieces.StreamPieces.{StreamPieces}
use Rattle.stream_records.specs.declared.streams_form.StreamsForm.{StreamsForm}
use Rattle.stream_records.specs.StreamReading.{streams_reading}

-- the machine was fed these bytes, and these records stood
abbrev pub DemoStands : StreamsForm (Store StreamPieces) → List ℕ → List (Shown StreamsItem) → Type 0
DemoStands s = StoreStands streams_reading s.form
