-- What multistream packets show, as the payloads of records.
use Rattle.std.specs.Prelude.{ℕ, ◌<◌, List, length}
use Rattle.job_loop.specs.Shown.{Shown}
use Rattle.pack_records.specs.Payloads.{Deciding, Showing, Reading}
use Rattle.stream_records.specs.declared.item.StreamsItem.{StreamsItem}
use Rattle.stream_records.specs.declared.stream_pieces.StreamPieces.{StreamPieces}
use Rattle.stream_records.specs.Holds.{Choices, HoldsBroken, Holds, lost_record}
use Rattle.stream_records.specs.StreamPieces.{shown_by, choices_of, IsReady, Reads}

-- a stream of this part of a payload doesn't read, however that goes on, and a record shows it
pub record DecidedEarly (count start range : ℕ) (part : List ℕ) : Type 0 where
  pub shown : Shown StreamsItem
  pub holds : HoldsBroken count start range part shown
  pub early : holds.fault.place < length holds.broken.rest

abbrev pub streams_decide : ℕ → Deciding (Shown StreamsItem)
streams_decide count = record { early = DecidedEarly count; told = λ start range part early. early.shown }

abbrev pub streams_show : Choices → Showing (Shown StreamsItem)
streams_show c = record { holds = Holds c; lost = lost_record; decides = streams_decide c.streams }

abbrev pub streams_reading : Reading StreamPieces Choices (Shown StreamsItem)
streams_reading = record {
  layout = choices_of;
  shows = streams_show;
  place = λ r. r.item.place;
  stands = Reads;
  current = λ p own. shown_by p;
  ready = λ p own. IsReady p;
}
