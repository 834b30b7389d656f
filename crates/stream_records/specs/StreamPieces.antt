-- What a multistream packet that is read in pieces stands for, and what is shown of it.
use Rattle.std.specs.Prelude.{◌≡◌, ℕ, ◌+◌, ◌<◌, ◌≤◌, List, [], ◌∷◌, ◌++◌, length, take, map, flat_map, Option, Some, None, Result, Ok, Err, ⊤}
use Rattle.job_loop.specs.Shown.{Shown}
use Rattle.opus_packet.specs.declared.fault.Fault.{Fault}
use Rattle.opus_packet.specs.PacketPrefix.{AreBytes}
use Rattle.opus_packet.specs.Read.{PacketRead}
use Rattle.opus_packet.specs.Tail.{kept_bytes}
use Rattle.opus_packet.specs.Value.{duration_of}
use Rattle.opus_feed.specs.declared.framing.Framing.{Framing}
use Rattle.opus_feed.specs.declared.framing.Framing.TheVariants.{Whole}
use Rattle.opus_feed.specs.Feeds.{Stands, Ended}
use Rattle.opus_feed.specs.Answers.{IsRead}
use Rattle.opus_feed.specs.Packets.{Refuses}
use Rattle.opus_feed.specs.Steps.{IsReading}
use Rattle.opus_multi.specs.Streams.{SpelledStream, StandFirst}
use Rattle.opus_multi.specs.MultistreamFault.{framing_of}
use Rattle.opus_multi.specs.Forms.{kept_self_of}
use Rattle.opus_multi.specs.Told.{Says}
use Rattle.pack_records.specs.Fits.{form_of}
use Rattle.stream_records.specs.declared.item.Spelling.{Spelling}
use Rattle.stream_records.specs.declared.item.StreamsFound.TheVariants.{Packets, Unequal}
use Rattle.stream_records.specs.declared.item.StreamsItem.{StreamsItem}
use Rattle.stream_records.specs.declared.durations.Other.{Other}
use Rattle.stream_records.specs.declared.stream_pieces.StreamPieces.{StreamPieces}
use Rattle.stream_records.specs.Fits.{ItemFits}
use Rattle.stream_records.specs.Holds.{Choices, record_of, sizes_of, held_as, spelling_of}
use Rattle.stream_records.specs.Spellings.{spelling_read}
use Rattle.stream_records.specs.Told.{Told, stream_in, IsAdded}

-- the record that stands
abbrev pub shown_by : StreamPieces → Shown StreamsItem
shown_by p = record { item = p.item; bytes = p.kept.items }

-- it can be lent
abbrev pub IsReady : StreamPieces → Type 0
IsReady p = ItemFits p.item p.kept.items

abbrev pub choices_of : StreamPieces → Choices
choices_of p = record { streams = p.streams; padding = p.feed.padding }

-- how the streams that are whole were spelled
abbrev pub whole_in : StreamPieces → List Spelling
whole_in p = p.item.streams.items

-- The bytes from `start` on decide nothing yet: the first streams are whole, and the feed of the next one stands for
-- the bytes behind them.
pub record Reads (p : StreamPieces) (start : ℕ) (bytes : List ℕ) : Type 0 where
  pub are_bytes : AreBytes bytes
  pub first : List SpelledStream
  pub rest : List ℕ
  pub within : length first < p.streams
  pub stand : StandFirst first bytes rest
  pub whole_are : whole_in p ≡ map (spelling_of p.feed.padding) first
  pub kept_is : p.kept.items ≡ flat_map (λ s. kept_self_of (held_as p.feed.padding s)) first
  pub begun_is : p.begun ≡ start + sizes_of first
  pub told : Told p.durations start first
  pub framing : p.feed.framing ≡ framing_of p.streams (length first)
  pub stands : Stands p.feed rest
  pub reading : IsReading p.feed.place

-- The next stream doesn't read, however the bytes go on. Of the bytes so many were there before the last piece, which
-- holds the byte at the fault's place.
pub record HasRefused (p : StreamPieces) (start : ℕ) (f : Fault) (before : ℕ) (bytes : List ℕ) : Type 0 where
  pub are_bytes : AreBytes bytes
  pub first : List SpelledStream
  pub rest : List ℕ
  pub within : length first < p.streams
  pub stand : StandFirst first bytes rest
  pub counted : length (whole_in p) ≡ length first
  pub begun_is : p.begun ≡ start + sizes_of first
  pub refuses : Refuses (framing_of p.streams (length first)) f rest
  pub low : start + before ≤ p.begun + f.place
  pub high : f.place < length rest

-- a turn over a piece behind some bytes: all of it came; or a stream ends in it, and the next one begins
abbrev pub TurnReads : ℕ → List ℕ → List ℕ → Result (Option ℕ) Fault → StreamPieces → Type 0
TurnReads start bytes piece (Ok None) new = Reads new start (bytes ++ piece)
TurnReads start bytes piece (Ok (Some used)) new = Reads new start (bytes ++ take used piece)
TurnReads start bytes piece (Err f) new = HasRefused new start f (length bytes) (bytes ++ piece)

-- how many streams are whole
abbrev pub Turned : StreamPieces → ℕ → Result (Option ℕ) Fault → StreamPieces → Type 0
Turned old size (Ok None) new = Unit {0}
Turned old size (Ok (Some used)) new =
    (used ≤ size) × (length (whole_in old) < length (whole_in new)) × (length (whole_in new) ≤ old.streams)
Turned old size (Err f) new = Unit {0}

-- all turns over a piece
abbrev pub AllReads : ℕ → List ℕ → List ℕ → Result ⊤ Fault → StreamPieces → Type 0
AllReads start bytes piece (Ok done) new = Reads new start (bytes ++ piece)
AllReads start bytes piece (Err f) new = HasRefused new start f (length bytes) (bytes ++ piece)

-- the front of a piece, which ends at this place, was taken, and the rest is left
pub record SoFar (old now : StreamPieces) (end : ℕ) (piece rest : List ℕ) : Type 0 where
  pub front : List ℕ
  pub piece_is : piece ≡ front ++ rest
  pub same : choices_of now ≡ choices_of old
  pub reads : (start : ℕ) (bytes : List ℕ) → start + length bytes + length piece ≡ end → Reads old start bytes
      → Reads now start (bytes ++ front)

-- the packet that was whole became one more stream, written in this framing
pub record HasAdded (framing : Framing) (old new : StreamPieces) : Type 0 where
  pub packet : PacketRead
  pub read : (bytes : List ℕ) → Stands old.feed bytes → IsRead old.feed.framing old.feed.padding bytes packet
  pub ended : (bytes : List ℕ) → Ended old.feed bytes → IsRead old.feed.framing old.feed.padding bytes packet
  pub whole_are : whole_in new ≡ whole_in old ++ spelling_read packet ∷ []
  pub kept_is : new.kept.items ≡ old.kept.items ++ form_of framing packet.value (kept_bytes packet.tail)
  pub told : (ds : List ℕ) → length ds ≡ length (whole_in old)
      → Says old.durations.first (stream_in old.durations.other) ds
      → Says new.durations.first (stream_in new.durations.other) (ds ++ duration_of packet.value ∷ [])
  pub added : IsAdded old.durations.other (length (whole_in old)) old.begun new.durations.other

-- all streams are whole: one lasts other than the first, or all last as long
abbrev pub LastShows : Option Other → StreamPieces → ℕ → ℕ → ℕ → Shown StreamsItem → Type 0
LastShows (Some o) all start range place r = r ≡ record_of start place range (Unequal o.stream o.start) [] []
LastShows None all start range place r = r ≡ record_of start place range Packets (whole_in all) all.kept.items

-- the packet that was whole became the last stream, and the record shows all of them
pub record HasLast (old : StreamPieces) (start range place : ℕ) (r : Shown StreamsItem) : Type 0 where
  pub all : StreamPieces
  pub added : HasAdded Whole old all
  pub shows : LastShows all.durations.other all start range place r
