-- What the bytes of a record of multistream packets hold (RFC 7845, section 3), as a job sees it.
use Rattle.std.specs.Prelude.{◌≡◌, ℕ, ◌+◌, ◌<◌, List, [], ◌∷◌, length, take, map, min, ◌⊎◌}
use Rattle.job_loop.specs.Shown.{Shown}
use Rattle.opus_packet.specs.declared.fault.Fault.{Fault}
use Rattle.opus_packet.specs.Held.{HeldRead}
use Rattle.opus_packet.specs.Tail.{kept_bytes}
use Rattle.opus_feed.specs.declared.padding.Padding.{Padding}
use Rattle.opus_feed.specs.Tails.{tail_kept}
use Rattle.opus_multi.specs.Streams.{SpelledStream, AreStreams}
use Rattle.opus_multi.specs.Durations.{HaveOneDuration}
use Rattle.opus_multi.specs.Multistream.{durations_of}
use Rattle.opus_multi.specs.MultistreamFault.{IsBroken, AreUnequal}
use Rattle.opus_multi.specs.Parts.{dropped_of}
use Rattle.opus_multi.specs.Forms.{kept_multistream}
use Rattle.stream_records.specs.declared.item.Spelling.{Spelling}
use Rattle.stream_records.specs.declared.item.StreamsFound.{StreamsFound}
use Rattle.stream_records.specs.declared.item.StreamsFound.TheVariants.{Packets, Lost, Broken, Unequal}
use Rattle.stream_records.specs.declared.item.StreamsItem.{StreamsItem}

-- what is chosen once: how many streams a packet has, and which padding bytes are kept
pub record Choices : Type 0 where
  pub streams : ℕ
  pub padding : Padding

-- ---- what is shown of a stream

-- its value, with the padding bytes that are kept
abbrev pub held_as : Padding → SpelledStream → HeldRead
held_as padding s = record { value = s.value; tail = kept_bytes (tail_kept padding s.tail) }

-- how it was spelled, and how many padding bytes aren't kept
abbrev pub spelling_of : Padding → SpelledStream → Spelling
spelling_of padding s = record { shape = s.shape; size = s.size; dropped = dropped_of (tail_kept padding s.tail) }

-- how many bytes spell them
abbrev pub sizes_of : List SpelledStream → ℕ
sizes_of [] = 0
sizes_of (s ∷ ss) = s.size + sizes_of ss

-- ---- records

-- a record of these parts
abbrev pub record_of : ℕ → ℕ → ℕ → StreamsFound → List Spelling → List ℕ → Shown StreamsItem
record_of start place range found streams bytes = record {
  item = record { start = start; place = place; range = range; found = found; streams = record { items = streams } };
  bytes = bytes;
}

-- A record that holds a multistream packet of so many bytes, decided at its end: the kept form of its streams, and how
-- each was spelled.
abbrev pub packets_record : Padding → ℕ → ℕ → List SpelledStream → ℕ → Shown StreamsItem
packets_record padding start range ss size =
    record_of start (start + size) range Packets (map (spelling_of padding) ss)
    (kept_multistream (map (held_as padding) ss))

-- A record whose stream k, which begins behind so many bytes, doesn't read, and of which so many bytes are there. It is
-- decided behind the byte at the fault's place, or at the record's end.
abbrev pub broken_record : ℕ → ℕ → ℕ → Fault → ℕ → ℕ → Shown StreamsItem
broken_record start range k f before size =
    record_of start (start + before + min (f.place + 1) size) range (Broken k (start + before) f) [] []

-- a record of so many bytes whose stream k, which begins behind the first of them, lasts other than stream 0
abbrev pub unequal_record : ℕ → ℕ → ℕ → ℕ → ℕ → Shown StreamsItem
unequal_record start range k before size =
    record_of start (start + size) range (Unequal k (start + before)) [] []

-- a record that holds a lost packet
abbrev pub lost_record : ℕ → ℕ → Shown StreamsItem
lost_record start range = record_of start start range Lost [] []

-- ---- what bytes hold

-- the bytes from `start` on are a multistream packet, and the record shows it
pub record HoldsStreams (c : Choices) (start range : ℕ) (bytes : List ℕ) (r : Shown StreamsItem) : Type 0 where
  pub streams : List SpelledStream
  pub counted : length streams ≡ c.streams
  pub are : AreStreams streams bytes
  pub duration : HaveOneDuration (durations_of streams)
  pub shows : r ≡ packets_record c.padding start range streams (length bytes)

-- a stream doesn't read, and the record shows its fault
pub record HoldsBroken (count start range : ℕ) (bytes : List ℕ) (r : Shown StreamsItem) : Type 0 where
  pub stream : ℕ
  pub fault : Fault
  pub broken : IsBroken count bytes stream fault
  pub shows : r ≡ broken_record start range stream fault (sizes_of broken.first) (length broken.rest)

-- all streams read, and one lasts other than the first
pub record HoldsUnequal (count start range : ℕ) (bytes : List ℕ) (r : Shown StreamsItem) : Type 0 where
  pub stream : ℕ
  pub unequal : AreUnequal count bytes stream
  pub shows : r ≡ unequal_record start range stream (sizes_of (take stream unequal.streams)) (length bytes)

-- one of these
abbrev pub Holds : Choices → ℕ → ℕ → List ℕ → Shown StreamsItem → Type 0
Holds c start range bytes r =
    HoldsStreams c start range bytes r ⊎ (HoldsBroken c.streams start range bytes r
    ⊎ HoldsUnequal c.streams start range bytes r)

-- A stream doesn't read however the bytes go on, since its fault's place stands before their end, and the record shows
-- the fault.
pub record ShowsEarly (count start range : ℕ) (bytes : List ℕ) (r : Shown StreamsItem) : Type 0 where
  pub holds : HoldsBroken count start range bytes r
  pub early : holds.fault.place < length holds.broken.rest
