-- An input that is one multistream packet (RFC 7845, section 3), or none.
use Rattle.std.specs.Prelude.{◌≡◌, ℕ, List, [], ◌∷◌, Option, ◌⊎◌}
use Rattle.job_loop.specs.Shown.{Shown}
use Rattle.opus_packet.specs.PacketPrefix.{AreBytes}
use Rattle.pack_records.specs.declared.cut.Cut.{Cut}
use Rattle.pack_records.specs.OnePayload.{Ends}
use Rattle.stream_records.specs.declared.item.StreamsItem.{StreamsItem}
use Rattle.stream_records.specs.Holds.{Choices, ShowsEarly}
use Rattle.stream_records.specs.StreamReading.{streams_show}

-- a stream doesn't read however the bytes go on, and one record shows it
pub record EarlyRecord (count : ℕ) (h : List ℕ) (rs : List (Shown StreamsItem)) : Type 0 where
  pub shown : Shown StreamsItem
  pub shows : ShowsEarly count 0 0 h shown
  pub records_are : rs ≡ shown ∷ []

-- nothing is decided
pub record NoRecord (count : ℕ) (h : List ℕ) (rs : List (Shown StreamsItem)) : Type 0 where
  pub undecided : (r : Shown StreamsItem) → ShowsEarly count 0 0 h r → ⊥
  pub records_are : rs ≡ []

-- bytes settle the record of a fault that none behind them can mend, and no other
pub record RawSettles (c : Choices) (h : List ℕ) (rs : List (Shown StreamsItem)) : Type 0 where
  pub are_bytes : AreBytes h
  pub shows : EarlyRecord c.streams h rs ⊎ NoRecord c.streams h rs

-- the whole input is one record, which shows what it holds; it is never cut
abbrev pub RawEnds : Choices → List ℕ → List (Shown StreamsItem) → Option Cut → Type 0
RawEnds c = Ends (streams_show c)
