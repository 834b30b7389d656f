-- What is known of streams that were told one after another.
use Rattle.std.specs.Prelude.{◌≡◌, ℕ, ◌+◌, ◌⊎◌, List, take, Option, Some, None}
use Rattle.opus_multi.specs.Streams.{SpelledStream}
use Rattle.opus_multi.specs.Multistream.{durations_of}
use Rattle.opus_multi.specs.Told.{Says}
use Rattle.stream_records.specs.declared.durations.Other.{Other}
use Rattle.stream_records.specs.declared.durations.Durations.{Durations}
use Rattle.stream_records.specs.Holds.{sizes_of}

-- which stream it is
abbrev pub stream_in : Option Other → Option ℕ
stream_in None = None
stream_in (Some o) = Some o.stream

-- it stays, or it is this stream
abbrev pub IsAdded : Option Other → ℕ → ℕ → Option Other → Type 0
IsAdded old stream start new = (new ≡ old) ⊎ (new ≡ Some (record { stream = stream; start = start }))

-- it begins behind the streams before it
abbrev pub BeginsBehind : ℕ → List SpelledStream → Option Other → Type 0
BeginsBehind start ss None = Unit {0}
BeginsBehind start ss (Some o) = o.start ≡ start + sizes_of (take o.stream ss)

-- these streams were told, of which the first begins at `start`
pub record Told (d : Durations) (start : ℕ) (ss : List SpelledStream) : Type 0 where
  pub says : Says d.first (stream_in d.other) (durations_of ss)
  pub begins : BeginsBehind start ss d.other
