-- What is played on an output channel (RFC 7845, 5.1.1).
use Rattle.std.specs.Prelude.{ℕ, ◌-◌, ◌*◌, ◌/◌, ◌%◌, ◌==◌, nat_lt, if◌then◌else◌, slice_index}
use Rattle.opus_head.specs.HeadValue.{HeadValue}
use Rattle.opus_head.specs.declared.table.Table.{Table}
use Rattle.opus_head.specs.declared.table.Table.TheVariants.{None, Map, Matrix as MatrixTable}
use Rattle.opus_head.specs.declared.output.Route.{Route}
use Rattle.opus_head.specs.declared.output.Route.TheVariants.{Silence, Mono, Left, Right, Matrix}

-- Streams are decoded in their order, the coupled ones first and each to left and right; a mapping byte counts the
-- decoded channels, and 255 is silence.
abbrev pub byte_route : ℕ → ℕ → Route
byte_route coupled byte =
    if byte == 255 then Silence
    else if nat_lt byte (2 * coupled)
    then (if byte % 2 == 0 then Left (byte / 2) else Right (byte / 2))
    else Mono (byte - coupled)

-- without a table each channel is the decoded one with its number
abbrev pub table_route : Table → ℕ → ℕ → Route
table_route None channels channel = byte_route (channels - 1) channel
table_route (Map streams coupled map) channels channel = byte_route coupled (slice_index map channel)
table_route (MatrixTable streams coupled entries) channels channel = Matrix

abbrev pub route_of : HeadValue → ℕ → Route
route_of h channel = table_route h.table h.channels channel

-- streams in each packet: without a table there is one
abbrev pub table_streams : Table → ℕ
table_streams None = 1
table_streams (Map streams coupled map) = streams
table_streams (MatrixTable streams coupled entries) = streams

-- coupled streams among them: without a table the one stream is coupled for two channels
abbrev pub table_coupled : Table → ℕ → ℕ
table_coupled None channels = channels - 1
table_coupled (Map streams coupled map) channels = coupled
table_coupled (MatrixTable streams coupled entries) channels = coupled

abbrev pub streams_of : HeadValue → ℕ
streams_of h = table_streams h.table

abbrev pub coupled_of : HeadValue → ℕ
coupled_of h = table_coupled h.table h.channels
