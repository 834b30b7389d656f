-- The lines that tell of an OpusHead (RFC 7845, 5.1; RFC 8486).
use Rattle.std.specs.Prelude.{ℕ, List, [], ◌∷◌, ◌++◌, codes, decimal}
use Rattle.std.specs.Fmt.{signed_decimal}
use Rattle.opus_head.specs.HeadValue.{HeadValue}
use Rattle.opus_head.specs.Channel.{route_of, streams_of, coupled_of}
use Rattle.opus_head.specs.Factors.{factors_of, factor_at}
use Rattle.opus_head.specs.declared.output.Route.{Route}
use Rattle.opus_head.specs.declared.output.Route.TheVariants as routes
use Rattle.opus_head.specs.declared.table.Table.{Table}
use Rattle.opus_head.specs.declared.table.Table.TheVariants.{None, Map, Matrix}
use Rattle.opuspack.specs.Texts.{all_texts}

-- `NAME N`
abbrev pub field_line : List ℕ → List ℕ → List ℕ
field_line name number = name ++ 32 ∷ (number ++ 10 ∷ [])

-- the counts are those of the table, the gain is in 1/256 dB
abbrev pub field_lines : HeadValue → List ℕ
field_lines h =
    field_line (codes "version") (decimal h.version) ++ field_line (codes "channels") (decimal h.channels)
    ++ field_line (codes "preskip") (decimal h.pre_skip) ++ field_line (codes "rate") (decimal h.rate)
    ++ field_line (codes "gain") (signed_decimal h.gain) ++ field_line (codes "family") (decimal h.family)
    ++ field_line (codes "streams") (decimal (streams_of h)) ++ field_line (codes "coupled") (decimal (coupled_of h))

-- a stream, or a side of it
abbrev pub stream_text : ℕ → List ℕ → List ℕ
stream_text stream side = codes "stream " ++ decimal stream ++ side

-- what is played on a channel
abbrev pub route_text : Route → List ℕ
route_text routes.Silence = codes "silence"
route_text (routes.Mono stream) = stream_text stream []
route_text (routes.Left stream) = stream_text stream (codes " left")
route_text (routes.Right stream) = stream_text stream (codes " right")
route_text routes.Matrix = codes "matrix"

-- `channel I: ROUTE`
abbrev pub channel_line : HeadValue → ℕ → List ℕ
channel_line h channel = codes "channel " ++ decimal channel ++ codes ": " ++ route_text (route_of h channel) ++ 10 ∷ []

-- a factor behind a blank
abbrev pub factor_text : List ℕ → ℕ → List ℕ
factor_text entries i = 32 ∷ signed_decimal (factor_at entries i)

-- the factors of a matrix in the order of the file, and nothing without one
abbrev pub matrix_line : HeadValue → Table → List ℕ
matrix_line h None = []
matrix_line h (Map streams coupled map) = []
matrix_line h (Matrix streams coupled entries) =
    codes "matrix:" ++ all_texts (factor_text entries) (factors_of h) ++ 10 ∷ []

-- all lines
unfoldable pub head_lines : HeadValue → List ℕ
head_lines h = field_lines h ++ all_texts (channel_line h) h.channels ++ matrix_line h h.table
