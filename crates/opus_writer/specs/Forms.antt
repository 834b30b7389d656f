-- The written forms of a packet, and their bytes before the frames.
use Rattle.std.specs.Prelude.{ℕ, Bool, if◌then◌else◌, List, length, map}
use Rattle.opus_packet.specs.Value.{PacketValue}
use Rattle.opus_packet.specs.Tail.{kept_bytes}
use Rattle.opus_packet.specs.Read.{PacketRead}
use Rattle.opus_packet.specs.Header.{header_bytes}
use Rattle.opus_packet.specs.PacketGrammar.{header_for}
use Rattle.opus_packet.specs.SelfGrammar.{self_header_bytes}
use Rattle.opus_packet.specs.Canonical.{canonical_shape, canonical, canonical_self_delimited, keep_shape, kept_form, kept_self_delimited}

-- bytes that suffice for each form, whatever the value: a self-delimited one has two more, of the last length

abbrev pub max_canonical : ℕ
max_canonical = 61295

abbrev pub max_canonical_self : ℕ
max_canonical_self = 61297

abbrev pub max_kept : ℕ
max_kept = 192626

abbrev pub max_kept_self : ℕ
max_kept_self = 192628

-- the header of the canonical form
abbrev pub canonical_header : PacketValue → List ℕ
canonical_header v = header_bytes (header_for v (canonical_shape (map length v.frames)))

-- the header of the canonical self-delimited form (RFC 6716, Appendix B)
abbrev pub canonical_self_header : PacketValue → List ℕ
canonical_self_header v = self_header_bytes v (canonical_shape (map length v.frames))

-- the header of the kept form with so many padding bytes
abbrev pub keep_header : PacketValue → ℕ → List ℕ
keep_header v tail = header_bytes (header_for v (keep_shape (map length v.frames) tail))

-- the header of the kept self-delimited form
abbrev pub keep_self_header : PacketValue → ℕ → List ℕ
keep_self_header v tail = self_header_bytes v (keep_shape (map length v.frames) tail)

-- the kept form of a packet: its value with its own padding bytes
abbrev pub kept_of : PacketRead → List ℕ
kept_of p = kept_form p.value (kept_bytes p.tail)

-- the same, self-delimited
abbrev pub kept_self_of : PacketRead → List ℕ
kept_self_of p = kept_self_delimited p.value (kept_bytes p.tail)

-- the forms and their headers in either framing: self-delimited, or not

abbrev pub canonical_in : Bool → PacketValue → List ℕ
canonical_in own v = if own then canonical_self_delimited v else canonical v

abbrev pub canonical_header_in : Bool → PacketValue → List ℕ
canonical_header_in own v = if own then canonical_self_header v else canonical_header v

abbrev pub kept_in : Bool → PacketValue → List ℕ → List ℕ
kept_in own v tail = if own then kept_self_delimited v tail else kept_form v tail

abbrev pub keep_header_in : Bool → PacketValue → ℕ → List ℕ
keep_header_in own v tail = if own then keep_self_header v tail else keep_header v tail

abbrev pub kept_of_in : Bool → PacketRead → List ℕ
kept_of_in own p = kept_in own p.value (kept_bytes p.tail)
