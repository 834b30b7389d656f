-- A packet's places in some bytes: small numbers that tell where its parts lie.
use Rattle.std.specs.Prelude.{◌≡◌, ℕ, ◌+◌, ◌-◌, ◌*◌, ◌<◌, ◌≤◌, List, length}
use Rattle.std.specs.List.{slice_range}
use Rattle.opus_flen.specs.PaddingLength.{padding_limit}
use Rattle.opus_toc.specs.Configuration.{samples_of}
use Rattle.opus_packet.specs.declared.places.Places.{Places}
use Rattle.opus_packet.specs.declared.places.LensAt as declared
use Rattle.opus_packet.specs.declared.places.LensAt.TheVariants.{Equal, Spelled}
use Rattle.opus_packet.specs.declared.header.Header as declared_header
use Rattle.opus_packet.specs.declared.header.Sizes as declared_sizes
use Rattle.opus_packet.specs.declared.header.Sizes.TheVariants.{Equal as EqualSizes, Given}
use Rattle.opus_packet.specs.Value.{max_frame, max_duration}
use Rattle.opus_packet.specs.Spelled.{lengths_in, SpellsLengths}
use Rattle.opus_packet.specs.Header.{max_header, Header, Sizes, equal, given, header_bytes, body_size, padding_data}
use Rattle.opus_packet.specs.HeaderRead.{whole, header_read}

-- the last bytes of the header, which spell the lengths
abbrev pub spelling_at : ℕ → ℕ → List ℕ → List ℕ
spelling_at width used bytes = slice_range bytes (used - width) used

-- what the header says of the lengths
abbrev pub sizes_by : declared.LensAt → ℕ → ℕ → List ℕ → Sizes
sizes_by Equal count used bytes = equal count
sizes_by (Spelled width) count used bytes =
    given (lengths_in (count - 1) (spelling_at width used bytes))

-- the header that stands there
abbrev pub header_at : Places → List ℕ → Header
header_at p bytes = record {
  config = p.toc.config;
  stereo = p.toc.stereo;
  shape = p.shape;
  sizes = sizes_by p.lens p.count p.used bytes;
}

-- the lengths stand at the header's end
abbrev pub AreSpelledAt : declared.LensAt → ℕ → ℕ → List ℕ → Type 0
AreSpelledAt Equal count used bytes = Unit {0}
AreSpelledAt (Spelled width) count used bytes =
    (width ≤ used) × (width ≤ 2 * (count - 1)) × SpellsLengths (count - 1) (spelling_at width used bytes)

-- the numbers are those of the header that stands first in the bytes
pub record HeaderFits (p : Places) (bytes : List ℕ) : Type 0 where
  pub said_is : header_read bytes ≡ whole (header_at p bytes)
  pub used_is : p.used ≡ length (header_bytes (header_at p bytes))
  pub within : p.used ≤ length bytes
  pub small : p.used ≤ max_header
  pub tail_is : p.tail ≡ padding_data p.shape.pad
  pub tail_small : p.tail < padding_limit
  pub code : p.toc.code ≡ p.shape.code
  pub some : 1 ≤ p.count
  pub most : p.count ≤ 48
  pub lens : AreSpelledAt p.lens p.count p.used bytes
  pub lasts : p.count * samples_of p.toc.config ≤ max_duration
  pub frame : p.last ≤ max_frame

-- and the packet is all of the bytes
pub record Fits (p : Places) (bytes : List ℕ) : Type 0 where
  pub header : HeaderFits p bytes
  pub fills : length bytes ≡ p.used + body_size (header_at p bytes).sizes p.last + p.tail

-- where a header's lengths are kept
abbrev pub KeepsLens : declared.LensAt → ℕ → declared_sizes.Sizes → Type 0
KeepsLens Equal count (EqualSizes n) = count ≡ n
KeepsLens Equal count (Given spelled) = ⊥
KeepsLens (Spelled width) count (EqualSizes n) = ⊥
KeepsLens (Spelled width) count (Given spelled) =
    (count ≡ spelled.count + 1) × (width ≡ length spelled.bytes.now)

-- the numbers are those of a header and a last length
pub record IsFrom (h : declared_header.Header) (last : ℕ) (p : Places) : Type 0 where
  pub config : p.toc.config ≡ h.toc.config
  pub stereo : p.toc.stereo ≡ h.toc.stereo
  pub code : p.toc.code ≡ h.toc.code
  pub shape : p.shape ≡ h.shape
  pub used : p.used ≡ h.used
  pub tail : p.tail ≡ h.tail
  pub last_is : p.last ≡ last
  pub lens : KeepsLens p.lens p.count h.sizes
