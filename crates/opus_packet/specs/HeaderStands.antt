-- What reading a header gives.
use Rattle.std.specs.Prelude.{◌≡◌, ℕ, ◌+◌, ◌*◌, ◌<◌, ◌≤◌, List, length, take, drop, Option, Some, None}
use Rattle.opus_flen.specs.PaddingLength.{padding_limit}
use Rattle.opus_toc.specs.Toc.{config_of, stereo_of, code_of}
use Rattle.opus_toc.specs.Configuration.{samples_of}
use Rattle.opus_packet.specs.declared.shape.Shape.{Shape}
use Rattle.opus_packet.specs.declared.header.Sizes as declared_sizes
use Rattle.opus_packet.specs.declared.header.Sizes.TheVariants.{Equal, Given}
use Rattle.opus_packet.specs.declared.header.Header as declared_header
use Rattle.opus_packet.specs.declared.header.HeaderRead as declared_read
use Rattle.opus_packet.specs.declared.header.HeaderRead.TheVariants.{Whole, Partial, Refused}
use Rattle.opus_packet.specs.Value.{max_frame, max_duration, PacketValue}
use Rattle.opus_packet.specs.Cut.{cut}
use Rattle.opus_packet.specs.Spelled.{lengths_of, AreGiven}
use Rattle.opus_packet.specs.Header.{max_header, Header, Sizes, equal, given, header_bytes, body_size, padding_data, frame_count, frame_lengths}
use Rattle.opus_packet.specs.HeaderRead.{HeaderRead, whole, partial, refused}

-- the sizes as plain numbers
abbrev pub sizes_value : declared_sizes.Sizes → Sizes
sizes_value (Equal count) = equal count
sizes_value (Given spelled) = given (lengths_of spelled)

-- the header as plain numbers
abbrev pub header_value : declared_header.Header → Header
header_value h = record {
  config = h.toc.config;
  stereo = h.toc.stereo;
  shape = h.shape;
  sizes = sizes_value h.sizes;
}

-- at least one frame and at most 48
abbrev pub AreSized : declared_sizes.Sizes → Type 0
AreSized (Equal count) = (1 ≤ count) × (count ≤ 48)
AreSized (Given spelled) = AreGiven spelled

-- the last frame's length, where frames and padding fill so many bytes behind the header; or no length does
abbrev pub Fills : Sizes → ℕ → ℕ → Option ℕ → Type 0
Fills sizes tail rest (Some n) = (n ≤ max_frame) × (rest ≡ body_size sizes n + tail)
Fills sizes tail rest None = (n : ℕ) → rest ≡ body_size sizes n + tail → ⊥

-- a header made of its parts, the first byte among them
pub record IsMade (first : ℕ) (shape : Shape) (sizes : declared_sizes.Sizes) (used : ℕ)
    (h : declared_header.Header) : Type 0 where
  pub config : h.toc.config ≡ config_of first
  pub stereo : h.toc.stereo ≡ stereo_of first
  pub code : h.toc.code ≡ code_of first
  pub shape_is : h.shape ≡ shape
  pub sizes_are : h.sizes ≡ sizes
  pub used_is : h.used ≡ used
  pub tail_is : h.tail ≡ padding_data shape.pad
  pub tail_small : h.tail < padding_limit

-- the header stands at the front of so many bytes, of which the first say this
pub record HeaderStands (h : declared_header.Header) (size : ℕ) (said : HeaderRead) : Type 0 where
  pub said_is : said ≡ whole (header_value h)
  pub used_is : h.used ≡ length (header_bytes (header_value h))
  pub within : h.used ≤ size
  pub small : h.used ≤ max_header
  pub tail_is : h.tail ≡ padding_data h.shape.pad
  pub tail_small : h.tail < padding_limit
  pub code : h.toc.code ≡ h.shape.code
  pub sized : AreSized h.sizes
  pub lasts : frame_count (sizes_value h.sizes) * samples_of h.toc.config ≤ max_duration

-- an answer of `read_header` is what the first bytes say
abbrev pub ReadsHeader : ℕ → declared_read.HeaderRead → HeaderRead → Type 0
ReadsHeader size (Whole h) said = HeaderStands h size said
ReadsHeader size Partial said = said ≡ partial
ReadsHeader size (Refused fault) said = said ≡ refused fault.rule fault.place

-- the value of a header, where the last frame has n bytes and all frames are these bytes
abbrev pub value_with : Header → ℕ → List ℕ → PacketValue
value_with h n body = record {
  config = h.config;
  stereo = h.stereo;
  frames = cut body (frame_lengths h.sizes n);
}

-- the value that stands behind a header
abbrev pub value_at : Header → ℕ → List ℕ → PacketValue
value_at h n bytes = value_with h n (take (body_size h.sizes n) (drop (length (header_bytes h)) bytes))
