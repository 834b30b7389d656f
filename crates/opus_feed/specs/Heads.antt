-- What a header that is being taken stands for: the bytes that were taken, as its parts spell them.
use Rattle.std.specs.Prelude.{◌≡◌, ℕ, zero, suc, ◌+◌, ◌-◌, ◌*◌, ◌^◌, ◌<◌, ◌≤◌, Bool, true, false, ◌||◌, ◌==◌, if◌then◌else◌, List, [], ◌∷◌, ◌++◌, replicate, take, sum}
use Rattle.opus_toc.specs.Toc.{config_of, stereo_of, code_of, toc_byte}
use Rattle.opus_toc.specs.Configuration.{samples_of}
use Rattle.opus_flen.specs.FrameLength.{length_bytes}
use Rattle.opus_flen.specs.PaddingLength.{most_full}
use Rattle.opus_packet.specs.declared.shape.Shape.{Shape}
use Rattle.opus_packet.specs.Value.{max_frame, max_duration}
use Rattle.opus_packet.specs.Header.{Header, Sizes, equal, given, count_and_padding}
use Rattle.opus_packet.specs.HeaderRead.{shape_of, header_of, vbr_of, padded_of, frames_of, is_count}
use Rattle.opus_packet.specs.Spelled.{lengths_in, SpellsLengths}
use Rattle.opus_feed.specs.declared.framing.Framing.{Framing}
use Rattle.opus_feed.specs.declared.framing.Framing.TheVariants.{Whole, SelfDelimited}
use Rattle.opus_feed.specs.declared.stage.Stage.{Stage}
use Rattle.opus_feed.specs.declared.stage.Stage.TheVariants.{Toc, Count, PadLength, Length, LengthEnd, Last, LastEnd, Ready, BadCount, BadPadding}
use Rattle.opus_feed.specs.declared.head.Head.{Head}

-- code 2 and VBR give the lengths of all frames but the last
abbrev pub gives : Shape → Bool
gives shape = (shape.code == 2) || shape.vbr

-- how many lengths the header gives
abbrev pub given_count : Head → ℕ
given_count h = if gives h.shape then h.frames - 1 else 0

-- the bytes that spell the lengths
abbrev pub spelled_in : Head → List ℕ
spelled_in h = take h.spelled h.lengths

-- what is said of the frames' lengths
abbrev pub sizes_in : Head → Sizes
sizes_in h = if gives h.shape then given (lengths_in (h.frames - 1) (spelled_in h)) else equal h.frames

-- the header
abbrev pub header_in : Head → Header
header_in h = header_of h.first h.shape (sizes_in h)

-- the bytes before the lengths
abbrev pub lead : Head → List ℕ
lead h = toc_byte (config_of h.first) (stereo_of h.first) h.shape.code ∷ count_and_padding h.shape h.frames

-- the lengths, and in a self-delimited packet that of the last frame
abbrev pub behind_lead : Framing → Head → List ℕ
behind_lead Whole h = spelled_in h
behind_lead SelfDelimited h = spelled_in h ++ length_bytes h.last

-- the bytes that were taken
abbrev pub spelling : Framing → Stage → Head → List ℕ
spelling framing Toc h = []
spelling framing Count h = h.first ∷ []
spelling framing PadLength h = h.first ∷ h.count ∷ replicate h.full 255
spelling framing Length h = lead h ++ spelled_in h
spelling framing LengthEnd h = lead h ++ spelled_in h ++ h.low ∷ []
spelling framing Last h = lead h ++ spelled_in h
spelling framing LastEnd h = lead h ++ spelled_in h ++ h.low ∷ []
spelling framing Ready h = lead h ++ behind_lead framing h
spelling framing BadCount h = h.first ∷ h.count ∷ []
spelling framing BadPadding h = h.first ∷ h.count ∷ replicate (most_full + 1) 255

-- what a code asks of VBR, the padding total and the number of frames
abbrev pub SuitsCount : ℕ → Bool → ℕ → ℕ → Type 0
SuitsCount zero vbr pad frames = (vbr ≡ false) × (pad ≡ 0) × (frames ≡ 1)
SuitsCount (suc zero) vbr pad frames = (vbr ≡ false) × (pad ≡ 0) × (frames ≡ 2)
SuitsCount (suc (suc zero)) vbr pad frames = (vbr ≡ false) × (pad ≡ 0) × (frames ≡ 2)
SuitsCount (suc (suc (suc zero))) vbr pad frames = Unit {0}
SuitsCount (suc (suc (suc (suc code)))) vbr pad frames = ⊥

-- a count byte of code 3 is awaited
pub record IsCounting (h : Head) : Type 0 where
  pub byte : h.first < 256
  pub code : code_of h.first ≡ 3
  pub shape_is : h.shape ≡ shape_of 3 false 0
  pub none : h.spelled ≡ 0
  pub no_sum : h.sum ≡ 0

-- the count byte of code 3 was taken, and can stand
pub record IsCounted (h : Head) : Type 0 where
  pub byte : h.first < 256
  pub code : code_of h.first ≡ 3
  pub count : h.count < 256
  pub allowed : is_count h.first h.count ≡ true
  pub frames_are : h.frames ≡ frames_of h.count
  pub shape_code : h.shape.code ≡ 3
  pub shape_vbr : h.shape.vbr ≡ vbr_of h.count
  pub none : h.spelled ≡ 0
  pub no_sum : h.sum ≡ 0

-- a byte of the padding length is awaited
pub record IsPadded (full : ℕ) (h : Head) : Type 0 where
  pub counted : IsCounted h
  pub padded : padded_of h.count ≡ true
  pub most : full ≤ most_full

-- all before the lengths was taken
pub record IsLed (h : Head) : Type 0 where
  pub byte : h.first < 256
  pub code : h.shape.code ≡ code_of h.first
  pub some : 1 ≤ h.frames
  pub most : h.frames ≤ 48
  pub lasts : h.frames * samples_of (config_of h.first) ≤ max_duration
  pub pad : h.shape.pad < 2 ^ 24
  pub suits : SuitsCount h.shape.code h.shape.vbr h.shape.pad h.frames

-- so many lengths were taken
pub record HasLengths (done : ℕ) (h : Head) : Type 0 where
  pub spells : SpellsLengths done (spelled_in h)
  pub sum_is : h.sum ≡ sum (lengths_in done (spelled_in h))
  pub short : h.spelled ≤ 2 * done
  pub low : h.sum ≤ 1275 * done

-- a length is awaited
pub record IsGiving (done : ℕ) (h : Head) : Type 0 where
  pub led : IsLed h
  pub giving : gives h.shape ≡ true
  pub lengths : HasLengths done h
  pub more : done + 2 ≤ h.frames

-- all lengths but the last were taken
pub record IsSized (h : Head) : Type 0 where
  pub led : IsLed h
  pub lengths : HasLengths (given_count h) h

-- the first byte of a length that has two
abbrev pub IsLow : ℕ → Type 0
IsLow low = (252 ≤ low) × (low < 256)

-- the last frame's length, or most that it can be
abbrev pub IsLast : Framing → ℕ → Type 0
IsLast Whole last = last ≡ max_frame
IsLast SelfDelimited last = last ≤ max_frame

-- what stands at each stage
abbrev pub IsSound : Framing → Stage → Head → Type 0
IsSound framing Toc h = Unit {0}
IsSound framing Count h = IsCounting h
IsSound framing PadLength h = IsPadded h.full h
IsSound framing Length h = IsGiving h.done h
IsSound framing LengthEnd h = IsGiving h.done h × IsLow h.low
IsSound framing Last h = IsSized h × (framing ≡ SelfDelimited)
IsSound framing LastEnd h = IsSized h × IsLow h.low × (framing ≡ SelfDelimited)
IsSound framing Ready h = IsSized h × IsLast framing h.last
IsSound framing BadCount h =
    (h.first < 256) × (h.count < 256) × (code_of h.first ≡ 3) × (is_count h.first h.count ≡ false)
IsSound framing BadPadding h = IsPadded most_full h
