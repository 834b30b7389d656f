-- Headers made of lengths.
use Rattle.std.proofs.Common.{◌≡◌, ℕ, ◌+◌, ◌-◌, ◌≤◌, Bool, true, false, ◌||◌, ◌==◌, if◌then◌else◌, List, [], ◌∷◌, ◌++◌, length, take, flat_map, refl, sym, ap, ◌∙◌, length-take-le, append_assoc, arith}
use Rattle.opus_toc.specs.Toc.{toc_byte}
use Rattle.opus_flen.specs.FrameLength.{length_bytes}
use Rattle.opus_packet.specs.declared.shape.Shape.{Shape}
use Rattle.opus_packet.specs.Header.{equal, given, frame_count, given_lengths, count_and_padding, header_bytes}
use Rattle.opus_packet.specs.PacketGrammar.{sizes_for, header_in}
use Rattle.opus_packet.proofs.HeaderLemmas.{header_bytes-is}

count_by : (b : Bool) (lengths : List ℕ) → 1 ≤ length lengths
    → frame_count (if b then given (take (length lengths - 1) lengths) else equal (length lengths))
    ≡ length lengths
count_by true lengths some =
    let front = length-take-le (length lengths - 1) lengths (omega arith) in omega arith
count_by false lengths some = refl

pub frame_count-sizes_for : (shape : Shape) (lengths : List ℕ) → 1 ≤ length lengths
    → frame_count (sizes_for shape lengths) ≡ length lengths
frame_count-sizes_for shape lengths some = count_by ((shape.code == 2) || shape.vbr) lengths some

-- the bytes of a header, its count taken from the lengths
pub header_in-is : (config : ℕ) (stereo : Bool) (shape : Shape) (lengths : List ℕ) → 1 ≤ length lengths
    → toc_byte config stereo shape.code
    ∷ (count_and_padding shape (length lengths)
    ++ flat_map length_bytes (given_lengths (sizes_for shape lengths)))
    ≡ header_bytes (header_in config stereo shape lengths)
header_in-is config stereo shape lengths some =
    sym (header_bytes-is (header_in config stereo shape lengths)
    ∙ ap (λ n. toc_byte config stereo shape.code
    ∷ (count_and_padding shape n ++ flat_map length_bytes (given_lengths (sizes_for shape lengths))))
    (frame_count-sizes_for shape lengths some))

few_by : (b : Bool) (lengths : List ℕ) → 1 ≤ length lengths
    → length (given_lengths (if b then given (take (length lengths - 1) lengths) else equal (length lengths)))
    + 1 ≤ length lengths
few_by true lengths some =
    let front = length-take-le (length lengths - 1) lengths (omega arith) in omega arith
few_by false lengths some = some

pub length-given_lengths : (shape : Shape) (lengths : List ℕ) → 1 ≤ length lengths
    → length (given_lengths (sizes_for shape lengths)) + 1 ≤ length lengths
length-given_lengths shape lengths some = few_by ((shape.code == 2) || shape.vbr) lengths some

-- a header in its parts, appended one after another
pub header-made : (config : ℕ) (stereo : Bool) (shape : Shape) (lengths : List ℕ) → 1 ≤ length lengths
    → (before with_toc with_count bytes spelled : List ℕ) (toc : ℕ) → toc ≡ toc_byte config stereo shape.code
    → with_toc ≡ before ++ toc ∷ [] → with_count ≡ with_toc ++ count_and_padding shape (length lengths)
    → bytes ≡ with_count ++ spelled → spelled ≡ flat_map length_bytes (given_lengths (sizes_for shape lengths))
    → bytes ≡ before ++ header_bytes (header_in config stereo shape lengths)
header-made config stereo shape lengths some before with_toc with_count bytes spelled toc toc_is t c b s =
    let count = count_and_padding shape (length lengths) in
    b ∙ ap (λ l. l ++ spelled) c ∙ ap (λ l. (l ++ count) ++ spelled) t
    ∙ append_assoc (before ++ toc ∷ []) count spelled
    ∙ append_assoc before (toc ∷ []) (count ++ spelled)
    ∙ ap (λ n. before ++ n ∷ (count ++ spelled)) toc_is
    ∙ ap (λ l. before ++ toc_byte config stereo shape.code ∷ (count ++ l)) s
    ∙ ap (λ l. before ++ l) (header_in-is config stereo shape lengths some)

-- the lengths that a header gives, by whether it does
pub given-if : (b : Bool) (shape : Shape) (lengths : List ℕ) → b ≡ ((shape.code == 2) || shape.vbr)
    → given_lengths (sizes_for shape lengths) ≡ given_lengths (if b then given (take (length lengths - 1) lengths) else equal (length lengths))
given-if b shape lengths is = rw is refl
