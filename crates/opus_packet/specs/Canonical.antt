-- The canonical form of a value: this project's own choice among the spellings of RFC 6716.
use Rattle.std.specs.Prelude.{ℕ, zero, suc, ◌+◌, ◌-◌, ◌/◌, Bool, true, false, not, ◌==◌, if◌then◌else◌, List, [], ◌∷◌, ◌++◌, length, map}
use Rattle.std.specs.List.{concat, list_all}
use Rattle.opus_packet.specs.declared.shape.Shape.{Shape}
use Rattle.opus_packet.specs.Value.{PacketValue}
use Rattle.opus_packet.specs.Header.{header_bytes}
use Rattle.opus_packet.specs.HeaderRead.{shape_of}
use Rattle.opus_packet.specs.PacketGrammar.{header_for}
use Rattle.opus_packet.specs.SelfGrammar.{self_header_bytes}

-- whether all lengths are one
abbrev pub have_one_length : List ℕ → Bool
have_one_length [] = true
have_one_length (n ∷ ns) = list_all (λ m. m == n) ns

-- one frame is code 0, two are code 1 or 2, more are code 3, with VBR where the lengths differ; no padding
abbrev pub canonical_shape : List ℕ → Shape
canonical_shape [] = shape_of 3 false 0
canonical_shape (n ∷ []) = shape_of 0 false 0
canonical_shape (n ∷ m ∷ []) = if m == n then shape_of 1 false 0 else shape_of 2 false 0
canonical_shape (n ∷ m ∷ k ∷ ns) = shape_of 3 (not (have_one_length (n ∷ m ∷ k ∷ ns))) 0

-- The padding total of so many padding bytes, at least one, with the fewest length bytes: each byte 255 stands
-- for 254 of them, and the last byte for 254 at most.
abbrev pub pad_total : ℕ → ℕ
pad_total n = n + (n - 1) / 254 + 1

-- the kept form has the canonical shape where there are no padding bytes, and else code 3
abbrev pub keep_shape : List ℕ → ℕ → Shape
keep_shape lengths zero = canonical_shape lengths
keep_shape lengths (suc n) = shape_of 3 (not (have_one_length lengths)) (pad_total (suc n))

-- the canonical form
unfoldable pub canonical : PacketValue → List ℕ
canonical v = header_bytes (header_for v (canonical_shape (map length v.frames))) ++ concat v.frames

-- the canonical self-delimited form (Appendix B): the same cases, with the last frame's length
unfoldable pub canonical_self_delimited : PacketValue → List ℕ
canonical_self_delimited v =
    self_header_bytes v (canonical_shape (map length v.frames)) ++ concat v.frames

-- the kept form: the value's frames, and these padding bytes
unfoldable pub kept_form : PacketValue → List ℕ → List ℕ
kept_form v tail =
    header_bytes (header_for v (keep_shape (map length v.frames) (length tail))) ++ concat v.frames ++ tail

-- the kept self-delimited form
unfoldable pub kept_self_delimited : PacketValue → List ℕ → List ℕ
kept_self_delimited v tail =
    self_header_bytes v (keep_shape (map length v.frames) (length tail)) ++ concat v.frames ++ tail
