-- The `opus_demo` store: records one after another, each with the payload's length, the final range of the
-- coder, and the payload. Numbers have 32 bits, the highest byte first.
use Rattle.std.specs.Prelude.{◌≡◌, ℕ, ◌^◌, ◌<◌, List, ◌++◌, length}
use Rattle.std.specs.Int.{w32, to_be_bytes}

-- the eight bytes before a payload
abbrev pub demo_head : ℕ → ℕ → List ℕ
demo_head len range = to_be_bytes w32 len ++ to_be_bytes w32 range

-- a whole record
abbrev pub demo_record : ℕ → List ℕ → List ℕ
demo_record range payload = demo_head (length payload) range ++ payload

-- a range and a payload that a record can have
pub record IsDemoRecord (range : ℕ) (payload : List ℕ) : Type 0 where
  pub range_fits : range < 2 ^ 32
  pub payload_fits : length payload < 2 ^ 32

-- no whole record stands at the front
abbrev pub NoWholeRecord : List ℕ → Type 0
NoWholeRecord bytes = (range : ℕ) (payload more : List ℕ) → IsDemoRecord range payload
    → bytes ≡ demo_record range payload ++ more → ⊥
