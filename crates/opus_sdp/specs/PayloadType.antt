-- An RTP payload type (RFC 3550, 5.1), in one spelling.
use Rattle.std.specs.Prelude.{ℕ, List, Bool, is_some}
use Rattle.text_numbers.specs.Number.{number_within}

abbrev pub is_payload_type : List ℕ → Bool
is_payload_type text = is_some (number_within 0 127 text)
