-- How many channels a mapping family allows (RFC 7845, 5.1.1; RFC 8486, 3.1).
use Rattle.std.specs.Prelude.{ℕ, ◌+◌, ◌*◌, Bool, true, ◌==◌, ◌||◌, nat_le, if◌then◌else◌, List, [], ◌∷◌, flat_map}
use Rattle.std.specs.List.{list_any, range_with_len}

-- the square of a number from 1 to 15, and two more than it
abbrev pub ambisonic_counts : List ℕ
ambisonic_counts = flat_map (λ root. (root * root) ∷ (root * root + 2) ∷ []) (range_with_len 1 15)

abbrev pub is_ambisonic_count : ℕ → Bool
is_ambisonic_count channels = list_any (λ count. count == channels) ambisonic_counts

-- families 0 and 1 have a most, families 2 and 3 a rule, and all others allow every count
abbrev pub is_channel_count : ℕ → ℕ → Bool
is_channel_count family channels =
    if family == 0 then nat_le channels 2
    else if family == 1 then nat_le channels 8
    else if (family == 2) || (family == 3) then is_ambisonic_count channels
    else true
