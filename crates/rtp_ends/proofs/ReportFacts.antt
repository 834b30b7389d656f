-- Numbers and reports of short lists, computed from the definitions.
use Rattle.std.proofs.Common.{◌≡◌, ℕ, ◌+◌, pos, negsuc, List, [], ◌∷◌, refl}
use Rattle.rtp_ends.specs.declared.event.Event.TheVariants.{Packet, Gap}
use Rattle.rtp_ends.specs.Numbers.{Heard, extended_numbers, place_after}
use Rattle.rtp_ends.specs.Report.{arrival_report, certain_events}

-- arrivals with these sequence numbers, of which each has its own stamp
abbrev heard_from : ℕ → List ℕ → List Heard
heard_from stamp [] = []
heard_from stamp (s ∷ ss) = record { seq = s; stamp = stamp; payload = [] } ∷ heard_from (stamp + 1) ss

around_the_wrap : extended_numbers (heard_from 0 (65534 ∷ 0 ∷ 65535 ∷ 0 ∷ 2 ∷ []))
    ≡ pos 65534 ∷ pos 65536 ∷ pos 65535 ∷ pos 65536 ∷ pos 65538 ∷ []
unfolding place_after
around_the_wrap = refl

-- of the two arrivals with sequence number 0 the first one stays
around_the_wrap_in_order : arrival_report (heard_from 0 (65534 ∷ 0 ∷ 65535 ∷ 0 ∷ 2 ∷ []))
    ≡ Packet (pos 65534) 0 [] ∷ Packet (pos 65535) 2 [] ∷ Packet (pos 65536) 1 []
    ∷ Gap (pos 65537) 1 ∷ Packet (pos 65538) 4 [] ∷ []
unfolding place_after
around_the_wrap_in_order = refl

below_zero : arrival_report (heard_from 0 (5 ∷ 4 ∷ 65535 ∷ []))
    ≡ Packet (negsuc 0) 2 [] ∷ Gap (pos 0) 4 ∷ Packet (pos 4) 1 [] ∷ Packet (pos 5) 0 [] ∷ []
unfolding place_after
below_zero = refl

the_farthest_ahead : extended_numbers (heard_from 0 (0 ∷ 32768 ∷ [])) ≡ pos 0 ∷ pos 32768 ∷ []
unfolding place_after
the_farthest_ahead = refl

certain_at_the_second : certain_events (heard_from 0 (0 ∷ 32768 ∷ [])) ≡ Packet (pos 0) 0 [] ∷ []
unfolding place_after
certain_at_the_second = refl

a_large_gap : arrival_report (heard_from 0 (0 ∷ 32768 ∷ []))
    ≡ Packet (pos 0) 0 [] ∷ Gap (pos 1) 32767 ∷ Packet (pos 32768) 1 [] ∷ []
unfolding place_after
a_large_gap = refl

a_full_window : extended_numbers (heard_from 0 (0 ∷ 1 ∷ 32769 ∷ 32768 ∷ 1 ∷ []))
    ≡ pos 0 ∷ pos 1 ∷ pos 32769 ∷ pos 32768 ∷ pos 65537 ∷ []
unfolding place_after
a_full_window = refl

certain_at_the_third : certain_events (heard_from 0 (0 ∷ 1 ∷ 32769 ∷ []))
    ≡ Packet (pos 0) 0 [] ∷ Packet (pos 1) 1 [] ∷ []
unfolding place_after
certain_at_the_third = refl

certain_at_the_fifth : certain_events (heard_from 0 (0 ∷ 1 ∷ 32769 ∷ 32768 ∷ 1 ∷ []))
    ≡ Packet (pos 0) 0 [] ∷ Packet (pos 1) 1 [] ∷ Gap (pos 2) 32766
    ∷ Packet (pos 32768) 3 [] ∷ Packet (pos 32769) 2 [] ∷ []
unfolding place_after
certain_at_the_fifth = refl

nothing_arrived : arrival_report [] ≡ []
nothing_arrived = refl
