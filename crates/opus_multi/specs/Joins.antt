-- What joining packets answers.
use Rattle.std.specs.Prelude.{◌≡◌, ℕ, List, [], map}
use Rattle.opus_packet.specs.Value.{duration_of}
use Rattle.opus_packet.specs.Held.{HeldRead}
use Rattle.opus_multi.specs.declared.fault.JoinFault.{JoinFault}
use Rattle.opus_multi.specs.declared.fault.JoinFault.TheVariants.{NoParts, Unequal, NoMemory}
use Rattle.opus_multi.specs.Durations.{IsUnequalAt}

-- samples at 48 kHz of each part
abbrev pub held_durations : List HeldRead → List ℕ
held_durations hs = map (λ h. duration_of h.value) hs

-- there are no parts; or this is the first whose duration differs from that of part 0; or memory was refused
abbrev pub IsJoinFault : List HeldRead → JoinFault → Type 0
IsJoinFault hs NoParts = hs ≡ []
IsJoinFault hs (Unequal k) = IsUnequalAt (held_durations hs) k
IsJoinFault hs NoMemory = Unit {0}
