-- Why bytes aren't an undelimited packet: the broken rule (RFC 6716, 3.4), and the place, which is the
-- length of the longest front that can still become a packet. Which rule is named is this project's choice.
use Rattle.std.specs.Prelude.{ℕ, zero, suc, nat_le, if◌then◌else◌, List, [], ◌∷◌, length}
use Rattle.opus_toc.specs.Toc.{code_of}
use Rattle.opus_packet.specs.declared.fault.Rule.{Rule}
use Rattle.opus_packet.specs.declared.fault.Rule.TheVariants.{R1, R2, R3, R4, R6, R7}
use Rattle.opus_packet.specs.declared.fault.Fault.{Fault}
use Rattle.opus_packet.specs.HeaderRead.{HeaderRead, whole, partial, refused, header_read, vbr_of}
use Rattle.opus_packet.specs.PacketPrefix.{most_bytes}

-- a fault of these parts
abbrev pub fault : Rule → ℕ → Fault
fault rule place = record { rule = rule; place = place }

-- the rule that a part of a code 3 packet breaks: R7 with VBR, and R6
abbrev pub code_3_rule : List ℕ → Rule
code_3_rule [] = R6
code_3_rule (count ∷ bytes) = if vbr_of count then R7 else R6

-- the rule that a part of a packet of this code breaks: R6 for code 0 is never named
abbrev pub rule_of_code : ℕ → List ℕ → Rule
rule_of_code zero bytes = R6
rule_of_code (suc zero) bytes = R3
rule_of_code (suc (suc zero)) bytes = R4
rule_of_code (suc (suc (suc code))) bytes = code_3_rule bytes

-- the rule that bytes break which can become a packet and aren't one
abbrev pub rule_of_part : List ℕ → Rule
rule_of_part [] = R1
rule_of_part (toc ∷ bytes) = rule_of_code (code_of toc) bytes

-- the fault, by what the first bytes say: too many bytes, too few, or a byte of the header that can't stand
abbrev pub fault_by : HeaderRead → List ℕ → Fault
fault_by (whole h) bytes =
    if nat_le (length bytes) (most_bytes h) then fault (rule_of_part bytes) (length bytes)
    else fault R2 (most_bytes h)
fault_by partial bytes = fault (rule_of_part bytes) (length bytes)
fault_by (refused rule place) bytes = fault rule place

-- the fault of bytes that are no packet
abbrev pub packet_fault : List ℕ → Fault
packet_fault bytes = fault_by (header_read bytes) bytes
