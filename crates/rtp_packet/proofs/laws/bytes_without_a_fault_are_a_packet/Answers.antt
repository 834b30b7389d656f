use Rattle.rtp_packet.specs.Checks.{rtp_in}
use Rattle.rtp_packet.proofs.CheckLemmas.{Passes-none}
use Rattle.rtp_packet.proofs.SpelledLemmas.{rtp_in-spelled}
use Rattle.rtp_packet.proofs.ReadingLemmas.{spelled-passes}
use Rattle.rtp_packet.proofs.laws.bytes_without_a_fault_are_a_packet.Goals as goal

pub returns-clause-packet : goal.returns-clause-packet
returns-clause-packet c = λ bytes are none. (rtp_in bytes, rtp_in-spelled bytes (Passes-none bytes none) are)

pub returns-clause-none : goal.returns-clause-none
returns-clause-none c = spelled-passes
