use Rattle.rtp_packet.specs.RtpRead.{plain_packet, plain_bytes}
use Rattle.rtp_packet.proofs.ReadingLemmas.{spelled-unique}
use Rattle.rtp_packet.proofs.WriteLemmas.{IsRtp-plain}
use Rattle.rtp_packet.proofs.laws.what_is_written_is_read.Goals as goal

pub returns-clause-read : goal.returns-clause-read
returns-clause-read c = IsRtp-plain

pub returns-clause-only : goal.returns-clause-only
returns-clause-only c =
    λ fields payload p is other.
    spelled-unique p (plain_packet fields payload) (plain_bytes fields payload) other (IsRtp-plain fields payload is)
