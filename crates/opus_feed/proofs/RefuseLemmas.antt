-- Bytes that no packet begins with.
use Rattle.std.proofs.Common.{◌≡◌, ℕ, ◌<◌, ◌≤◌, if◌then◌else◌, List, length, sym, ap, ◌∙◌, subst, arith}
use Rattle.std.proofs.lemmas.Bool.{lt-leb}
use Rattle.opus_packet.specs.declared.fault.Rule.{Rule}
use Rattle.opus_packet.specs.declared.fault.Rule.TheVariants.{R2}
use Rattle.opus_packet.specs.Header.{Header}
use Rattle.opus_packet.specs.HeaderRead.{whole, refused, header_read}
use Rattle.opus_packet.specs.PacketPrefix.{CanBecome, most_bytes}
use Rattle.opus_packet.specs.PacketFault.{fault, fault_by, rule_of_part}
use Rattle.opus_packet.specs.SelfPrefix.{never, after_header, CanBecomeSelf, self_fault_by}
use Rattle.opus_packet.proofs.ReadBody.{too_long, no_header, whole≢refused}
use Rattle.opus_self.proofs.ReadSelf.{not_sized, sized≢never}
use Rattle.opus_feed.specs.Packets.{Refuses}
use Rattle.opus_feed.specs.declared.framing.Framing.{Framing}
use Rattle.opus_feed.specs.declared.framing.Framing.TheVariants.{Whole, SelfDelimited}

-- a byte of the header can't stand
pub refused_header : (framing : Framing) (bytes : List ℕ) (rule : Rule) (place : ℕ) → header_read bytes ≡ refused rule place
    → Refuses framing (fault rule place) bytes
refused_header Whole bytes rule place read = record {
  prefix = λ becomes. subst (λ r. CanBecome r (length bytes)) read becomes;
  none = λ v s. no_header bytes v s (refused rule place) read (whole≢refused rule place);
  fault_is = sym (ap (λ r. fault_by r bytes) read);
}
refused_header SelfDelimited bytes rule place read =
    let never_so = ap (after_header bytes) read in
    record {
      prefix = λ becomes. subst (λ r. CanBecomeSelf r (length bytes)) never_so becomes;
      none = λ v s used. not_sized bytes v s used (never rule place) never_so (sized≢never rule place);
      fault_is = sym (ap (λ r. self_fault_by r (length bytes)) never_so);
    }

-- more bytes than the longest packet with this header has
pub refused_long : (h : Header) (bytes : List ℕ) → header_read bytes ≡ whole h → most_bytes h < length bytes
    → Refuses Whole (fault R2 (most_bytes h)) bytes
refused_long h bytes read long =
    let most = most_bytes h in
    record {
      prefix = λ becomes.
          let within : length bytes ≤ most = subst (λ r. CanBecome r (length bytes)) read becomes in
          omega arith;
      none = λ v s. too_long h bytes v s read long;
      fault_is = sym (ap (λ r. fault_by r bytes) read
          ∙ ap (λ b. if b then fault (rule_of_part bytes) (length bytes) else fault R2 most)
          (lt-leb (length bytes) most long));
    }
