-- What a sender's calls append, one text a record.
use Rattle.std.specs.Prelude.{◌≡◌, ℕ, List, [], ◌∷◌, ◌++◌, Option, None, Some}
use Rattle.opus_packet.specs.Value.{PacketValue}
use Rattle.rtp_packet.specs.declared.packet.RtpFields.{RtpFields}
use Rattle.rtp_ends.specs.Sent.{packet_bytes}

-- what the call for one record behind these ones appends: `send` its packet, and `skip` nothing
abbrev pub text_of : RtpFields → List (Option PacketValue) → Option PacketValue → List ℕ
text_of first records (Some v) = packet_bytes first records v
text_of first records None = []

-- the texts that the calls for more records behind these ones append
abbrev pub AreAppended : RtpFields → List (Option PacketValue) → List (Option PacketValue) → List (List ℕ) → Type 0
AreAppended first records [] [] = Unit {0}
AreAppended first records [] (t ∷ ts) = ⊥
AreAppended first records (r ∷ rs) [] = ⊥
AreAppended first records (r ∷ rs) (t ∷ ts) =
    (t ≡ text_of first records r) × AreAppended first (records ++ r ∷ []) rs ts
