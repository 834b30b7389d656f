-- The laws of undelimited packets as payloads.
use Rattle.std.proofs.Common.{◌≡◌, ◌⊎◌, inl, inr, ℕ, ◌+◌, ◌≤◌, Bool, if◌then◌else◌, List, [], ◌++◌, length, min, refl, ap, ◌∙◌, subst, length-append, arith}
use Rattle.std.proofs.lemmas.Bool.{cases_lt, le-leb}
use Rattle.job_loop.specs.Shown.{Shown}
use Rattle.opus_packet.specs.declared.fault.Fault.{Fault}
use Rattle.opus_packet.specs.declared.fault.Rule.TheVariants.{R2}
use Rattle.opus_packet.specs.HeaderRead.{HeaderRead, whole, partial, refused, header_read}
use Rattle.opus_packet.specs.PacketPrefix.{AreBytes, CanBecome, IsPacketPrefix, most_bytes}
use Rattle.opus_packet.specs.PacketFault.{fault, fault_by, packet_fault, rule_of_part}
use Rattle.opus_packet.proofs.BytesLemmas.{AreBytes-left}
use Rattle.opus_feed.specs.declared.framing.Framing.TheVariants.{Whole}
use Rattle.opus_feed.specs.declared.padding.Padding.{Padding}
use Rattle.opus_feed.specs.declared.step.Step.TheVariants.{More as MoreStep}
use Rattle.opus_feed.specs.Answers.{Answers}
use Rattle.opus_feed.specs.Packets.{fault_of}
use Rattle.pack_records.specs.declared.item.Item.{Item}
use Rattle.pack_records.specs.declared.item.Found.TheVariants.{Bad}
use Rattle.pack_records.specs.declared.pieces.Pieces.{Pieces}
use Rattle.pack_records.specs.Early.{IsEarly}
use Rattle.pack_records.specs.EarlyLaws.{early_more, early_none}
use Rattle.pack_records.specs.Holds.{Holds, bad_record, record_of}
use Rattle.pack_records.specs.HoldsLaws.{holds_same}
use Rattle.pack_records.specs.Payloads.{StaysEarly, IsShowing, IsReading}
use Rattle.pack_records.specs.Pieces.{PieceStands}
use Rattle.pack_records.specs.Undelimited.{packet_decides, packet_shows, packet_reading}

-- a fault that is decided stays, and its record is the same for all bytes that follow
early_stays : (start range : ℕ) (part more : List ℕ) → AreBytes (part ++ more) → (early : IsEarly Whole part)
    → StaysEarly packet_decides start range part more early
early_stays start range part more are early =
    let p = (fault_of Whole part).place in
    let same = early_more Whole part more (AreBytes-left part more are) early in
    let size = length-append part more in
    let place = ap (λ (f : Fault). f.place) same in
    let decided : start + min (p + 1) (length (part ++ more)) ≡ start + min (p + 1) (length part) =
    omega (arith, early, size) in
    record {
      longer = omega (arith, place, early, size);
      same = ap (λ f. bad_record start range f (length (part ++ more))) same
          ∙ ap (λ n. record_of start n range (Bad (fault_of Whole part)) []) decided;
    }

-- a record's place, where nothing was decided before its end
holds_place : (padding : Padding) (start range : ℕ) (bytes : List ℕ) (r : Shown Item)
    → Holds padding Whole start range bytes r → (IsEarly Whole bytes → ⊥) → r.item.place ≡ start + length bytes
holds_place padding start range bytes r (inl p) never = ap (λ (x : Shown Item). x.item.place) p.shows
holds_place padding start range bytes r (inr p) never = go (cases_lt (fault_of Whole bytes).place (length bytes))
  where
    go : IsEarly Whole bytes ⊎ (length bytes ≤ (fault_of Whole bytes).place) → r.item.place ≡ start + length bytes
    go (inl early) = absurd (never early)
    go (inr late) =
        let place = ap (λ (x : Shown Item). x.item.place) p.shows in
        omega (arith, place, late)

packet_showing : (padding : Padding) → IsShowing (packet_shows padding) (λ r. r.item.place)
packet_showing padding = record {
  holds_once = holds_same padding Whole;
  early_some = λ start range part early. omega (arith, early);
  early_stays = early_stays;
  early_holds = λ start range part are early. inr record { none = early_none Whole part are early; shows = refl };
  holds_place = holds_place padding;
  lost_place = λ start range. refl;
}

-- a part of a packet has its fault at its end
prefix_place : (bytes : List ℕ) → IsPacketPrefix bytes → (packet_fault bytes).place ≡ length bytes
prefix_place bytes prefix = go (header_read bytes) prefix
  where
    go : (r : HeaderRead) → CanBecome r (length bytes) → (fault_by r bytes).place ≡ length bytes
    go (whole h) fits =
        ap (λ (b : Bool). (if b then fault (rule_of_part bytes) (length bytes) else fault R2 (most_bytes h)).place)
        (le-leb (length bytes) (most_bytes h) fits)
    go partial fits = refl
    go (refused rule place) fits = absurd fits

pub never_early : (p : Pieces) (part : List ℕ) → p.framing ≡ Whole → PieceStands p part → IsEarly Whole part → ⊥
never_early p part framing stands early =
    let place = prefix_place part (subst (λ f. Answers f part MoreStep) framing stands.open_is) in
    absurd (omega (arith, place, early))

pub packet_lawful : IsReading packet_reading
packet_lawful = record {
  showing = packet_showing;
  undecided = λ p begun start range part stands early. never_early p.pieces part p.framing stands early;
}
