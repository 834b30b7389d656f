-- What is settled early, by its two cases.
use Rattle.std.proofs.Common.{◌≡◌, ℕ, ◌+◌, ◌≤◌, List, [], ◌∷◌, ◌++◌, length, min, if◌then◌else◌, ap, ◌∙◌, length-append, arith}
use Rattle.std.proofs.lemmas.Bool.{le-ltb, lt-ltb}
use Rattle.job_loop.specs.Shown.{Shown}
use Rattle.opus_packet.specs.PacketPrefix.{AreBytes}
use Rattle.opus_packet.specs.declared.fault.Fault.{Fault}
use Rattle.opus_feed.specs.declared.framing.Framing.{Framing}
use Rattle.opus_feed.specs.Packets.{fault_of}
use Rattle.pack_records.specs.declared.item.Found.TheVariants.{Bad}
use Rattle.pack_records.specs.declared.item.Item.{Item}
use Rattle.pack_records.specs.Early.{IsEarly}
use Rattle.pack_records.specs.EarlyLaws.{early_more}
use Rattle.pack_records.specs.Holds.{bad_record, record_of}
use Rattle.pack_records.specs.Settled.{early_records}

-- the record of the fault
abbrev pub fault_record : Framing → ℕ → List ℕ → Shown Item
fault_record framing start b = bad_record start 0 (fault_of framing b) (length b)

pub early_one : (framing : Framing) (start : ℕ) (b : List ℕ) → IsEarly framing b
    → early_records framing start b ≡ fault_record framing start b ∷ []
early_one framing start b early =
    ap (λ t. if t then fault_record framing start b ∷ [] else [])
    (lt-ltb (fault_of framing b).place (length b) early)

pub early_nil : (framing : Framing) (start : ℕ) (b : List ℕ) → length b ≤ (fault_of framing b).place
    → early_records framing start b ≡ []
early_nil framing start b late =
    ap (λ t. if t then fault_record framing start b ∷ [] else [])
    (le-ltb (fault_of framing b).place (length b) late)

-- a fault stays where it is
pub early_longer : (framing : Framing) (b more : List ℕ) → AreBytes b → IsEarly framing b
    → IsEarly framing (b ++ more)
early_longer framing b more are early =
    let same = ap (λ (f : Fault). f.place) (early_more framing b more are early) in
    omega (arith, same, early, length-append b more)

pub early_same : (framing : Framing) (start : ℕ) (b more : List ℕ) → AreBytes b → IsEarly framing b
    → fault_record framing start (b ++ more) ≡ fault_record framing start b
early_same framing start b more are early =
    let f = fault_of framing b in
    let place : start + min (f.place + 1) (length (b ++ more)) ≡ start + min (f.place + 1) (length b) =
    omega (arith, early, length-append b more) in
    ap (λ f. bad_record start 0 f (length (b ++ more))) (early_more framing b more are early)
    ∙ ap (λ n. record_of start n 0 (Bad f) []) place
