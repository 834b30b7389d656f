-- A record of a store is a list of bytes where its payload is.
use Rattle.std.proofs.Common.{ℕ, List, length, arith}
use Rattle.std.specs.Int.{w32, to_be_bytes}
use Rattle.rec_store.specs.DemoStore.{demo_head, demo_record}
use Rattle.opus_packet.specs.PacketPrefix.{AreBytes}
use Rattle.opus_packet.proofs.BytesLemmas.{AreBytes-append}

number-are : (n : ℕ) → AreBytes (to_be_bytes w32 n)
number-are n = (omega arith, (omega arith, (omega arith, (omega arith, tt))))

pub record-are : (range : ℕ) (payload : List ℕ) → AreBytes payload → AreBytes (demo_record range payload)
record-are range payload are =
    AreBytes-append (demo_head (length payload) range) payload
    (AreBytes-append (to_be_bytes w32 (length payload)) (to_be_bytes w32 range) (number-are (length payload)) (number-are range)) are
