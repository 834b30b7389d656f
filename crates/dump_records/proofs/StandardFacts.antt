-- Records of a small capture as they are shown, computed by the definitions.
use Rattle.std.proofs.Common.{◌≡◌, ℕ, List, [], ◌∷◌, map, refl}
use Rattle.rec_store.specs.Dump.{DumpRecord, record_of_packet}
use Rattle.dump_records.specs.Capture.{shown_records}

-- two RTP packets of 14 bytes, which came 0 and 40 milliseconds after the capture's beginning

first_packet : List ℕ
first_packet = 0x80 ∷ 0x6F ∷ 0xFF ∷ 0xFF ∷ 0xFF ∷ 0xFF ∷ 0xFE ∷ 0xD8 ∷ 0 ∷ 0 ∷ 0 ∷ 1 ∷ 0xF8 ∷ 0xAA ∷ []

second_packet : List ℕ
second_packet = 0x80 ∷ 0x6F ∷ 0 ∷ 1 ∷ 0 ∷ 0 ∷ 0x06 ∷ 0x58 ∷ 0 ∷ 0 ∷ 0 ∷ 1 ∷ 0xF8 ∷ 0xBB ∷ []

two_records : List DumpRecord
two_records = record_of_packet 0 first_packet ∷ record_of_packet 40 second_packet ∷ []

-- behind a line and a head of 39 bytes, each of the records has 22 bytes and is decided at its end
places : map (λ r. r.item.place) (shown_records 39 two_records) ≡ 61 ∷ 83 ∷ []
unfolding two_records first_packet second_packet
places = refl

-- its bytes are those of the packet
packets : map (λ r. r.bytes) (shown_records 39 two_records) ≡ first_packet ∷ second_packet ∷ []
unfolding two_records first_packet second_packet
packets = refl
