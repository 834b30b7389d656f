-- Examples of stores, computed by the definitions.
use Rattle.std.proofs.Common.{◌≡◌, ℕ, List, [], ◌∷◌, ◌++◌, length, replicate, refl, arith}
use Rattle.rec_store.specs.DemoStore.{demo_head, demo_record}
use Rattle.rec_store.specs.Dump.{dump_line, dump_head_bytes, DumpRecord, dump_record_bytes, IsRtcp, IsCut, packet_of_record, record_of_packet}

-- a packet of two bytes with final range 1, and a lost one with range 7
two_records : demo_record 1 (0xF8 ∷ 0xAA ∷ []) ++ demo_record 7 []
    ≡ 0 ∷ 0 ∷ 0 ∷ 2 ∷ 0 ∷ 0 ∷ 0 ∷ 1 ∷ 0xF8 ∷ 0xAA ∷ 0 ∷ 0 ∷ 0 ∷ 0 ∷ 0 ∷ 0 ∷ 0 ∷ 7 ∷ []
two_records = refl

-- a merged packet of five bytes with the range of the last
merged : demo_record 3 (0xFB ∷ 3 ∷ 0xAA ∷ 0xBB ∷ 0xCC ∷ [])
    ≡ 0 ∷ 0 ∷ 0 ∷ 5 ∷ 0 ∷ 0 ∷ 0 ∷ 3 ∷ 0xFB ∷ 3 ∷ 0xAA ∷ 0xBB ∷ 0xCC ∷ []
merged = refl

-- the highest byte comes first
large_numbers : demo_head 0x01020304 0xFFFEFDFC ≡ 1 ∷ 2 ∷ 3 ∷ 4 ∷ 0xFF ∷ 0xFE ∷ 0xFD ∷ 0xFC ∷ []
large_numbers = refl

-- what stands before the records of a capture has 39 bytes, and a line of 23 of them ends with a newline

line_has_its_length : length dump_line ≡ 23
line_has_its_length = refl

head_is : dump_head_bytes
    ≡ 0x23 ∷ 0x21 ∷ 0x72 ∷ 0x74 ∷ 0x70 ∷ 0x70 ∷ 0x6C ∷ 0x61 ∷ 0x79 ∷ 0x31 ∷ 0x2E ∷ 0x30 ∷ 0x20
    ∷ 0x30 ∷ 0x2E ∷ 0x30 ∷ 0x2E ∷ 0x30 ∷ 0x2E ∷ 0x30 ∷ 0x2F ∷ 0x30 ∷ 0x0A ∷ replicate 16 0
head_is = refl

-- packets that come 0 and 40 milliseconds after the capture's beginning

first_packet : List ℕ
first_packet = 0x80 ∷ 0x6F ∷ 0xFF ∷ 0xFF ∷ 0xFF ∷ 0xFF ∷ 0xFE ∷ 0xD8 ∷ 0 ∷ 0 ∷ 0 ∷ 1 ∷ 0xF8 ∷ 0xAA ∷ []

second_packet : List ℕ
second_packet = 0x80 ∷ 0x6F ∷ 0 ∷ 1 ∷ 0 ∷ 0 ∷ 0x06 ∷ 0x58 ∷ 0 ∷ 0 ∷ 0 ∷ 1 ∷ 0xF8 ∷ 0xBB ∷ []

first_record : dump_record_bytes (record_of_packet 0 first_packet) ≡ 0 ∷ 0x16 ∷ 0 ∷ 0x0E ∷ 0 ∷ 0 ∷ 0 ∷ 0 ∷ first_packet
unfolding first_packet
first_record = refl

second_record : dump_record_bytes (record_of_packet 40 second_packet) ≡ 0 ∷ 0x16 ∷ 0 ∷ 0x0E ∷ 0 ∷ 0 ∷ 0 ∷ 0x28 ∷ second_packet
unfolding second_packet
second_record = refl

-- a record of RTCP, whose packet is all its bytes

rtcp : DumpRecord
rtcp = record { packet_length = 0; offset = 5; kept = 0x80 ∷ 0xC9 ∷ 0 ∷ 1 ∷ 0x12 ∷ 0x34 ∷ 0xAB ∷ 0xCD ∷ [] }

rtcp_bytes : dump_record_bytes rtcp
    ≡ 0 ∷ 0x10 ∷ 0 ∷ 0 ∷ 0 ∷ 0 ∷ 0 ∷ 5 ∷ 0x80 ∷ 0xC9 ∷ 0 ∷ 1 ∷ 0x12 ∷ 0x34 ∷ 0xAB ∷ 0xCD ∷ []
unfolding rtcp
rtcp_bytes = refl

rtcp_is_rtcp : IsRtcp rtcp
unfolding rtcp
rtcp_is_rtcp = refl

rtcp_is_all : packet_of_record rtcp ≡ 0x80 ∷ 0xC9 ∷ 0 ∷ 1 ∷ 0x12 ∷ 0x34 ∷ 0xAB ∷ 0xCD ∷ []
unfolding rtcp
rtcp_is_all = refl

-- a packet of 16 bytes of which 12 were kept

cut : DumpRecord
cut = record {
  packet_length = 16;
  offset = 60;
  kept = 0x80 ∷ 0x6F ∷ 0x03 ∷ 0xEB ∷ 0 ∷ 0 ∷ 0x0B ∷ 0x40 ∷ 0x12 ∷ 0x34 ∷ 0xAB ∷ 0xCD ∷ [];
}

cut_head : dump_record_bytes cut ≡ 0 ∷ 0x14 ∷ 0 ∷ 0x10 ∷ 0 ∷ 0 ∷ 0 ∷ 0x3C ∷ cut.kept
unfolding cut
cut_head = refl

cut_is_cut : IsCut cut
unfolding cut
cut_is_cut = omega arith

cut_is_what_there_is : packet_of_record cut ≡ cut.kept
unfolding cut
cut_is_what_there_is = refl

-- bytes that follow the packet are passed over
followed : packet_of_record (record { packet_length = 2; offset = 0; kept = 1 ∷ 2 ∷ 3 ∷ [] }) ≡ 1 ∷ 2 ∷ []
followed = refl
