-- What stands at the front of the records of a capture.
use Rattle.std.proofs.Common.{◌≡◌, ℕ, ◌+◌, ◌/◌, ◌%◌, ◌^◌, ◌<◌, List, ◌++◌, length, refl, sym, ◌∙◌, append_assoc, arith}
use Rattle.std.specs.Int.{w16, w32, to_be_bytes}
use Rattle.rec_store.specs.Dump.{DumpRecord, IsDumpRecord, dump_record_head, dump_record_bytes}
use Rattle.rec_store.proofs.DemoLemmas.{fronts_same, number_same}

-- two bytes spell one number
pub short_same : (m n : ℕ) → m < 2 ^ 16 → n < 2 ^ 16 → to_be_bytes w16 m ≡ to_be_bytes w16 n → m ≡ n
short_same m n p q e =
    let high : m / 256 % 256 ≡ n / 256 % 256 = cc in
    let low : m % 256 ≡ n % 256 = cc in
    omega arith

-- a record made of equal parts
same_record : (r s : DumpRecord) → r.packet_length ≡ s.packet_length → r.offset ≡ s.offset → r.kept ≡ s.kept → r ≡ s
same_record r s packet_length offset kept i =
    record { packet_length = packet_length i; offset = offset i; kept = kept i }

-- the same bytes begin with one record
pub dump_record-front : (r s : DumpRecord) (xs ys : List ℕ) → IsDumpRecord r → IsDumpRecord s
    → dump_record_bytes r ++ xs ≡ dump_record_bytes s ++ ys → (r ≡ s) × (xs ≡ ys)
dump_record-front r s xs ys p q e =
    let head = dump_record_head (length r.kept) r.packet_length r.offset in
    let head' = dump_record_head (length s.kept) s.packet_length s.offset in
    let heads = fronts_same head head' (r.kept ++ xs) (s.kept ++ ys) refl
    (sym (append_assoc head r.kept xs) ∙ e ∙ append_assoc head' s.kept ys) in
    let lengths = fronts_same (to_be_bytes w16 (8 + length r.kept)) (to_be_bytes w16 (8 + length s.kept)) _ _ refl heads.0 in
    let packets = fronts_same (to_be_bytes w16 r.packet_length) (to_be_bytes w16 s.packet_length)
    (to_be_bytes w32 r.offset) (to_be_bytes w32 s.offset) refl lengths.1 in
    let size : 8 + length r.kept ≡ 8 + length s.kept = short_same (8 + length r.kept) (8 + length s.kept) p.length_fits q.length_fits lengths.0 in
    let rest = fronts_same r.kept s.kept xs ys (omega arith) heads.1 in (
      same_record r s (short_same r.packet_length s.packet_length p.packet_length q.packet_length packets.0)
          (number_same r.offset s.offset p.offset q.offset packets.1) rest.0,
      rest.1,
    )
