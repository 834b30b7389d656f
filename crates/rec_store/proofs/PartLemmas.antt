-- What is missing of an opening and of a record of a capture.
use Rattle.std.proofs.Common.{◌≡◌, ℕ, ◌+◌, ◌-◌, ◌*◌, ◌/◌, ◌%◌, ◌^◌, ◌≤◌, ◌<◌, List, [], ◌∷◌, ◌++◌, length, length-append, length-drop, length-take-le, take, drop, drop-drop, take-append-drop, replicate, sym, ap, ◌∙◌, append_assoc, arith}
use Rattle.std.proofs.lemmas.List.{length-replicate, take-append-le}
use Rattle.std.specs.Int.{w16, w32, to_be_bytes}
use Rattle.rec_store.specs.Dump.{DumpRecord, IsDumpRecord, dump_record_bytes}
use Rattle.rec_store.specs.DumpLine.{IsDumpLine, IsLinePart}
use Rattle.rec_store.specs.DumpItem.{IsOwnLength}
use Rattle.rec_store.specs.DumpStore.{AreBytes, IsDumpHead, IsOpeningPart, IsRecordPart}
use Rattle.rec_store.specs.declared.dump_opening.DumpHead.{DumpHead}
use Rattle.opus_io.proofs.BytesLemmas.{AreBytes-append, AreBytes-take, AreBytes-drop, AreBytes-zeros}
use Rattle.rec_store.proofs.ByteLemmas.{short_of, number_of}
use Rattle.rec_store.proofs.ItemLemmas.{dump_head-numbers}
use Rattle.rec_store.proofs.LineLemmas.{line_part-more}

-- ---- openings

-- some bytes within are a number
short_at : (n : ℕ) (xs : List ℕ) → AreBytes xs → n + 2 ≤ length xs
    → (x : ℕ) × (x < 2 ^ 16) × (to_be_bytes w16 x ≡ take 2 (drop n xs))
short_at n xs are long =
    short_of (take 2 (drop n xs)) (length-take-le 2 (drop n xs) (omega (arith, long, length-drop n xs)))
    (AreBytes-take 2 (drop n xs) (AreBytes-drop n xs are))

number_at : (n : ℕ) (xs : List ℕ) → AreBytes xs → n + 4 ≤ length xs
    → (x : ℕ) × (x < 2 ^ 32) × (to_be_bytes w32 x ≡ take 4 (drop n xs))
number_at n xs are long =
    number_of (take 4 (drop n xs)) (length-take-le 4 (drop n xs) (omega (arith, long, length-drop n xs)))
    (AreBytes-take 4 (drop n xs) (AreBytes-drop n xs are))

-- sixteen bytes are a head
pub dump_head-of : (bytes : List ℕ) → AreBytes bytes → length bytes ≡ 16 → (head : DumpHead) × IsDumpHead head bytes
dump_head-of bytes are size =
    let seconds = number_at 0 bytes are (omega (arith, size)) in
    let micros = number_at 4 bytes are (omega (arith, size)) in
    let address = number_at 8 bytes are (omega (arith, size)) in
    let port = short_at 12 bytes are (omega (arith, size)) in
    let head : DumpHead = record { seconds = seconds.0; micros = micros.0; address = address.0; port = port.0 } in
    (head, dump_head-numbers head bytes size seconds.1 micros.1 address.1 port.1 seconds.2 micros.2 address.2 port.2)

zeros : ℕ → List ℕ
zeros n = replicate n 0

zeros-size : (n : ℕ) → length (zeros n) ≡ n
unfolding zeros
zeros-size n = length-replicate n 0

pub opening_part-head : (line part : List ℕ) → IsDumpLine line → AreBytes part → length part < 16
    → IsOpeningPart (line ++ part)
unfolding zeros
opening_part-head line part is are short =
    let more = zeros (16 - length part) in
    let size = zeros-size (16 - length part) in
    let head = dump_head-of (part ++ more) (AreBytes-append part more are (AreBytes-zeros (16 - length part)))
    (omega (arith, length-append part more, size, short)) in
    record {
      head = head.0;
      more = more;
      some = omega (arith, size, short);
      whole = record {
        line = line;
        numbers = part ++ more;
        is_line = is;
        is_head = head.1;
        bytes_are = append_assoc line part more;
      };
    }

pub opening_part-line : (bytes : List ℕ) → IsLinePart bytes → IsOpeningPart bytes
unfolding zeros
opening_part-line bytes part =
    let line = line_part-more bytes part in
    let head = dump_head-of (zeros 16) (AreBytes-zeros 16) (zeros-size 16) in
    record {
      head = head.0;
      more = line.0 ++ zeros 16;
      some = omega (arith, line.1, length-append line.0 (zeros 16));
      whole = record {
        line = bytes ++ line.0;
        numbers = zeros 16;
        is_line = line.2;
        is_head = head.1;
        bytes_are = sym (append_assoc bytes line.0 (zeros 16));
      };
    }

-- ---- records

-- bytes that begin with their own number are a record
pub record-of : (bytes : List ℕ) → AreBytes bytes → IsOwnLength bytes
    → (r : DumpRecord) × IsDumpRecord r × (bytes ≡ dump_record_bytes r)
record-of bytes are own =
    let packet_length = short_at 2 bytes are (omega (arith, own.long)) in
    let offset = number_at 4 bytes are (omega (arith, own.long)) in
    let kept = drop 8 bytes in
    let size : 8 + length kept ≡ length bytes = omega (arith, own.long, length-drop 8 bytes) in
    let first : to_be_bytes w16 (8 + length kept) ≡ take 2 bytes = ap (to_be_bytes w16) size ∙ own.own in
    let behind : drop 2 bytes ≡ to_be_bytes w16 packet_length.0 ++ (to_be_bytes w32 offset.0 ++ kept) =
    sym (take-append-drop 2 (drop 2 bytes)) ∙ ap (λ l. l ++ drop 2 (drop 2 bytes)) (sym packet_length.2)
    ∙ ap (λ l. to_be_bytes w16 packet_length.0 ++ l) (drop-drop 2 2 bytes ∙ sym (take-append-drop 4 (drop 4 bytes))
    ∙ ap (λ l. l ++ drop 4 (drop 4 bytes)) (sym offset.2)
    ∙ ap (λ l. to_be_bytes w32 offset.0 ++ l) (drop-drop 4 4 bytes)) in (
      record { packet_length = packet_length.0; offset = offset.0; kept = kept },
      record { packet_length = packet_length.1; offset = offset.1; length_fits = omega (arith, size, own.fits) },
      sym (take-append-drop 2 bytes) ∙ ap (λ l. l ++ drop 2 bytes) (sym first)
          ∙ ap (λ l. to_be_bytes w16 (8 + length kept) ++ l) behind,
    )

-- bytes whose first two tell more of them
pub record_part-of : (bytes : List ℕ) (n : ℕ) → AreBytes bytes → 2 ≤ length bytes → 8 ≤ n → n < 2 ^ 16
    → to_be_bytes w16 n ≡ take 2 bytes → length bytes < n → IsRecordPart bytes
unfolding zeros
record_part-of bytes n are two long fits first short =
    let more = zeros (n - length bytes) in
    let rest = zeros-size (n - length bytes) in
    let size : length (bytes ++ more) ≡ n = omega (arith, length-append bytes more, rest, short) in
    let whole : (r : DumpRecord) × IsDumpRecord r × (bytes ++ more ≡ dump_record_bytes r) =
    record-of (bytes ++ more) (AreBytes-append bytes more are (AreBytes-zeros (n - length bytes)))
    (record {
      long = omega (arith, size, long);
      fits = omega (arith, size, fits);
      own = ap (to_be_bytes w16) size ∙ first ∙ sym (take-append-le 2 bytes more two);
    }) in
    record {
      part_of = whole.0;
      is_record = whole.1;
      more = more;
      some = omega (arith, rest, short);
      whole = sym {b = dump_record_bytes whole.0} whole.2;
    }

-- the first byte of a length
pub record_part-one : (byte : ℕ) → byte < 256 → IsRecordPart (byte ∷ [])
record_part-one byte small =
    let n = byte * 256 + 8 in
    let high : n / 256 % 256 ≡ byte = omega (arith, small) in
    let low : n % 256 ≡ 8 = omega (arith, small) in
    let number : to_be_bytes w16 n ≡ byte ∷ 8 ∷ [] = ap (λ b. b ∷ n % 256 ∷ []) high ∙ ap (λ b. byte ∷ b ∷ []) low in
    let part = record_part-of (byte ∷ 8 ∷ []) n (small, (omega arith, tt)) (omega arith) (omega arith)
    (omega (arith, small)) number (omega arith) in
    record {
      part_of = part.part_of;
      is_record = part.is_record;
      more = 8 ∷ part.more;
      some = omega arith;
      whole = part.whole;
    }

-- nothing of a record
pub record_part-nil : IsRecordPart []
record_part-nil =
    let part = record_part-one 0 (omega arith) in
    record {
      part_of = part.part_of;
      is_record = part.is_record;
      more = 0 ∷ part.more;
      some = omega arith;
      whole = part.whole;
    }
