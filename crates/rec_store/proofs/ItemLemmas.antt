-- Numbers in the bytes of a capture's head and of a record.
use Rattle.std.proofs.Common.{◌≡◌, ◌==◌, if◌then◌else◌, Bool, true, false, min, ℕ, ◌+◌, ◌-◌, ◌^◌, ◌<◌, List, ◌++◌, length, take, drop, length-drop, drop-drop, take-append-drop, refl, sym, ap, ◌∙◌, arith}
use Rattle.std.proofs.Math.Seq.{take-length}
use Rattle.std.proofs.lemmas.List.{take-take, take_min}
use Rattle.std.specs.Int.{w16, w32, to_be_bytes}
use Rattle.rec_store.specs.Dump.{DumpRecord, packet_of_record}
use Rattle.rec_store.specs.DumpItem.{kind_of, item_of, packet_size, IsOwnLength, TellsRecord}
use Rattle.rec_store.specs.DumpStore.{IsDumpHead}
use Rattle.rec_store.specs.declared.dump_item.DumpItem.{DumpItem}
use Rattle.rec_store.specs.declared.dump_opening.DumpHead.{DumpHead}
use Rattle.rec_store.proofs.DumpLemmas.{short_same}

-- the next bytes and those behind them
next_bytes : (k n m : ℕ) (xs piece : List ℕ) → n + k ≡ m → piece ≡ take k (drop n xs)
    → drop n xs ≡ piece ++ drop m xs
next_bytes k n m xs piece sum is =
    sym (take-append-drop k (drop n xs)) ∙ ap (λ l. l ++ drop k (drop n xs)) (sym is)
    ∙ ap (λ l. piece ++ l) (drop-drop k n xs ∙ ap (λ i. drop i xs) sum)

pub dump_head-numbers : (head : DumpHead) (xs : List ℕ) → length xs ≡ 16 → head.seconds < 2 ^ 32 → head.micros < 2 ^ 32
    → head.address < 2 ^ 32 → head.port < 2 ^ 16 → to_be_bytes w32 head.seconds ≡ take 4 xs
    → to_be_bytes w32 head.micros ≡ take 4 (drop 4 xs) → to_be_bytes w32 head.address ≡ take 4 (drop 8 xs)
    → to_be_bytes w16 head.port ≡ take 2 (drop 12 xs) → IsDumpHead head xs
dump_head-numbers head xs size p q r s seconds micros address port = record {
  seconds = p;
  micros = q;
  address = r;
  port = s;
  padding = drop 14 xs;
  two = omega (arith, size, length-drop 14 xs);
  spelled = next_bytes 4 0 4 xs (to_be_bytes w32 head.seconds) refl seconds
      ∙ ap (λ l. to_be_bytes w32 head.seconds ++ l) (next_bytes 4 4 8 xs (to_be_bytes w32 head.micros) refl micros
      ∙ ap (λ l. to_be_bytes w32 head.micros ++ l) (next_bytes 4 8 12 xs (to_be_bytes w32 head.address) refl address
      ∙ ap (λ l. to_be_bytes w32 head.address ++ l) (next_bytes 2 12 14 xs (to_be_bytes w16 head.port) refl port)));
}

-- the first number is the length
pub own_length : (bytes : List ℕ) (len packet_length offset : ℕ) → IsOwnLength bytes → len < 2 ^ 16
    → to_be_bytes w16 len ++ to_be_bytes w16 packet_length ++ to_be_bytes w32 offset ≡ take 8 bytes
    → len ≡ length bytes
own_length bytes len packet_length offset own fits is =
    short_same len (length bytes) fits own.fits
    (ap (take 2) is ∙ take-take 2 8 bytes (omega arith) ∙ sym own.own)

-- an item of equal parts
item_is : (item : DumpItem) (r : DumpRecord) → item.offset ≡ r.offset
    → item.kind ≡ kind_of r.packet_length (length r.kept) → item ≡ item_of r
item_is item r offset kind i = record { offset = offset i; kind = kind i }

pub tells_record : (bytes : List ℕ) (len packet_length offset : ℕ) (item : DumpItem) (size : ℕ) → IsOwnLength bytes
    → len < 2 ^ 16 → packet_length < 2 ^ 16 → offset < 2 ^ 32
    → to_be_bytes w16 len ++ to_be_bytes w16 packet_length ++ to_be_bytes w32 offset ≡ take 8 bytes
    → item.offset ≡ offset → item.kind ≡ kind_of packet_length (len - 8) → size ≡ packet_size packet_length (len - 8)
    → TellsRecord bytes item size
tells_record bytes len packet_length offset item size own p q r is at kind size_is =
    let kept = drop 8 bytes in
    let same : len ≡ length bytes = own_length bytes len packet_length offset own p is in
    let all : 8 + length kept ≡ len = omega (arith, own.long, same, length-drop 8 bytes) in
    let count : len - 8 ≡ length kept = omega (arith, all) in
    let told : DumpRecord = record { packet_length = packet_length; offset = offset; kept = kept } in
    record {
      told = told;
      is_record = record { packet_length = q; offset = r; length_fits = omega (arith, all, p) };
      bytes_are = sym (take-append-drop 8 bytes) ∙ ap (λ l. l ++ kept) (sym is)
          ∙ ap (λ n. (to_be_bytes w16 n ++ to_be_bytes w16 packet_length ++ to_be_bytes w32 offset) ++ kept) (sym all);
      item_is = item_is item told at (kind ∙ ap (kind_of packet_length) count);
      size_is = size_is ∙ ap (packet_size packet_length) count;
    }

-- as many of the bytes kept as are the packet's
pub packet-taken : (r : DumpRecord) → take (packet_size r.packet_length (length r.kept)) r.kept ≡ packet_of_record r
packet-taken r = go (r.packet_length == 0)
  where
    go : (b : Bool) → take (if b then length r.kept else min r.packet_length (length r.kept)) r.kept
        ≡ (if b then r.kept else take r.packet_length r.kept)
    go true = take-length r.kept
    go false = take_min r.packet_length r.kept
