-- Each input has records.
use Rattle.std.proofs.Common.{◌≡◌, ◌⊎◌, inl, inr, ℕ, zero, suc, ◌+◌, ◌≤◌, List, [], ◌∷◌, ◌++◌, length, take, drop, Option, None, length-drop, refl, sym, ap, ◌∙◌, append_assoc, take-append-drop, arith}
use Rattle.std.proofs.lemmas.Bool.{cases_lt}
use Rattle.std.specs.List.{concat}
use Rattle.job_loop.specs.Shown.{Shown}
use Rattle.opus_packet.specs.PacketPrefix.{AreBytes}
use Rattle.opus_packet.proofs.BytesLemmas.{AreBytes-drop}
use Rattle.opus_feed.specs.declared.framing.Framing.TheVariants.{Whole, SelfDelimited}
use Rattle.opus_feed.specs.declared.padding.Padding.{Padding}
use Rattle.opus_feed.specs.Packets.{IsNone, fault_of}
use Rattle.pack_records.specs.declared.cut.Cut.{Cut}
use Rattle.pack_records.specs.declared.item.Item.{Item}
use Rattle.pack_records.specs.Demo.{DemoEnds}
use Rattle.pack_records.specs.Early.{IsEarly}
use Rattle.pack_records.specs.Framed.{Shows, end_records, SelfEnds}
use Rattle.pack_records.specs.Holds.{packet_record, bad_record, HoldsPacket, Holds}
use Rattle.pack_records.specs.Raw.{RawEnds}
use Rattle.pack_records.specs.Undelimited.{packet_shows}
use Rattle.pack_records.proofs.PacketKinds.{IsWhole, whole_or_none, BeginsWithSome, begins_or_none, begins_some}
use Rattle.pack_records.proofs.StoreParts.{AllHold, AllDecided, store_has_records}

-- ---- undelimited packets

packets_hold : (padding : Padding) → AllHold (packet_shows padding)
packets_hold padding start range bytes are = go (whole_or_none bytes are)
  where
    go : IsWhole bytes ⊎ IsNone Whole bytes → (r : Shown Item) × Holds padding Whole start range bytes r
    go (inl w) = (
      packet_record padding Whole start range w.value w.shape w.spells.0 (length bytes),
      inl record { value = w.value; shape = w.shape; tail = w.spells.0; reads = w.spells.1; shows = refl },
    )
    go (inr none) =
        (bad_record start range (fault_of Whole bytes) (length bytes), inr record { none = none; shows = refl })

packets_decided : (padding : Padding) → AllDecided (packet_shows padding)
packets_decided padding part are = go (cases_lt (fault_of Whole part).place (length part))
  where
    go : IsEarly Whole part ⊎ (length part ≤ (fault_of Whole part).place)
        → ((start range : ℕ) → IsEarly Whole part) ⊎ ((start range : ℕ) → IsEarly Whole part → ⊥)
    go (inl early) = inl (λ start range. early)
    go (inr late) = inr (λ start range early. omega (arith, late, early))

pub raw_has_records : (padding : Padding) (x : List ℕ) → AreBytes x → (rs : List (Shown Item)) × RawEnds padding x rs None
raw_has_records padding x are =
    let (r, holds) = packets_hold padding 0 0 x are in
    (r ∷ [], record { are_bytes = are; shown = r; holds = holds; records_are = refl; cut_is = refl })

pub demo_has_records : (padding : Padding) (x : List ℕ) → AreBytes x
    → (rs : List (Shown Item)) × (cut : Option Cut) × DemoEnds padding x rs cut
demo_has_records padding = store_has_records (packet_shows padding) (packets_hold padding) (packets_decided padding)

-- ---- self-delimited packets

-- packets one after another, of which the first begins at `start`, and a rest that begins with none
record SelfParts (padding : Padding) (start : ℕ) (x : List ℕ) : Type 0 where
  packets : List (List ℕ)
  rest : List ℕ
  parts : x ≡ concat packets ++ rest
  none : IsNone SelfDelimited rest
  records : List (Shown Item)
  shows : Shows padding end_records start packets rest records

only_rest : (padding : Padding) (start : ℕ) (x : List ℕ) → IsNone SelfDelimited x → SelfParts padding start x
only_rest padding start x none = record {
  packets = [];
  rest = x;
  parts = refl;
  none = none;
  records = end_records start x;
  shows = refl;
}

packet_first : (padding : Padding) (start : ℕ) (x : List ℕ) (b : BeginsWithSome x)
    → SelfParts padding (start + length (take b.used x)) (drop b.used x) → SelfParts padding start x
packet_first padding start x b behind =
    let p = take b.used x in
    let (tail, reads) = b.begins.spelled in
    let holds : HoldsPacket padding SelfDelimited start 0 p
    (packet_record padding SelfDelimited start 0 b.value b.shape tail (length p)) = record {
      value = b.value;
      shape = b.shape;
      tail = tail;
      reads = reads;
      shows = refl;
    } in
    record {
      packets = p ∷ behind.packets;
      rest = behind.rest;
      parts = sym (take-append-drop b.used x) ∙ ap (λ l. p ++ l) behind.parts
          ∙ sym (append_assoc p (concat behind.packets) behind.rest);
      none = behind.none;
      records = packet_record padding SelfDelimited start 0 b.value b.shape tail (length p) ∷ behind.records;
      shows = (holds, behind.shows);
    }

parts_of : (padding : Padding) (most start : ℕ) (x : List ℕ) → length x ≤ most → AreBytes x → SelfParts padding start x
parts_of padding zero start x fits are = go (begins_or_none x are)
  where
    go : BeginsWithSome x ⊎ IsNone SelfDelimited x → SelfParts padding start x
    go (inr none) = only_rest padding start x none
    go (inl b) = absurd (omega (arith, fits, begins_some x b, b.begins.within))
parts_of padding (suc most) start x fits are =
    go (begins_or_none x are) (λ next rest less bytes. parts_of padding most next rest less bytes)
  where
    go : BeginsWithSome x ⊎ IsNone SelfDelimited x
        → ((next : ℕ) (rest : List ℕ) → length rest ≤ most → AreBytes rest → SelfParts padding next rest)
        → SelfParts padding start x
    go (inr none) deeper = only_rest padding start x none
    go (inl b) deeper =
        packet_first padding start x b
        (deeper (start + length (take b.used x)) (drop b.used x)
        (omega (arith, fits, begins_some x b, b.begins.within, length-drop b.used x)) (AreBytes-drop b.used x are))

pub self_has_records : (padding : Padding) (x : List ℕ) → AreBytes x
    → (rs : List (Shown Item)) × SelfEnds padding x rs None
self_has_records padding x are =
    let p = parts_of padding (length x) 0 x (omega arith) are in (
      p.records,
      (
        p.rest,
        record { are_bytes = are; packets = p.packets; parts = p.parts; none = p.none; shows = p.shows },
        refl,
      ),
    )
