-- A store of canonical packets, and lost ones, with range 0, and its records as parts of groups.
use Rattle.std.proofs.Common.{◌≡◌, ℕ, ◌+◌, List, [], ◌∷◌, length, map, Option, None, Some, Ok, inl, inr, refl, sym, ap, ◌∙◌, subst, append-nil, arith}
use Rattle.std.specs.List.{AllByRecursion}
use Rattle.job_loop.specs.Shown.{Shown}
use Rattle.rec_store.specs.DemoStore.{demo_record}
use Rattle.rec_store.proofs.DemoLemmas.{NoWholeRecord-short}
use Rattle.opus_packet.specs.declared.shape.Shape.{Shape}
use Rattle.opus_packet.specs.Value.{PacketValue, IsPacketValue}
use Rattle.opus_packet.specs.PacketPrefix.{AreBytes}
use Rattle.opus_packet.specs.PacketGrammar.{IsPacket}
use Rattle.opus_packet.specs.Canonical.{keep_shape, canonical, kept_form}
use Rattle.opus_packet.proofs.BytesLemmas.{AreBytes-append}
use Rattle.opus_packet.proofs.SpellingLemmas.{kept_form-nil}
use Rattle.opus_writer.proofs.KeptLemmas.{kept-is_packet}
use Rattle.opus_feed.specs.declared.framing.Framing.TheVariants.{Whole}
use Rattle.opus_feed.specs.declared.padding.Padding.TheVariants.{Drop}
use Rattle.opus_multi.specs.Forms.{canonical_multistream}
use Rattle.pack_records.specs.declared.item.Item.{Item}
use Rattle.pack_records.specs.Holds as packets
use Rattle.pack_records.specs.Demo.{StoreRecord, store_of, IsStoreRecord, ShowsPayload, ShowsStore, DemoEnds}
use Rattle.pack_records.specs.DemoRests.{some_shows}
use Rattle.pack_records.proofs.DemoFronts.{undecided_short}
use Rattle.pack_records.proofs.LentLemmas.{lent_value-spelled}
use Rattle.pack_jobs.proofs.FormSizes.{form_sizes}
use Rattle.pack_jobs.proofs.FormBytes.{form-are}
use Rattle.pack_jobs.proofs.StoreBytes.{record-are}
use Rattle.pack_jobs.proofs.FramesAgain.{IsByteValue}
use Rattle.stream_jobs.specs.JoinParts.{samples_in}
use Rattle.stream_jobs.specs.Join.{Part, part_of, values_of, ranges_of, packets_in, xor_of, joined}
use Rattle.stream_jobs.specs.JoinGroups.{IsPart, AreParts}

-- ---- a store of canonical packets, and lost ones, with range 0

abbrev pub AreOwn : Option PacketValue → Type 0
AreOwn None = Unit {0}
AreOwn (Some v) = IsByteValue v

abbrev payload_of : Option PacketValue → List ℕ
payload_of None = []
payload_of (Some v) = canonical v

abbrev pub stored : Option PacketValue → StoreRecord
stored o = record { range = 0; payload = payload_of o }

abbrev shape_of : PacketValue → Shape
shape_of v = keep_shape (map length v.frames) 0

abbrev record_in : ℕ → Option PacketValue → Shown Item
record_in start None = packets.lost_record start 0
record_in start (Some v) = packets.packet_record Drop Whole start 0 v (shape_of v) [] (length (canonical v))

abbrev pub records_from : ℕ → List (Option PacketValue) → List (Shown Item)
records_from at [] = []
records_from at (o ∷ os) = record_in (at + 8) o ∷ records_from (at + (8 + length (payload_of o))) os

reads_canonical : (v : PacketValue) → IsPacketValue v → IsPacket v (shape_of v) [] (canonical v)
reads_canonical v is = subst (IsPacket v (shape_of v) []) (kept_form-nil v) (kept-is_packet v [] is (omega arith))

shows_one : (start : ℕ) (o : Option PacketValue) → AreOwn o → ShowsPayload Drop start 0 (payload_of o) (record_in start o)
shows_one start None own = refl
shows_one start (Some v) own =
    let some = (form_sizes Whole v [] own.value (omega arith)).0 in
    some_shows Drop start 0 (canonical v) (record_in start (Some v))
    (omega (arith, some, ap (λ (l : List ℕ). length l) (kept_form-nil v)))
    (inl record { value = v; shape = shape_of v; tail = []; reads = reads_canonical v own.value; shows = refl })

shows_all : (at : ℕ) (os : List (Option PacketValue)) → AllByRecursion AreOwn os
    → ShowsStore Drop at (map stored os) [] (records_from at os)
shows_all at [] own = inr record { undecided = undecided_short [] (omega arith); shows = refl }
shows_all at (o ∷ os) own = (shows_one (at + 8) o own.0, shows_all (at + (8 + length (payload_of o))) os own.1)

is_stored : (o : Option PacketValue) → AreOwn o → IsStoreRecord (stored o)
is_stored None own = record { range_fits = omega arith; payload_fits = omega arith }
is_stored (Some v) own =
    let most = (form_sizes Whole v [] own.value (omega arith)).1 in
    record {
      range_fits = omega arith;
      payload_fits = omega (arith, most, ap (λ (l : List ℕ). length l) (kept_form-nil v));
    }

are_stored : (os : List (Option PacketValue)) → AllByRecursion AreOwn os → AllByRecursion IsStoreRecord (map stored os)
are_stored [] own = tt
are_stored (o ∷ os) own = (is_stored o own.0, are_stored os own.1)

payload-are : (o : Option PacketValue) → AreOwn o → AreBytes (payload_of o)
payload-are None own = tt
payload-are (Some v) own = subst AreBytes (kept_form-nil v) (form-are Whole v [] own.value own.frames tt)

store-are : (os : List (Option PacketValue)) → AllByRecursion AreOwn os → AreBytes (store_of (map stored os))
store-are [] own = tt
store-are (o ∷ os) own =
    AreBytes-append (demo_record 0 (payload_of o)) (store_of (map stored os)) (record-are 0 (payload_of o) (payload-are o own.0))
    (store-are os own.1)

pub store_ends : (text : List ℕ) (os : List (Option PacketValue)) → AllByRecursion AreOwn os → text ≡ store_of (map stored os)
    → DemoEnds Drop text (records_from 0 os) None
store_ends text os own is = (
  [],
  record {
    are_bytes = subst AreBytes (sym is) (store-are os own);
    whole = map stored os;
    are = are_stored os own;
    parts = is ∙ sym (append-nil (store_of (map stored os)));
    none = NoWholeRecord-short [] (omega arith);
    shows = shows_all 0 os own;
  },
  refl,
)

-- ---- its records as parts of groups

abbrev pub part_in : Option PacketValue → Part
part_in o = part_of o 0

is_part : (start : ℕ) (o : Option PacketValue) → AreOwn o → IsPart (record_in start o) (part_in o)
is_part start None own = record { holds = refl; range = refl }
is_part start (Some v) own = record {
  holds = ap Ok (lent_value-spelled Whole v (shape_of v) [] (kept_form v []) (kept-is_packet v [] own.value (omega arith)));
  range = refl;
}

pub are_parts : (at : ℕ) (os : List (Option PacketValue)) → AllByRecursion AreOwn os
    → AreParts (records_from at os) (map part_in os)
are_parts at [] own = tt
are_parts at (o ∷ os) own = (is_part (at + 8) o own.0, are_parts (at + (8 + length (payload_of o))) os own.1)

none_xor : (os : List (Option PacketValue)) → xor_of (ranges_of (map part_in os)) ≡ 0
none_xor [] = refl
none_xor (o ∷ os) = none_xor os

own_values : (os : List (Option PacketValue)) → values_of (map part_in os) ≡ os
own_values [] = refl
own_values (o ∷ os) = ap (λ l. o ∷ l) (own_values os)

pub joined_text : (os : List (Option PacketValue))
    → joined (map part_in os) ≡ demo_record 0 (canonical_multistream (packets_in os))
unfolding joined
joined_text os =
    ap (λ n. demo_record n (canonical_multistream (packets_in (values_of (map part_in os))))) (none_xor os)
    ∙ ap (λ l. demo_record 0 (canonical_multistream (packets_in l))) (own_values os)

pub alike_parts : (samples : Option ℕ) (os : List (Option PacketValue)) → AllByRecursion (λ o. samples_in o ≡ samples) os
    → AllByRecursion (λ p. samples_in p.value ≡ samples) (map part_in os)
alike_parts samples [] each = tt
alike_parts samples (o ∷ os) each = (each.0, alike_parts samples os each.1)
