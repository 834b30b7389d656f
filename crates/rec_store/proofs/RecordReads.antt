-- How a record of a capture is taken: its length, its head, and then the bytes that it keeps.
use Rattle.std.proofs.Common.{◌≡◌, ◌⊎◌, inl, inr, ℕ, ◌+◌, ◌-◌, ◌^◌, ◌<◌, ◌≤◌, List, [], ◌∷◌, ◌++◌, Ok, Err, Result, length, length-append, take, drop, replicate, refl, sym, ap, ◌∙◌, subst, append_assoc, arith}
use Rattle.std.proofs.Math.Seq.{drop-append_seam}
use Rattle.std.proofs.lemmas.List.{length-replicate}
use Rattle.std.specs.Int.{w16, w32, to_be_bytes}
use Rattle.std.specs.declared.option.Option.{Option}
use Rattle.opus_io.specs.Reader.{ReaderState}
use Rattle.opus_io.specs.declared.reader.InStop.{InStop}
use Rattle.opus_io.specs.declared.reader.InStop.TheVariants.{Read, Limit}
use Rattle.rec_store.specs.DemoReader.{Passed}
use Rattle.rec_store.specs.DumpItem.{kind_of, packet_size, IsOwnLength, TellsRecord}
use Rattle.rec_store.specs.DumpStore.{AreBytes, IsRecordPart}
use Rattle.rec_store.specs.DumpReader.{RecordPassed}
use Rattle.rec_store.specs.DumpTaking.{stop_of, head_bytes, KeptRead, KeptTaken, RestRead, RestPassed, RestStop, RestTaken, RecordStop}
use Rattle.rec_store.specs.Taking.{Took, Takes}
use Rattle.rec_store.specs.declared.dump_item.DumpItem.{DumpItem}
use Rattle.rec_store.specs.declared.dump_item.DumpRecordHead.{DumpRecordHead}
use Rattle.rec_store.specs.declared.stop.StoreFault.TheVariants.{StoreCut, DumpLine, DumpLength}
use Rattle.rec_store.specs.declared.stop.StoreStop.{StoreStop}
use Rattle.rec_store.specs.declared.stop.StoreStop.TheVariants.{Fault, Read as ReadStop, Limit as LimitStop, NoMemory}
use Rattle.opus_io.proofs.BytesLemmas.{AreBytes-append}
use Rattle.rec_store.proofs.ItemLemmas.{tells_record, packet-taken}
use Rattle.rec_store.proofs.PartLemmas.{record_part-nil, record_part-one, record_part-of}
use Rattle.rec_store.proofs.TakeLemmas.{Passed-trans, Took-last}

-- ---- parts of a record

-- fewer than two bytes
few_part : (bytes : List ℕ) → AreBytes bytes → length bytes < 2 → IsRecordPart bytes
few_part [] are few = record_part-nil
few_part (b ∷ []) are few = record_part-one b are.0
few_part (b ∷ c ∷ bytes) are few = absurd (omega (arith, few))

-- a length, and not all of the head
length_part : (n : ℕ) (came bytes : List ℕ) → to_be_bytes w16 n ≡ came → 8 ≤ n → n < 2 ^ 16 → AreBytes bytes
    → length bytes < 6 → IsRecordPart (came ++ bytes)
length_part n came bytes is long fits are few =
    subst (λ l. IsRecordPart (l ++ bytes)) is
    (record_part-of (to_be_bytes w16 n ++ bytes) n (AreBytes-append (to_be_bytes w16 n) bytes spelled are)
    (omega arith) long fits refl (omega (arith, few, long)))
  where
    spelled : AreBytes (to_be_bytes w16 n)
    spelled = (omega arith, (omega arith, tt))

-- a head whose numbers fit
pub record IsHead (head : DumpRecordHead) : Type 0 where
  pub long : 8 ≤ head.length
  pub fits : head.length < 2 ^ 16
  pub packet_fits : head.packet_length < 2 ^ 16
  pub offset_fits : head.offset < 2 ^ 32

-- a head, and not all of the bytes behind it
head_part : (head : DumpRecordHead) (bytes : List ℕ) → IsHead head → 8 + length bytes < head.length
    → IsRecordPart (head_bytes head ++ bytes)
head_part head bytes h short =
    let n = head.length in
    let more : List ℕ = replicate (n - (8 + length bytes)) 0 in
    let size : length more ≡ n - (8 + length bytes) = length-replicate (n - (8 + length bytes)) 0 in
    let all : 8 + length (bytes ++ more) ≡ n = omega (arith, short, size, length-append bytes more) in
    record {
      part_of = record { packet_length = head.packet_length; offset = head.offset; kept = bytes ++ more };
      is_record = record {
        packet_length = h.packet_fits;
        offset = h.offset_fits;
        length_fits = omega (arith, all, h.fits);
      };
      more = more;
      some = omega (arith, short, size);
      whole = ap (λ k. (to_be_bytes w16 k ++ to_be_bytes w16 head.packet_length ++ to_be_bytes w32 head.offset)
          ++ (bytes ++ more)) all ∙ sym (append_assoc (head_bytes head) bytes more);
    }

-- ---- the rest of a record whose first bytes, `came`, were passed

stops : (stop : InStop) (said : StoreStop) (most : ℕ) (old new : ReaderState) (left left' : Option (List ℕ))
    (came bytes : List ℕ) → said ≡ stop_of stop → Takes most old new left left' bytes (Err stop)
    → (Passed old new left left' bytes → length bytes < most → RestPassed old new left left' came)
    → RestStop said old new left left' came
stops Read said most old new left left' came bytes told takes part =
    subst (λ s. RestStop s old new left left' came) (sym told) (part takes.0.passed takes.0.short, takes.1)
stops Limit said most old new left left' came bytes told takes part =
    subst (λ s. RestStop s old new left left' came) (sym told) (part takes.0.passed takes.0.short, takes.1)

cut : (said : StoreStop) (place most : ℕ) (old new : ReaderState) (left left' : Option (List ℕ)) (came bytes : List ℕ)
    → said ≡ Fault (StoreCut place) → place ≡ new.passed → Took most old new left left' bytes → length bytes < most
    → RestPassed old new left left' came → RestStop said old new left left' came
cut said place most old new left left' came bytes told place_is took short part =
    subst (λ s. RestStop s old new left left' came) (sym told) (part, took.end short, place_is)

head_passed : (n : ℕ) (old new : ReaderState) (left left' : Option (List ℕ)) (came bytes : List ℕ)
    → to_be_bytes w16 n ≡ came → 8 ≤ n → n < 2 ^ 16 → AreBytes bytes → Passed old new left left' bytes
    → length bytes < 6 → RestPassed old new left left' came
head_passed n old new left left' came bytes is long fits are passed short =
    record { bytes = bytes; passed = passed; part = length_part n came bytes is long fits are short }

pub head_stopped : (stop : InStop) (said : StoreStop) (n : ℕ) (old new : ReaderState) (left left' : Option (List ℕ))
    (came bytes : List ℕ) → said ≡ stop_of stop → to_be_bytes w16 n ≡ came → 8 ≤ n → n < 2 ^ 16 → AreBytes bytes
    → Takes 6 old new left left' bytes (Err stop) → RestStop said old new left left' came
head_stopped stop said n old new left left' came bytes told is long fits are takes =
    stops stop said 6 old new left left' came bytes told takes
    (λ passed short. head_passed n old new left left' came bytes is long fits are passed short)

pub head_cut : (said : StoreStop) (n place : ℕ) (old new : ReaderState) (left left' : Option (List ℕ))
    (came bytes : List ℕ) → said ≡ Fault (StoreCut place) → place ≡ new.passed → to_be_bytes w16 n ≡ came → 8 ≤ n
    → n < 2 ^ 16 → AreBytes bytes → Took 6 old new left left' bytes → length bytes < 6
    → RestStop said old new left left' came
head_cut said n place old new left left' came bytes told place_is is long fits are took short =
    cut said place 6 old new left left' came bytes told place_is took short
    (head_passed n old new left left' came bytes is long fits are took.passed short)

kept_passed : (head : DumpRecordHead) (old new : ReaderState) (left left' : Option (List ℕ)) (bytes : List ℕ)
    → IsHead head → Passed old new left left' bytes → length bytes < head.length - 8
    → RestPassed old new left left' (head_bytes head)
kept_passed head old new left left' bytes h passed short =
    record { bytes = bytes; passed = passed; part = head_part head bytes h (omega (arith, short)) }

pub kept_stopped : (stop : InStop) (said : StoreStop) (head : DumpRecordHead) (old new : ReaderState)
    (left left' : Option (List ℕ)) (bytes : List ℕ) → said ≡ stop_of stop → IsHead head
    → Takes (head.length - 8) old new left left' bytes (Err stop) → RestStop said old new left left' (head_bytes head)
kept_stopped stop said head old new left left' bytes told h takes =
    stops stop said (head.length - 8) old new left left' (head_bytes head) bytes told takes
    (λ passed short. kept_passed head old new left left' bytes h passed short)

pub kept_cut : (said : StoreStop) (head : DumpRecordHead) (place : ℕ) (old new : ReaderState)
    (left left' : Option (List ℕ)) (bytes : List ℕ) → said ≡ Fault (StoreCut place) → place ≡ new.passed → IsHead head
    → Took (head.length - 8) old new left left' bytes → length bytes < head.length - 8
    → RestStop said old new left left' (head_bytes head)
kept_cut said head place old new left left' bytes told place_is h took short =
    cut said place (head.length - 8) old new left left' (head_bytes head) bytes told place_is took short
    (kept_passed head old new left left' bytes h took.passed short)

-- all that the record keeps was passed
pub kept_read : (head : DumpRecordHead) (item : DumpItem) (size : ℕ) (packet : List ℕ) (old new : ReaderState)
    (left left' : Option (List ℕ)) (bytes : List ℕ) → IsHead head → Took (head.length - 8) old new left left' bytes
    → head.length - 8 ≤ length bytes → item.offset ≡ head.offset
    → item.kind ≡ kind_of head.packet_length (head.length - 8)
    → size ≡ packet_size head.packet_length (head.length - 8) → packet ≡ take size bytes
    → KeptRead old new left left' (head_bytes head) item packet
kept_read head item size packet old new left left' bytes h took all at kind size_is packet_is =
    let front = head_bytes head in
    let total : length (front ++ bytes) ≡ head.length = omega (arith, length-append front bytes, took.fits, all, h.long) in
    let own : IsOwnLength (front ++ bytes) = record {
      long = omega (arith, total, h.long);
      fits = omega (arith, total, h.fits);
      own = ap (to_be_bytes w16) total;
    } in
    record {
      bytes = bytes;
      size = size;
      passed = took.passed;
      tells = tells_record (front ++ bytes) head.length head.packet_length head.offset item size own h.fits h.packet_fits
          h.offset_fits refl at kind size_is;
      packet_is = packet_is;
      last_read = took.last_read;
    }

-- ---- the rest of a record, behind its length

rest_behind : (old mid new : ReaderState) (left left' left'' : Option (List ℕ)) (came front bytes : List ℕ)
    → front ≡ came ++ bytes → Passed old mid left left' bytes → RestPassed mid new left' left'' front
    → RestPassed old new left left'' came
rest_behind old mid new left left' left'' came front bytes is before rest = record {
  bytes = bytes ++ rest.bytes;
  passed = Passed-trans old mid new left left' left'' bytes rest.bytes before rest.passed;
  part = subst IsRecordPart (ap (λ l. l ++ rest.bytes) is ∙ append_assoc came bytes rest.bytes) rest.part;
}

stop_behind : (said : StoreStop) (old mid new : ReaderState) (left left' left'' : Option (List ℕ))
    (came front bytes : List ℕ) → front ≡ came ++ bytes → Passed old mid left left' bytes
    → RestStop said mid new left' left'' front → RestStop said old new left left'' came
stop_behind (Fault (StoreCut place)) old mid new left left' left'' came front bytes is before rest =
    (rest_behind old mid new left left' left'' came front bytes is before rest.0, rest.1, rest.2)
stop_behind (Fault (DumpLine place)) old mid new left left' left'' came front bytes is before rest = absurd rest
stop_behind (Fault (DumpLength place)) old mid new left left' left'' came front bytes is before rest = absurd rest
stop_behind ReadStop old mid new left left' left'' came front bytes is before rest =
    (rest_behind old mid new left left' left'' came front bytes is before rest.0, rest.1)
stop_behind LimitStop old mid new left left' left'' came front bytes is before rest =
    (rest_behind old mid new left left' left'' came front bytes is before rest.0, rest.1)
stop_behind NoMemory old mid new left left' left'' came front bytes is before rest = absurd rest

kept_is : (front bytes : List ℕ) (item : DumpItem) (size : ℕ) (t : TellsRecord (front ++ bytes) item size)
    → length front ≡ 8 → t.told.kept ≡ bytes
kept_is front bytes item size t eight =
    ap (drop 8) (sym t.bytes_are) ∙ ap (λ k. drop k (front ++ bytes)) (sym eight) ∙ drop-append_seam front bytes

read_behind : (old mid new : ReaderState) (left left' left'' : Option (List ℕ)) (came front bytes : List ℕ)
    (item : DumpItem) (packet : List ℕ) → front ≡ came ++ bytes → length front ≡ 8 → Took 6 old mid left left' bytes
    → 1 ≤ length bytes → KeptRead mid new left' left'' front item packet → RestRead old new left left'' came item packet
read_behind old mid new left left' left'' came front bytes item packet is eight before some kept =
    let t = kept.tells in
    record {
      told = t.told;
      is_record = t.is_record;
      bytes = bytes ++ kept.bytes;
      passed = Passed-trans old mid new left left' left'' bytes kept.bytes before.passed kept.passed;
      bytes_are = sym t.bytes_are ∙ ap (λ l. l ++ kept.bytes) is ∙ append_assoc came bytes kept.bytes;
      item_is = t.item_is;
      packet_is = kept.packet_is ∙ ap (take kept.size) (sym (kept_is front kept.bytes item kept.size t eight))
          ∙ ap (λ k. take k t.told.kept) t.size_is ∙ packet-taken t.told;
      last_read = last kept.last_read;
    }
  where
    last : (length new.bytes < 4096) ⊎ (new ≡ mid) → length new.bytes < 4096
    last (inl few) = few
    last (inr same) =
        subst (λ (k : ReaderState). length k.bytes < 4096) (sym same) (Took-last 6 old mid left left' bytes before some)

-- ---- a record from its first byte

few_passed : (old new : ReaderState) (left left' : Option (List ℕ)) (bytes : List ℕ) → Passed old new left left' bytes
    → AreBytes bytes → length bytes < 2 → RecordPassed old new left left' []
few_passed old new left left' bytes passed are few =
    record { bytes = bytes; passed = passed; part = few_part bytes are few; packet_is = refl }

pub length_stopped : (stop : InStop) (said : StoreStop) (old new : ReaderState) (left left' : Option (List ℕ))
    (bytes : List ℕ) → said ≡ stop_of stop → Takes 2 old new left left' bytes (Err stop) → AreBytes bytes
    → RecordStop said old new left left'
length_stopped Read said old new left left' bytes told takes are =
    subst (λ s. RecordStop s old new left left') (sym told)
    (few_passed old new left left' bytes takes.0.passed are takes.0.short, takes.1)
length_stopped Limit said old new left left' bytes told takes are =
    subst (λ s. RecordStop s old new left left') (sym told)
    (few_passed old new left left' bytes takes.0.passed are takes.0.short, takes.1)

pub length_cut : (said : StoreStop) (place : ℕ) (old new : ReaderState) (left left' : Option (List ℕ)) (bytes : List ℕ)
    → said ≡ Fault (StoreCut place) → place ≡ new.passed → Took 2 old new left left' bytes → AreBytes bytes
    → 1 ≤ length bytes → length bytes < 2 → RecordStop said old new left left'
length_cut said place old new left left' bytes told place_is took are some few =
    subst (λ s. RecordStop s old new left left') (sym told) record {
      front = record { bytes = bytes; passed = took.passed; part = few_part bytes are few; packet_is = refl };
      some = some;
      end = took.end few;
      place_is = place_is;
    }

-- a stop within the rest is a stop within the record
rest_passed : (old mid new : ReaderState) (left left' left'' : Option (List ℕ)) (came : List ℕ)
    → Passed old mid left left' came → RestPassed mid new left' left'' came → RecordPassed old new left left'' []
rest_passed old mid new left left' left'' came before rest = record {
  bytes = came ++ rest.bytes;
  passed = Passed-trans old mid new left left' left'' came rest.bytes before rest.passed;
  part = rest.part;
  packet_is = refl;
}

pub rest_stopped : (said : StoreStop) (old mid new : ReaderState) (left left' left'' : Option (List ℕ)) (came : List ℕ)
    → 1 ≤ length came → Passed old mid left left' came → RestStop said mid new left' left'' came
    → RecordStop said old new left left''
rest_stopped (Fault (StoreCut place)) old mid new left left' left'' came some before rest = record {
  front = record {
    bytes = came ++ rest.0.bytes;
    passed = Passed-trans old mid new left left' left'' came rest.0.bytes before rest.0.passed;
    part = rest.0.part;
    packet_is = refl;
  };
  some = omega (arith, some, length-append came rest.0.bytes);
  end = rest.1;
  place_is = rest.2;
}
rest_stopped (Fault (DumpLine place)) old mid new left left' left'' came some before rest = absurd rest
rest_stopped (Fault (DumpLength place)) old mid new left left' left'' came some before rest = absurd rest
rest_stopped ReadStop old mid new left left' left'' came some before rest =
    (rest_passed old mid new left left' left'' came before rest.0, rest.1)
rest_stopped LimitStop old mid new left left' left'' came some before rest =
    (rest_passed old mid new left left' left'' came before rest.0, rest.1)
rest_stopped NoMemory old mid new left left' left'' came some before rest = absurd rest

pub rest_taken : (head : DumpRecordHead) (old mid new : ReaderState) (left left' left'' : Option (List ℕ))
    (came bytes packet : List ℕ) (result : Result DumpItem StoreStop) → head_bytes head ≡ came ++ bytes
    → Took 6 old mid left left' bytes → 1 ≤ length bytes
    → KeptTaken mid new left' left'' (head_bytes head) packet result → RestTaken old new left left'' came packet result
rest_taken head old mid new left left' left'' came bytes packet (Ok item) is before some kept =
    read_behind old mid new left left' left'' came (head_bytes head) bytes item packet is refl before some kept
rest_taken head old mid new left left' left'' came bytes packet (Err stop) is before some kept =
    stop_behind stop old mid new left left' left'' came (head_bytes head) bytes is before.passed kept
