-- What norm keeps of records: two texts are one exactly where the records agree one by one.
use Rattle.std.proofs.Common.{◌≡◌, ◌↔◌, ℕ, ◌^◌, ◌<◌, ◌≤◌, List, [], ◌∷◌, ◌++◌, length, map, flat_map, refl, sym, ap, ◌∙◌, subst, append-nil, length-append, take_at, arith}
use Rattle.std.specs.List.{AllByRecursion}
use Rattle.job_loop.specs.Shown.{Shown}
use Rattle.job_loop.specs.Meaning.{going, outcome}
use Rattle.job_loop.specs.declared.input_end.InputEnd.{InputEnd}
use Rattle.rec_store.specs.DemoStore.{demo_record, IsDemoRecord}
use Rattle.rec_store.proofs.DemoLemmas.{demo_record-front, length-demo_record, fronts_same}
use Rattle.opus_packet.specs.Value.{PacketValue, IsPacketValue}
use Rattle.opus_packet.specs.SelfGrammar.{IsSelfDelimited, BeginsWithSelf}
use Rattle.opus_packet.specs.Tail.{max_tail}
use Rattle.opus_packet.specs.Canonical.{keep_shape, kept_self_delimited}
use Rattle.opus_self.proofs.SelfPrefixLemmas.{begins_once}
use Rattle.opus_writer.proofs.KeptLemmas.{kept-unique, kept_self-is_packet, kept_self-unique}
use Rattle.opus_feed.specs.declared.framing.Framing.{Framing}
use Rattle.opus_feed.specs.declared.framing.Framing.TheVariants.{Whole, SelfDelimited as Delimited}
use Rattle.opus_feed.specs.declared.padding.Padding.{Padding}
use Rattle.opus_words.specs.declared.form.Form.{Form}
use Rattle.opus_words.specs.declared.form.Form.TheVariants.{Raw, Demo, SelfDelimited}
use Rattle.pack_records.specs.declared.cut.Cut.{Cut}
use Rattle.pack_records.specs.declared.item.Found.{Found}
use Rattle.pack_records.specs.declared.item.Found.TheVariants.{Packet, Lost, Bad}
use Rattle.pack_records.specs.declared.item.Item.{Item}
use Rattle.pack_records.specs.Fits.{form_of, IsForm}
use Rattle.pack_jobs.specs.Records.{record_bytes}
use Rattle.pack_jobs.specs.Norm.{norm}
use Rattle.pack_jobs.specs.Written.{payload_of, normal_record}
use Rattle.pack_jobs.specs.SameRecords.{IsPacketIn, IsStored, IsLoneRecord, IsStoreRecord, IsAtMostOne, AreRecordsOf, IsSameFound, IsSameRecord, AgreeOneByOne}
use Rattle.pack_jobs.proofs.FormSizes.{IsForm-some, IsForm-fits}
use Rattle.pack_jobs.proofs.NormLemmas.{norm_taken}

-- one form is that of one value and one list of padding bytes

pub one_form : (framing : Framing) (v w : PacketValue) (tail rest : List ℕ) → IsPacketValue v → IsPacketValue w
    → length tail ≤ max_tail → length rest ≤ max_tail
    → (form_of framing v tail ≡ form_of framing w rest) ↔ ((v ≡ w) × (tail ≡ rest))
one_form Whole v w tail rest p q few short =
    (kept-unique v w tail rest p q few short, λ same. ap (λ v. form_of Whole v tail) same.0 ∙ ap (form_of Whole w) same.1)
one_form Delimited v w tail rest p q few short =
    (kept_self-unique v w tail rest p q few short, λ same. ap (λ v. form_of Delimited v tail) same.0 ∙ ap (form_of Delimited w) same.1)

-- self-delimited forms at the front of one list

begins_with : (v : PacketValue) (tail bytes more : List ℕ) → IsPacketValue v → length tail ≤ max_tail
    → bytes ≡ kept_self_delimited v tail
    → BeginsWithSelf v (keep_shape (map length v.frames) (length tail)) (length bytes) (bytes ++ more)
begins_with v tail bytes more is small e =
    let size = length-append bytes more in
    let spelled : IsSelfDelimited v (keep_shape (map length v.frames) (length tail)) tail bytes =
    subst (λ l. IsSelfDelimited v (keep_shape (map length v.frames) (length tail)) tail l) (sym e)
    (kept_self-is_packet v tail is small) in
    record {
      within = omega arith;
      spelled = (
        tail,
        subst (λ l. IsSelfDelimited v (keep_shape (map length v.frames) (length tail)) tail l)
            (sym (take_at bytes more (length bytes) refl)) spelled,
      );
    }

self_fronts : (a b xs ys : List ℕ) → IsForm Delimited a → IsForm Delimited b → a ++ xs ≡ b ++ ys
    → (a ≡ b) × (xs ≡ ys)
self_fronts a b xs ys p q e =
    let first = begins_with p.value p.tail a xs p.is_value p.small p.bytes_are in
    let second = begins_with q.value q.tail b ys q.is_value q.small q.bytes_are in
    let size = begins_once p.value q.value _ _ (length a) (length b) (a ++ xs) first
    (subst (λ l. BeginsWithSelf q.value (keep_shape (map length q.value.frames) (length q.tail)) (length b) l) (sym e) second) in
    fronts_same a b xs ys size e

-- a packet has bytes

packet_some : (framing : Framing) (bytes : List ℕ) → IsForm framing bytes → bytes ≡ [] → ⊥
packet_some framing bytes form none =
    absurd (omega (arith, IsForm-some framing bytes form, ap length none))

-- records of a form with one payload

lone_payload : (framing : Framing) (found : Found) (bytes : List ℕ) → IsPacketIn framing found bytes
    → IsForm framing (payload_of found bytes)
lone_payload framing (Packet other shape size) bytes is = is
lone_payload framing Lost bytes is = absurd is
lone_payload framing (Bad fault) bytes is = absurd is

lone_found : (framing : Framing) (found other : Found) (bytes bytes' : List ℕ) → IsPacketIn framing found bytes
    → IsPacketIn framing other bytes' → payload_of found bytes ≡ payload_of other bytes'
    → IsSameFound found bytes other bytes'
lone_found framing (Packet f s n) (Packet g t m) bytes bytes' p q e = e
lone_found framing (Packet f s n) Lost bytes bytes' p q e = absurd q
lone_found framing (Packet f s n) (Bad fault) bytes bytes' p q e = absurd q
lone_found framing Lost other bytes bytes' p q e = absurd p
lone_found framing (Bad fault) other bytes bytes' p q e = absurd p

stored_found : (found other : Found) (bytes bytes' : List ℕ) → IsStored found bytes → IsStored other bytes'
    → payload_of found bytes ≡ payload_of other bytes' → IsSameFound found bytes other bytes'
stored_found (Packet f s n) (Packet g t m) bytes bytes' p q e = e
stored_found (Packet f s n) Lost bytes bytes' p q e = packet_some Whole bytes p e
stored_found (Packet f s n) (Bad fault) bytes bytes' p q e = absurd q
stored_found Lost (Packet g t m) bytes bytes' p q e = packet_some Whole bytes' q (sym e)
stored_found Lost Lost bytes bytes' p q e = tt
stored_found Lost (Bad fault) bytes bytes' p q e = absurd q
stored_found (Bad fault) other bytes bytes' p q e = absurd p

stored_fits : (found : Found) (bytes : List ℕ) → IsStored found bytes → length (payload_of found bytes) < 2 ^ 32
stored_fits (Packet framing shape size) bytes is = IsForm-fits Whole bytes is
stored_fits Lost bytes is = omega arith
stored_fits (Bad fault) bytes is = absurd is

same_payload : (found other : Found) (bytes bytes' : List ℕ) → IsSameFound found bytes other bytes'
    → payload_of found bytes ≡ payload_of other bytes'
same_payload (Packet f s n) (Packet g t m) bytes bytes' same = same
same_payload (Packet f s n) Lost bytes bytes' same = absurd same
same_payload (Packet f s n) (Bad fault) bytes bytes' same = absurd same
same_payload Lost (Packet g t m) bytes bytes' same = absurd same
same_payload Lost Lost bytes bytes' same = refl
same_payload Lost (Bad fault) bytes bytes' same = absurd same
same_payload (Bad fault) other bytes bytes' same = absurd same

-- agreeing records have one text

pub agree_text : (form : Form) (rs ss : List (Shown Item)) → AgreeOneByOne rs ss
    → flat_map (normal_record form) rs ≡ flat_map (normal_record form) ss
agree_text form [] [] agree = refl
agree_text form [] (s ∷ ss) agree = absurd agree
agree_text form (r ∷ rs) [] agree = absurd agree
agree_text form (r ∷ rs) (s ∷ ss) agree =
    let payload = same_payload r.item.found s.item.found r.bytes s.bytes agree.0.found in
    ap (λ l. record_bytes form r.item.range l ++ flat_map (normal_record form) rs) payload
    ∙ ap (λ n. record_bytes form n (payload_of s.item.found s.bytes) ++ flat_map (normal_record form) rs) agree.0.range
    ∙ ap (λ l. normal_record form s ++ l) (agree_text form rs ss agree.1)

-- one text has agreeing records

pub demo_none : (range : ℕ) (payload more : List ℕ) → [] ≡ demo_record range payload ++ more → ⊥
demo_none range payload more e = absurd (omega (arith, ap length e, length-append (demo_record range payload) more, length-demo_record range payload))

store_agree : (rs ss : List (Shown Item)) → AllByRecursion IsStoreRecord rs → AllByRecursion IsStoreRecord ss
    → flat_map (normal_record Demo) rs ≡ flat_map (normal_record Demo) ss → AgreeOneByOne rs ss
store_agree [] [] p q e = tt
store_agree [] (s ∷ ss) p q e = demo_none s.item.range (payload_of s.item.found s.bytes) (flat_map (normal_record Demo) ss) e
store_agree (r ∷ rs) [] p q e = demo_none r.item.range (payload_of r.item.found r.bytes) (flat_map (normal_record Demo) rs) (sym e)
store_agree (r ∷ rs) (s ∷ ss) p q e =
    let first : IsDemoRecord r.item.range (payload_of r.item.found r.bytes) =
    record { range_fits = p.0.range; payload_fits = stored_fits r.item.found r.bytes p.0.stored } in
    let second : IsDemoRecord s.item.range (payload_of s.item.found s.bytes) =
    record { range_fits = q.0.range; payload_fits = stored_fits s.item.found s.bytes q.0.stored } in
    let parts = demo_record-front r.item.range s.item.range (payload_of r.item.found r.bytes)
    (payload_of s.item.found s.bytes) (flat_map (normal_record Demo) rs) (flat_map (normal_record Demo) ss) first second e in (
      record { range = parts.0; found = stored_found r.item.found s.item.found r.bytes s.bytes p.0.stored q.0.stored parts.1 },
      store_agree rs ss p.1 q.1 parts.2,
    )

lone_none : (framing : Framing) (r : Shown Item) (more : List ℕ) → IsLoneRecord framing r
    → [] ≡ payload_of r.item.found r.bytes ++ more → ⊥
lone_none framing r more is e =
    absurd (omega (arith, ap length e, length-append (payload_of r.item.found r.bytes) more, IsForm-some framing (payload_of r.item.found r.bytes) (lone_payload framing r.item.found r.bytes is.packet)))

lone_same : (framing : Framing) (r s : Shown Item) → IsLoneRecord framing r → IsLoneRecord framing s
    → payload_of r.item.found r.bytes ≡ payload_of s.item.found s.bytes → IsSameRecord r s
lone_same framing r s p q e = record {
  range = p.range ∙ sym q.range;
  found = lone_found framing r.item.found s.item.found r.bytes s.bytes p.packet q.packet e;
}

self_agree : (rs ss : List (Shown Item)) → AllByRecursion (IsLoneRecord Delimited) rs
    → AllByRecursion (IsLoneRecord Delimited) ss
    → flat_map (normal_record SelfDelimited) rs ≡ flat_map (normal_record SelfDelimited) ss → AgreeOneByOne rs ss
self_agree [] [] p q e = tt
self_agree [] (s ∷ ss) p q e = lone_none Delimited s (flat_map (normal_record SelfDelimited) ss) q.0 e
self_agree (r ∷ rs) [] p q e = lone_none Delimited r (flat_map (normal_record SelfDelimited) rs) p.0 (sym e)
self_agree (r ∷ rs) (s ∷ ss) p q e =
    let parts = self_fronts (payload_of r.item.found r.bytes) (payload_of s.item.found s.bytes)
    (flat_map (normal_record SelfDelimited) rs) (flat_map (normal_record SelfDelimited) ss)
    (lone_payload Delimited r.item.found r.bytes p.0.packet) (lone_payload Delimited s.item.found s.bytes q.0.packet) e in
    (lone_same Delimited r s p.0 q.0 parts.0, self_agree rs ss p.1 q.1 parts.1)

raw_agree : (rs ss : List (Shown Item)) → IsAtMostOne rs → IsAtMostOne ss
    → flat_map (normal_record Raw) rs ≡ flat_map (normal_record Raw) ss → AgreeOneByOne rs ss
raw_agree [] [] p q e = tt
raw_agree [] (s ∷ []) p q e = lone_none Whole s [] q e
raw_agree [] (s ∷ t ∷ ss) p q e = absurd q
raw_agree (r ∷ []) [] p q e = lone_none Whole r [] p (sym e)
raw_agree (r ∷ []) (s ∷ []) p q e =
    (lone_same Whole r s p q (sym (append-nil (payload_of r.item.found r.bytes)) ∙ e ∙ append-nil (payload_of s.item.found s.bytes)), tt)
raw_agree (r ∷ []) (s ∷ t ∷ ss) p q e = absurd q
raw_agree (r ∷ u ∷ rs) ss p q e = absurd p

agree_by : (form : Form) (rs ss : List (Shown Item)) → AreRecordsOf form rs → AreRecordsOf form ss
    → flat_map (normal_record form) rs ≡ flat_map (normal_record form) ss → AgreeOneByOne rs ss
agree_by Raw rs ss p q e = raw_agree rs ss p q e
agree_by Demo rs ss p q e = store_agree rs ss p q e
agree_by SelfDelimited rs ss p q e = self_agree rs ss p q e

pub norm_same : (form : Form) (p q : Padding) (rs ss : List (Shown Item)) (c d : InputEnd Cut) (a b : List ℕ)
    → AreRecordsOf form rs → AreRecordsOf form ss → outcome (norm form p) rs c ≡ going a tt
    → outcome (norm form q) ss d ≡ going b tt → (a ≡ b) ↔ AgreeOneByOne rs ss
norm_same form p q rs ss c d a b first second one two =
    let left = ((norm_taken form p rs c a).0 one).2 in
    let right = ((norm_taken form q ss d b).0 two).2 in (
      λ e. agree_by form rs ss first second (sym left ∙ e ∙ right),
      λ agree. left ∙ agree_text form rs ss agree ∙ sym right,
    )
