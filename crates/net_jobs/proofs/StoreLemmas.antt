-- A store of packets, and what the sender is given of it.
use Rattle.std.proofs.Common.{◌≡◌, ℕ, ◌+◌, ◌*◌, ◌^◌, ◌≤◌, List, [], ◌∷◌, ◌++◌, length, Option, None, Some, inl, inr, refl, sym, ap, ◌∙◌, subst, append_assoc, length-append, arith}
use Rattle.std.specs.List.{AllByRecursion}
use Rattle.job_loop.specs.Shown.{Shown}
use Rattle.job_loop.specs.Meaning.{going, end_of, outcome}
use Rattle.job_loop.specs.declared.input_end.InputEnd.TheVariants.{Closed}
use Rattle.opus_packet.specs.declared.shape.Shape.{Shape}
use Rattle.opus_packet.specs.Header.{header_bytes}
use Rattle.opus_packet.specs.PacketGrammar.{IsPacket}
use Rattle.opus_packet.specs.Value.{PacketValue}
use Rattle.opus_feed.specs.declared.framing.Framing.TheVariants.{Whole}
use Rattle.opus_feed.specs.declared.padding.Padding.{Padding}
use Rattle.opus_feed.specs.declared.padding.Padding.TheVariants.{Drop}
use Rattle.rec_store.specs.DemoStore.{demo_head, demo_record, NoWholeRecord}
use Rattle.rec_store.proofs.DemoLemmas.{demo_record-front, length-demo_record}
use Rattle.rtp_packet.specs.declared.packet.RtpFields.{RtpFields}
use Rattle.pack_records.specs.declared.cut.Cut.{Cut}
use Rattle.pack_records.specs.declared.item.Found.TheVariants.{Packet}
use Rattle.pack_records.specs.declared.item.Item.{Item}
use Rattle.pack_records.specs.Demo.{StoreRecord, store_of, IsStoreRecord, ShowsPayload, ShowsRest, ShowsStore, DemoSettles, DemoEnds, cut_at}
use Rattle.pack_records.specs.HoldsLaws.{reads_same, reads_some}
use Rattle.pack_records.proofs.LentLemmas.{lent_value-held}
use Rattle.pack_jobs.specs.Written.{IsGood, AreGood}
use Rattle.net_jobs.specs.Capture.{capture_of}
use Rattle.net_jobs.specs.Given.{given_all, IsPayloadOf, HoldOneByOne}
use Rattle.net_jobs.specs.Send.{given_of, send}
use Rattle.net_jobs.proofs.SendLemmas.{taken_outcome}

-- how many records are shown

head_size : (rest part : List ℕ) (len range : ℕ) → rest ≡ demo_head len range ++ part → 8 ≤ length rest
head_size rest part len range is = omega (arith, ap length is, length-append (demo_head len range) part)

rest_few : (at : ℕ) (rest : List ℕ) (rs : List (Shown Item)) → ShowsRest at rest rs → 8 * length rs ≤ length rest
rest_few at rest rs (inl e) =
    omega (arith, ap length e.shows, head_size rest e.part e.payload.len e.range e.payload.rest_is)
rest_few at rest rs (inr o) = omega (arith, ap length o.shows)

store_few : (padding : Padding) (at : ℕ) (ss : List StoreRecord) (rest : List ℕ) (rs : List (Shown Item))
    → ShowsStore padding at ss rest rs → 8 * length rs ≤ length (store_of ss ++ rest)
store_few padding at [] rest rs shows = rest_few at rest rs shows
store_few padding at (s ∷ ss) rest [] shows = absurd shows
store_few padding at (s ∷ ss) rest (r ∷ rs) shows =
    let own = demo_record s.range s.payload in
    let behind = store_few padding (at + (8 + length s.payload)) ss rest rs shows.1 in
    omega (
      arith,
      behind,
      ap length (append_assoc own (store_of ss) rest),
      length-append own (store_of ss ++ rest),
      length-demo_record s.range s.payload,
    )

pub settled_few : (padding : Padding) (h : List ℕ) (rs : List (Shown Item)) → DemoSettles padding h rs
    → 8 * length rs ≤ length h
settled_few padding h rs (rest, front) =
    omega (arith, store_few padding 0 front.whole rest rs front.shows, ap length front.parts)

-- a store of whole records is one store

same_record : (p q : StoreRecord) → p.range ≡ q.range → p.payload ≡ q.payload → p ≡ q
same_record p q range payload i = record { range = range i; payload = payload i }

same_store : (ps qs : List StoreRecord) (rest : List ℕ) → AllByRecursion IsStoreRecord ps → AllByRecursion IsStoreRecord qs
    → store_of ps ≡ store_of qs ++ rest → NoWholeRecord rest → (qs ≡ ps) × (rest ≡ [])
same_store [] [] rest p q is none = (refl, sym is)
same_store [] (q ∷ qs) rest p are is none =
    absurd (omega (
      arith,
      ap length is,
      length-append (store_of (q ∷ qs)) rest,
      length-append (demo_record q.range q.payload) (store_of qs),
      length-demo_record q.range q.payload,
    ))
same_store (p ∷ ps) [] rest are q is none = absurd (none p.range p.payload (store_of ps) are.0 (sym is))
same_store (p ∷ ps) (q ∷ qs) rest p_are q_are is none =
    let same = demo_record-front p.range q.range p.payload q.payload (store_of ps) (store_of qs ++ rest) p_are.0 q_are.0
    (is ∙ append_assoc (demo_record q.range q.payload) (store_of qs) rest) in
    let behind = same_store ps qs rest p_are.1 q_are.1 same.2 none in
    (ap (λ l. q ∷ l) behind.0 ∙ ap (λ r. r ∷ ps) (sym (same_record p q same.0 same.1)), behind.1)

-- what is shown of a packet

pub record IsGivenAs (given : Option PacketValue) (r : Shown Item) : Type 0 where
  pub good : IsGood r.item.found
  pub given_is : given_of r.item.found r.bytes ≡ given

nil≢cons : {x : ℕ} {xs : List ℕ} → [] ≡ x ∷ xs → ⊥
nil≢cons e = cc

no_packet : (v : PacketValue) (s : Shape) (tail : List ℕ) → IsPacket v s tail [] → ⊥
unfolding header_bytes
no_packet v s tail p = nil≢cons p.spelled

payload_given : (start range : ℕ) (payload : List ℕ) (given : Option PacketValue) (r : Shown Item)
    → IsPayloadOf payload given → ShowsPayload Drop start range payload r → IsGivenAs given r
payload_given start range [] None r is shows =
    record {
      good = subst (λ (s : Shown Item). IsGood s.item.found) (sym shows) tt;
      given_is = ap (λ (s : Shown Item). given_of s.item.found s.bytes) shows;
    }
payload_given start range [] (Some v) r (s, (tail, p)) shows = absurd (no_packet v s tail p)
payload_given start range (b ∷ bs) None r is shows = absurd cc
payload_given start range (b ∷ bs) (Some v) r (s, (tail, p)) (inl h) =
    let value = (reads_same Whole h.value v h.shape s h.tail tail (b ∷ bs) h.reads p).0 in
    let found : r.item.found ≡ Packet Whole h.shape (length (b ∷ bs)) = ap (λ (s : Shown Item). s.item.found) h.shows in
    record {
      good = subst IsGood (sym found) tt;
      given_is = ap (λ f. given_of f r.bytes) found
          ∙ lent_value-held Drop Whole start range (b ∷ bs) r h
          ∙ ap (λ w. Some w) value;
    }
payload_given start range (b ∷ bs) (Some v) r (s, (tail, p)) (inr h) =
    absurd (reads_some Whole v s tail (b ∷ bs) p h.none)

pub record AreGivenAs (packets : List (Option PacketValue)) (rs : List (Shown Item)) : Type 0 where
  pub good : AreGood rs
  pub given_are : given_all rs ≡ packets

store_given : (at : ℕ) (ss : List StoreRecord) (packets : List (Option PacketValue)) (rs : List (Shown Item))
    → HoldOneByOne ss packets → ShowsStore Drop at ss [] rs → AreGivenAs packets rs
store_given at [] [] rs hold (inl e) =
    absurd (omega (arith, head_size [] e.part e.payload.len e.range e.payload.rest_is))
store_given at [] [] rs hold (inr o) =
    record { good = subst AreGood (sym o.shows) tt; given_are = ap given_all o.shows }
store_given at [] (g ∷ gs) rs hold shows = absurd hold
store_given at (s ∷ ss) [] rs hold shows = absurd hold
store_given at (s ∷ ss) (g ∷ gs) [] hold shows = absurd shows
store_given at (s ∷ ss) (g ∷ gs) (r ∷ rs) hold shows =
    let own = payload_given (at + 8) s.range s.payload g r hold.0 shows.0 in
    let behind = store_given (at + (8 + length s.payload)) ss gs rs hold.1 shows.1 in
    record {
      good = (own.good, behind.good);
      given_are = ap (λ x. x ∷ given_all rs) own.given_is ∙ ap (λ l. g ∷ l) behind.given_are;
    }

pub sent_whole : (first : RtpFields) (stores : List StoreRecord) (packets : List (Option PacketValue))
    (rs : List (Shown Item)) (cut : Option Cut) → AllByRecursion IsStoreRecord stores → HoldOneByOne stores packets
    → DemoEnds Drop (store_of stores) rs cut → length (store_of stores) ≤ 2 ^ 40
    → outcome (send first) rs (end_of cut) ≡ going (capture_of first packets) tt
sent_whole first stores packets rs cut are hold (rest, front, cut_is) short =
    let same = same_store stores front.whole rest are front.are front.parts front.none in
    let shows : ShowsStore Drop 0 stores [] rs =
    subst (λ l. ShowsStore Drop 0 stores l rs) same.1
    (subst (λ ss. ShowsStore Drop 0 ss rest rs) same.0 front.shows) in
    let given = store_given 0 stores packets rs hold shows in
    let few = settled_few Drop (store_of stores) rs (rest, front) in
    ap (λ c. outcome (send first) rs (end_of c)) (cut_is ∙ ap (cut_at (length (store_of stores))) same.1)
    ∙ taken_outcome first rs Closed given.good (omega (arith, few, short)) tt
    ∙ ap (λ l. going (capture_of first l) tt) given.given_are
