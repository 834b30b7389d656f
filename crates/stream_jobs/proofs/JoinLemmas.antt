-- Groups of records: one record more, and a full group as it is written.
use Rattle.std.proofs.Common.{◌≡◌, ℕ, ◌+◌, ◌-◌, ◌^◌, min, ◌<◌, ◌≤◌, Bool, true, false, nat_lt, if◌then◌else◌, List, [], ◌∷◌, ◌++◌, length, flat_map, bit_xor, Option, None, Some, Result, Ok, Err, OnOk, refl, ap, sym, subst, ◌∙◌, arith, length-append}
use Rattle.std.proofs.lemmas.Bool.{ltb-true, lt-ltb}
use Rattle.std.proofs.lemmas.List.{append-nil}
use Rattle.std.specs.Io.KnownBytes.{Appends}
use Rattle.job_loop.specs.Shown.{Shown}
use Rattle.job_loop.specs.Telling.{Goes}
use Rattle.opus_packet.specs.declared.fault.Fault.{Fault}
use Rattle.opus_packet.specs.Value.{PacketValue}
use Rattle.opus_packet.specs.Canonical.{canonical, canonical_self_delimited}
use Rattle.opus_multi.specs.Forms.{canonical_multistream}
use Rattle.opus_multi.proofs.WriteLemmas.{forms_push}
use Rattle.pack_records.specs.declared.item.Item.{Item}
use Rattle.rec_store.specs.DemoStore.{demo_head}
use Rattle.job_ends.specs.Refusal.{told}
use Rattle.stream_records.proofs.TurnLemmas.{flat_push}
use Rattle.stream_jobs.specs.declared.join.Join.{Join}
use Rattle.stream_jobs.specs.Join.{Part, part_of, values_of, ranges_of, packets_in, xor_behind, xor_of, joined, differs, differs_in, full_text, next_group, JoinKept, kept_of, group_goes, join_held, held_in}
use Rattle.stream_jobs.specs.JoinParts.{form_at, samples_in}
use Rattle.stream_jobs.specs.JoinStands.{IsFirst, GroupStands, Takes, JoinStands}

-- ---- one record more

pub xor_push : (n : ℕ) (ms : List ℕ) (m : ℕ) → xor_behind n (ms ++ m ∷ []) ≡ bit_xor (xor_behind n ms) m
xor_push n [] m = refl
xor_push n (k ∷ ks) m = xor_push (bit_xor n k) ks m

pub ranges_push : (group : List Part) (p : Part) → ranges_of (group ++ p ∷ []) ≡ ranges_of group ++ p.range ∷ []
ranges_push [] p = refl
ranges_push (q ∷ qs) p = ap (λ l. q.range ∷ l) (ranges_push qs p)

pub values_push : (group : List Part) (p : Part) → values_of (group ++ p ∷ []) ≡ values_of group ++ p.value ∷ []
values_push [] p = refl
values_push (q ∷ qs) p = ap (λ l. q.value ∷ l) (values_push qs p)

pub packets_push : (vs : List (Option PacketValue)) (v : PacketValue)
    → packets_in (vs ++ Some v ∷ []) ≡ packets_in vs ++ v ∷ []
packets_push [] v = refl
packets_push (Some w ∷ vs) v = ap (λ l. w ∷ l) (packets_push vs v)
packets_push (None ∷ vs) v = packets_push vs v

pub packets_lost : (vs : List (Option PacketValue)) → packets_in (vs ++ None ∷ []) ≡ packets_in vs
packets_lost [] = refl
packets_lost (Some w ∷ vs) = ap (λ l. w ∷ l) (packets_lost vs)
packets_lost (None ∷ vs) = packets_lost vs

pub group_xor : (group : List Part) (v : Option PacketValue) (range : ℕ)
    → xor_of (ranges_of (group ++ part_of v range ∷ [])) ≡ bit_xor (xor_of (ranges_of group)) range
group_xor group v range =
    ap xor_of (ranges_push group (part_of v range)) ∙ xor_push 0 (ranges_of group) range

-- the self-delimited forms of one record more
pub fronts_push : (vs : List (Option PacketValue)) (v : Option PacketValue)
    → flat_map canonical_self_delimited (packets_in (vs ++ v ∷ []))
    ≡ flat_map canonical_self_delimited (packets_in vs) ++ form_at false v
fronts_push vs (Some v) =
    ap (flat_map canonical_self_delimited) (packets_push vs v) ∙ flat_push canonical_self_delimited (packets_in vs) v
fronts_push vs None = ap (flat_map canonical_self_delimited) (packets_lost vs) ∙ sym (append-nil _)

-- ---- lost records

-- behind a lost record only lost ones stand
lost_first : (p : Part) (ps : List Part) → differs_in (p ∷ ps) None ≡ None → p.value ≡ None
lost_first p ps same = by p.value (length (p ∷ ps)) same where
  by : (v : Option PacketValue) (at : ℕ) → differs v at None ≡ None → v ≡ None
  by None at same = refl
  by (Some v) at same = let e = same in cc

packet_first : (p : Part) (ps : List Part) (w : PacketValue) → differs_in (p ∷ ps) (Some w) ≡ None → p.value ≡ None → ⊥
packet_first p ps w same none = let e = rw none at same in cc

samples_none : (v : Option PacketValue) → samples_in v ≡ None → v ≡ None
samples_none None e = refl
samples_none (Some v) e = let f = e in cc

-- no packets stand before a lost record that is taken
pub none_before : (j : Join) (group : List Part) → Takes j group None → packets_in (values_of group) ≡ []
none_before j [] takes = refl
none_before j (p ∷ ps) takes =
    takes.stands.lost (takes.stands.first ∙ ap samples_in (lost_first p ps takes.same))

-- ---- the object behind one record more

first_push : (j new : Join) (group : List Part) (v : Option PacketValue) (range : ℕ) → GroupStands j group
    → (j.taken ≡ 0 → new.first ≡ samples_in v) → (1 ≤ j.taken → new.first ≡ j.first)
    → IsFirst new.first (group ++ part_of v range ∷ [])
first_push j new [] v range stands is stays = is stands.taken
first_push j new (p ∷ ps) v range stands is stays = stays (omega (arith, stands.taken)) ∙ stands.first

lost_push : (j new : Join) (group : List Part) (v : Option PacketValue) (range : ℕ) → Takes j group v
    → (j.taken ≡ 0 → new.first ≡ samples_in v) → (1 ≤ j.taken → new.first ≡ j.first) → new.first ≡ None
    → packets_in (values_of (group ++ part_of v range ∷ [])) ≡ []
lost_push j new [] v range takes is stays none =
    ap (λ w. packets_in (w ∷ [])) (samples_none v (sym (is takes.stands.taken) ∙ none))
lost_push j new (p ∷ ps) None range takes is stays none =
    ap packets_in (values_push (p ∷ ps) (part_of None range)) ∙ packets_lost (values_of (p ∷ ps))
    ∙ none_before j (p ∷ ps) takes
lost_push j new (p ∷ ps) (Some w) range takes is stays none =
    let first : j.first ≡ None = sym (stays (omega (arith, takes.stands.taken))) ∙ none in
    absurd (packet_first p ps w takes.same (samples_none p.value (sym takes.stands.first ∙ first)))

pub pushed : (j new : Join) (group : List Part) (v : Option PacketValue) (range : ℕ) → Takes j group v
    → new.taken ≡ j.taken + 1 → new.range ≡ bit_xor j.range range
    → (j.taken ≡ 0 → new.first ≡ samples_in v) → (1 ≤ j.taken → new.first ≡ j.first)
    → new.bytes.items ≡ j.bytes.items ++ form_at false v
    → GroupStands new (group ++ part_of v range ∷ [])
pushed j new group v range takes taken ranges is stays bytes = record {
  taken = omega (arith, taken, takes.stands.taken, length-append group (part_of v range ∷ []));
  first = first_push j new group v range takes.stands is stays;
  lost = λ none. lost_push j new group v range takes is stays none;
  range = ranges ∙ ap (λ n. bit_xor n range) takes.stands.range ∙ sym (group_xor group v range);
  bytes = bytes ∙ ap (λ l. l ++ form_at false v) takes.stands.bytes
      ∙ sym (ap (λ vs. flat_map canonical_self_delimited (packets_in vs)) (values_push group (part_of v range))
      ∙ fronts_push (values_of group) v);
}

-- ---- full groups

full_by : (b : Bool) (text : List ℕ) → b ≡ false → (if b then [] else text) ≡ text
full_by true text e = let f = e in cc
full_by false text e = refl

lt-false : (n m : ℕ) → m ≤ n → nat_lt n m ≡ false
lt-false n m le = by (nat_lt n m) refl where
  by : (b : Bool) → nat_lt n m ≡ b → b ≡ false
  by true e = absurd (omega (arith, ltb-true n m e, le))
  by false e = refl

pub open_next : (streams : ℕ) (group : List Part) → length group < streams → next_group streams group ≡ group
open_next streams group below = rw (lt-ltb (length group) streams below) refl

pub open_text : (streams : ℕ) (group : List Part) → length group < streams → full_text streams group ≡ []
open_text streams group below = rw (lt-ltb (length group) streams below) refl

pub full_next : (streams : ℕ) (group : List Part) → streams ≤ length group → next_group streams group ≡ []
full_next streams group full = rw (lt-false (length group) streams full) refl

pub full_is : (streams : ℕ) (group : List Part) → streams ≤ length group → full_text streams group ≡ joined group
full_is streams group full = rw (lt-false (length group) streams full) refl

-- the forms of all but the last, and that of the last, are the multistream packet
whole_bytes : (j : Join) (group : List Part) (v : Option PacketValue) (range : ℕ) → Takes j group v
    → j.bytes.items ++ form_at true v ≡ canonical_multistream (packets_in (values_of (group ++ part_of v range ∷ [])))
whole_bytes j group (Some v) range takes =
    ap (λ l. l ++ canonical v) takes.stands.bytes
    ∙ sym (ap (λ vs. canonical_multistream (packets_in vs)) (values_push group (part_of (Some v) range))
    ∙ ap canonical_multistream (packets_push (values_of group) v)
    ∙ forms_push canonical_self_delimited canonical (packets_in (values_of group)) v)
whole_bytes j group None range takes =
    let none = none_before j group takes in
    append-nil j.bytes.items ∙ takes.stands.bytes ∙ ap (flat_map canonical_self_delimited) none
    ∙ sym (ap (λ vs. canonical_multistream (packets_in vs)) (values_push group (part_of None range))
    ∙ ap canonical_multistream (packets_lost (values_of group) ∙ none))

pub pushed_open : (j new : Join) (streams : ℕ) (group : List Part) (v : Option PacketValue) (range : ℕ) → Takes j group v
    → j.taken + 1 < streams → new.taken ≡ j.taken + 1 → new.range ≡ bit_xor j.range range
    → (j.taken ≡ 0 → new.first ≡ samples_in v) → (1 ≤ j.taken → new.first ≡ j.first)
    → new.bytes.items ≡ j.bytes.items ++ form_at false v
    → GroupStands new (next_group streams (group ++ part_of v range ∷ []))
pushed_open j new streams group v range takes below taken ranges is stays bytes =
    let all = group ++ part_of v range ∷ [] in
    subst (GroupStands new)
    (sym (open_next streams all (omega (arith, below, takes.stands.taken, length-append group (part_of v range ∷ [])))))
    (pushed j new group v range takes taken ranges is stays bytes)

pub closed : (j : Join) (group : List Part) (v : Option PacketValue) (range ranges len : ℕ) (bytes : List ℕ)
    → Takes j group v → j.streams ≤ j.taken + 1 → ranges ≡ bit_xor j.range range → len ≡ length bytes
    → bytes ≡ j.bytes.items ++ form_at true v
    → demo_head len ranges ++ bytes ≡ full_text j.streams (group ++ part_of v range ∷ [])
unfolding joined
closed j group v range ranges len bytes takes full are size is =
    let all = group ++ part_of v range ∷ [] in
    let xor : ranges ≡ xor_of (ranges_of all) =
    are ∙ ap (λ n. bit_xor n range) takes.stands.range ∙ sym (group_xor group v range) in
    let whole : bytes ≡ canonical_multistream (packets_in (values_of all)) = is ∙ whole_bytes j group v range takes in
    rw (size, xor, whole) (sym (full_is j.streams all (omega (arith, full, takes.stands.taken, length-append group (part_of v range ∷ [])))))

-- ---- what becomes of a record that is taken

pub held_goes : (streams : ℕ) (k : JoinKept) (item : Item) (held : Result (Option PacketValue) Fault) (v : Option PacketValue)
    → held ≡ Ok v → differs_in k.group v ≡ None → join_held streams k item held
    ≡ group_goes streams (k.count + 1) item.place (k.group ++ part_of v item.range ∷ [])
held_goes streams k item held v is same = rw (is, same) refl

told_next : (n : ℕ) → min (told n + 1) (2 ^ 64 - 1) ≡ told (n + 1)
told_next n = omega arith

pub none_by : {A : Type 0} (o : Option A) → ((a : A) → o ≡ Some a → ⊥) → o ≡ None
none_by None not = refl
none_by (Some a) not = absurd (not a refl)

pub on_ok : {T E P : Type 0} (r : Result T E) (t : T) → r ≡ Ok t → OnOk r P → P
on_ok (Ok u) t is p = p
on_ok (Err e) t is p = let f = is in cc

pub take_goes : (j new : Join) (k : JoinKept) (r : Shown Item) (item : Item) (bytes : List ℕ) (v : Option PacketValue)
    (before after : Option (List ℕ)) → JoinStands j k → item ≡ r.item → bytes ≡ r.bytes → held_in item.found bytes ≡ Ok v
    → differs_in k.group v ≡ None → new.count ≡ min (j.count + 1) (2 ^ 64 - 1) → new.place ≡ item.place
    → GroupStands new (next_group j.streams (k.group ++ part_of v item.range ∷ []))
    → Appends before after (full_text j.streams (k.group ++ part_of v item.range ∷ []))
    → Goes (join_held j.streams k r.item (held_in r.item.found r.bytes)) (JoinStands new) before after
take_goes j new k r item bytes v before after stands is are held same count place group written =
    let all = k.group ++ part_of v item.range ∷ [] in
    record {
      text = full_text j.streams all;
      kept = kept_of (k.count + 1) item.place (next_group j.streams all);
      step_is = rw (sym is, sym are) (held_goes j.streams k item (held_in item.found bytes) v held same);
      stands = record {
        count = count ∙ ap (λ n. min (n + 1) (2 ^ 64 - 1)) stands.count ∙ told_next k.count;
        place = place;
        group = group;
      };
      written = written;
    }
