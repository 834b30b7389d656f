-- Records that fall into groups which can be packets are merged so.
use Rattle.std.proofs.Common.{◌≡◌, ◌↔◌, ℕ, ◌+◌, ◌<◌, ◌≤◌, Bool, true, false, nat_le, ◌&&◌, not, ◌==◌, if◌then◌else◌, List, [], ◌∷◌, ◌++◌, length, flat_map, Option, None, Some, IfSome, Result, Ok, Err, refl, sym, ap, ◌∙◌, subst, append-nil, append_assoc, length-append, arith}
use Rattle.std.specs.List.{AllByRecursion}
use Rattle.std.proofs.lemmas.Bool.{eq-eqb, le-leb}
use Rattle.std.proofs.lemmas.Grind.{flat_map-append}
use Rattle.std.proofs.Math.Nat.{mul-le-mul_right}
use Rattle.job_loop.specs.Shown.{Shown}
use Rattle.job_loop.specs.Meaning.{going, adds, outcome}
use Rattle.job_loop.specs.declared.input_end.InputEnd.TheVariants.{Closed}
use Rattle.opus_toc.specs.Configuration.{samples_of}
use Rattle.opus_packet.specs.Value.{PacketValue, duration_of, max_duration}
use Rattle.opus_repack.specs.Joined.{IsSameKind}
use Rattle.opus_repack.proofs.JoinedLemmas.{duration-joined}
use Rattle.opus_words.specs.declared.form.Form.{Form}
use Rattle.pack_records.specs.declared.item.Found.{Found}
use Rattle.pack_records.specs.declared.item.Found.TheVariants.{Packet, Lost, Bad}
use Rattle.pack_records.specs.declared.item.Item.{Item}
use Rattle.pack_records.specs.Fits.{FoundFits}
use Rattle.pack_records.specs.Lent.{lent_value}
use Rattle.pack_records.proofs.LentLemmas.{lent_value-form}
use Rattle.pack_jobs.specs.declared.refusal.Why.{Why}
use Rattle.pack_jobs.specs.declared.refusal.Why.TheVariants.{MixedKind, TooLong}
use Rattle.pack_jobs.specs.Records.{record_bytes}
use Rattle.pack_jobs.specs.Merge.{no_packets, with_packet, takes_none, group_text, is_same_kind, put_behind, kept_of, group_goes, merge_put, merge_packet, merge_found, merge}
use Rattle.pack_jobs.specs.Groups.{Part, packets, lost, records_of, IsPacket, IsLost, IsClosedBy, AreGroups, IsCutInto, CanMerge, CanAllMerge, frames_of, packet_in, listed, values_of, merged_with, merged, texts_of, AreLent}
use Rattle.pack_jobs.proofs.GroupKinds.{merged-joined}
use Rattle.pack_jobs.proofs.GroupLemmas.{at, at-none, at-more, full-is, open-is, ended, stood, merge_written}

-- ---- packets that can be one go behind each other

kind-by : (c d : ℕ) (a b : Bool) → c ≡ d → a ≡ b → ((c == d) && (if a then b else not b)) ≡ true
kind-by c d true true same kind = ap (λ e. e && true) (eq-eqb c d same)
kind-by c d true false same kind = absurd cc
kind-by c d false true same kind = absurd cc
kind-by c d false false same kind = ap (λ e. e && true) (eq-eqb c d same)

kind-at : (v : PacketValue) (vs ws : List PacketValue) (w : PacketValue) → AllByRecursion (IsSameKind v) (vs ++ w ∷ ws)
    → IsSameKind v w
kind-at v [] ws w each = each.0
kind-at v (u ∷ vs) ws w each = kind-at v vs ws w each.1

-- the first of some packets that last no longer than may be don't either
lasts-first : (v : PacketValue) (vs ws : List PacketValue) (w : PacketValue)
    → duration_of (merged_with v (vs ++ w ∷ ws)) ≤ max_duration
    → duration_of (merged_with v (vs ++ w ∷ [])) ≤ max_duration
lasts-first v vs ws w lasts =
    let frames : frames_of (v ∷ (vs ++ w ∷ ws)) ≡ frames_of (v ∷ (vs ++ w ∷ [])) ++ frames_of ws =
    ap frames_of (sym (append_assoc (v ∷ vs) (w ∷ []) ws)) ∙ flat_map-append (λ (u : PacketValue). u.frames) (v ∷ (vs ++ w ∷ [])) ws in
    let count = ap length frames ∙ length-append (frames_of (v ∷ (vs ++ w ∷ []))) (frames_of ws) in
    let fewer : length (frames_of (v ∷ (vs ++ w ∷ []))) ≤ length (frames_of (v ∷ (vs ++ w ∷ ws))) = omega (arith, count) in
    let shorter = mul-le-mul_right (samples_of v.config) fewer in omega (arith, shorter, lasts)

put-by : (b c : Bool) → b ≡ true → c ≡ true
    → ◌≡◌ {A = Result (Unit {0}) Why} (if b then (if c then Ok tt else Err TooLong) else Err MixedKind) (Ok tt)
put-by true true kind lasts = refl
put-by true false kind lasts = absurd cc
put-by false c kind lasts = absurd cc

put-more : (vs ws : List PacketValue) (w : PacketValue) → CanMerge (vs ++ w ∷ ws) → put_behind (merged vs) w ≡ Ok tt
put-more [] ws w can = refl
put-more (v ∷ vs) ws w can =
    let m = merged_with v vs in
    let kind = kind-at v vs ws w can.0 in
    let same : IsSameKind m w = record { config = kind.config; stereo = kind.stereo } in
    let lasts = subst (λ u. duration_of u ≤ max_duration) (sym (merged-joined v vs w)) (lasts-first v vs ws w can.1) in
    put-by (is_same_kind m w) (nat_le (duration_of m + duration_of w) max_duration)
    (kind-by m.config w.config m.stereo w.stereo kind.config kind.stereo)
    (le-leb (duration_of m + duration_of w) max_duration
    (subst (λ n. n ≤ max_duration) (duration-joined m w same) lasts))

-- ---- the parts behind a run

-- the records of the parts are written so behind a group that is over
abbrev IsFresh : Form → Option ℕ → List Part → Type 0
IsFresh form most parts = (before : List ℕ) (count : ℕ)
    → ended form most (stood most before count []) (flat_map records_of parts) ≡ going (before ++ texts_of form parts) tt

-- and behind one that isn't, where they close it
abbrev IsBehind : Form → Option ℕ → List Part → Type 0
IsBehind form most parts = (before : List ℕ) (count : ℕ) (held : List (Shown Item)) → IfSome most (λ n. length held < n)
    → IsClosedBy most (length held) parts
    → ended form most (stood most before count held) (flat_map records_of parts)
    ≡ going (before ++ (group_text form (at most held) ++ texts_of form parts)) tt

text-next : (before group more : List ℕ) → (before ++ group) ++ more ≡ before ++ (group ++ more)
text-next before group more = append_assoc before group more

nothing-behind : (form : Form) (most : Option ℕ) → IsBehind form most []
nothing-behind form most before count held few closed =
    ap (λ l. going (before ++ l) tt) (sym (append-nil (group_text form (at most held))))

loss-step : (form : Form) (most : Option ℕ) (parts : List Part) (r : Shown Item) (found : Found) → IsLost found
    → IsFresh form most parts → (before : List ℕ) (count : ℕ) (held : List (Shown Item))
    → ended form most (adds before (merge_found form most (kept_of count (at most held)) r found)) (flat_map records_of parts)
    ≡ going (before ++ (group_text form (at most held) ++ (record_bytes form r.item.range [] ++ texts_of form parts))) tt
loss-step form most parts r (Packet framing shape size) gone fresh before count held = absurd gone
loss-step form most parts r Lost gone fresh before count held =
    let group = group_text form (at most held) in
    let own = record_bytes form r.item.range [] in
    ap (λ g. ended form most (going (before ++ (group ++ own)) (kept_of (count + 1) g)) (flat_map records_of parts)) (at-none most)
    ∙ fresh (before ++ (group ++ own)) (count + 1)
    ∙ ap (λ l. going l tt)
    (text-next before (group ++ own) (texts_of form parts)
    ∙ ap (λ l. before ++ l) (text-next group own (texts_of form parts)))
loss-step form most parts r (Bad fault) gone fresh before count held = absurd gone

loss-behind : (form : Form) (most : Option ℕ) (parts : List Part) (r : Shown Item) → IsLost r.item.found
    → IsFresh form most parts → IsBehind form most (lost r ∷ parts)
loss-behind form most parts r gone fresh before count held few closed =
    loss-step form most parts r r.item.found gone fresh before count held

never-closed : (most : Option ℕ) (n : ℕ) → IfSome most (λ k. n < k) → most ≡ Some n → ⊥
never-closed None n few is = absurd cc
never-closed (Some k) n few is = absurd (omega (arith, few, ap (λ o. unwrap o) is))
  where
    unwrap : Option ℕ → ℕ
    unwrap None = 0
    unwrap (Some m) = m

packets-behind : (form : Form) (most : Option ℕ) (parts : List Part) (rs : List (Shown Item))
    → IsBehind form most (packets rs ∷ parts)
packets-behind form most parts rs before count held few closed = absurd (never-closed most (length held) few closed)

-- ---- the packets of a group

-- what is to be shown of packets behind those of an open group
abbrev IsGrouped : Form → Option ℕ → List Part → List (Shown Item) → Type 0
IsGrouped form most parts rs = (before : List ℕ) (count : ℕ) (held : List (Shown Item)) → IfSome most (λ n. length held < n)
    → IfSome most (λ n. length (held ++ rs) ≤ n) → CanMerge (values_of (held ++ rs)) → IsClosedBy most (length (held ++ rs)) parts
    → ended form most (stood most before count held) (rs ++ flat_map records_of parts)
    ≡ going (before ++ (group_text form (at most (held ++ rs)) ++ texts_of form parts)) tt

none-grouped : (form : Form) (most : Option ℕ) (parts : List Part) → IsBehind form most parts → IsGrouped form most parts []
none-grouped form most parts behind before count held few within can closed =
    subst (λ l. IsClosedBy most (length l) parts
    → ended form most (stood most before count held) (flat_map records_of parts)
    ≡ going (before ++ (group_text form (at most l) ++ texts_of form parts)) tt)
    (sym (append-nil held)) (behind before count held few) closed

-- a group that takes no more is over
over : (most : Option ℕ) (more rs : List (Shown Item)) → most ≡ Some (length more)
    → IfSome most (λ n. length (more ++ rs) ≤ n) → rs ≡ []
over most more [] full within = refl
over most more (r ∷ rs) full within =
    let most_is : length (more ++ r ∷ rs) ≤ length more = subst (λ o. IfSome o (λ n. length (more ++ r ∷ rs) ≤ n)) full within in
    absurd (omega (arith, most_is, length-append more (r ∷ rs)))

first-within : (most : Option ℕ) (more rs : List (Shown Item)) → IfSome most (λ n. length (more ++ rs) ≤ n)
    → IfSome most (λ n. length more ≤ n)
first-within None more rs within = tt
first-within (Some n) more rs within = omega (arith, within, length-append more rs)

goes-on : (form : Form) (most : Option ℕ) (parts : List Part) (rs more : List (Shown Item)) (b : Bool) (before : List ℕ) (count : ℕ)
    → takes_none (at most more).left ≡ b → IsFresh form most parts → IsGrouped form most parts rs
    → IfSome most (λ n. length (more ++ rs) ≤ n) → CanMerge (values_of (more ++ rs))
    → IsClosedBy most (length (more ++ rs)) parts
    → ended form most (going (before ++ (if b then group_text form (at most more) else []))
    (kept_of count (if b then no_packets most else at most more))) (rs ++ flat_map records_of parts)
    ≡ going (before ++ (group_text form (at most (more ++ rs)) ++ texts_of form parts)) tt
goes-on form most parts rs more true before count full fresh next within can closed =
    let group = group_text form (at most more) in
    let none = over most more rs (full-is most (length more) full (first-within most more rs within)) within in
    ap (λ l. ended form most (going (before ++ group) (kept_of count (no_packets most))) (l ++ flat_map records_of parts)) none
    ∙ ap (λ g. ended form most (going (before ++ group) (kept_of count g)) (flat_map records_of parts)) (at-none most)
    ∙ fresh (before ++ group) count
    ∙ ap (λ l. going l tt) (text-next before group (texts_of form parts))
    ∙ ap (λ l. going (before ++ (group_text form (at most l) ++ texts_of form parts)) tt)
    (sym (ap (λ l. more ++ l) none ∙ append-nil more))
goes-on form most parts rs more false before count less fresh next within can closed =
    ap (λ l. ended form most (going l (kept_of count (at most more))) (rs ++ flat_map records_of parts)) (append-nil before)
    ∙ next before count more (open-is most (length more) less (first-within most more rs within)) within can closed

packet-put : (form : Form) (most : Option ℕ) (parts : List Part) (rs held : List (Shown Item)) (r : Shown Item)
    (v : PacketValue) (before : List ℕ) (count : ℕ) (res : Result (Unit {0}) Why) → res ≡ Ok tt
    → packet_in r.item.found r.bytes ≡ v ∷ [] → IsFresh form most parts → IsGrouped form most parts rs
    → IfSome most (λ n. length (held ++ r ∷ rs) ≤ n) → CanMerge (values_of (held ++ r ∷ rs))
    → IsClosedBy most (length (held ++ r ∷ rs)) parts
    → ended form most (adds before (merge_put form most (kept_of count (at most held)) r.item
    (with_packet (at most held) v r.item.range) res)) (rs ++ flat_map records_of parts)
    ≡ going (before ++ (group_text form (at most (held ++ r ∷ rs)) ++ texts_of form parts)) tt
packet-put form most parts rs held r v before count (Err why) put value fresh next within can closed = absurd cc
packet-put form most parts rs held r v before count (Ok done) put value fresh next within can closed =
    let more = held ++ r ∷ [] in
    let all : more ++ rs ≡ held ++ r ∷ rs = append_assoc held (r ∷ []) rs in
    ap (λ g. ended form most (adds before (group_goes form most (count + 1) g)) (rs ++ flat_map records_of parts)) (at-more most held r v value)
    ∙ goes-on form most parts rs more (takes_none (at most more).left) before (count + 1) refl fresh next
    (subst (λ l. IfSome most (λ n. length l ≤ n)) (sym all) within)
    (subst (λ l. CanMerge (values_of l)) (sym all) can)
    (subst (λ l. IsClosedBy most (length l) parts) (sym all) closed)
    ∙ ap (λ l. going (before ++ (group_text form (at most l) ++ texts_of form parts)) tt) all

values-at : (held rs : List (Shown Item)) (r : Shown Item) (v : PacketValue) → packet_in r.item.found r.bytes ≡ v ∷ []
    → values_of (held ++ r ∷ rs) ≡ values_of held ++ v ∷ values_of rs
values-at held rs r v is =
    flat_map-append (λ r. packet_in r.item.found r.bytes) held (r ∷ rs)
    ∙ ap (λ l. values_of held ++ (l ++ values_of rs)) is

packet-step : (form : Form) (most : Option ℕ) (parts : List Part) (rs held : List (Shown Item)) (r : Shown Item) (found : Found)
    (before : List ℕ) (count : ℕ) → r.item.found ≡ found → IsPacket found → FoundFits found r.bytes
    → IsFresh form most parts → IsGrouped form most parts rs
    → IfSome most (λ n. length (held ++ r ∷ rs) ≤ n) → CanMerge (values_of (held ++ r ∷ rs))
    → IsClosedBy most (length (held ++ r ∷ rs)) parts
    → ended form most (adds before (merge_found form most (kept_of count (at most held)) r found)) (rs ++ flat_map records_of parts)
    ≡ going (before ++ (group_text form (at most (held ++ r ∷ rs)) ++ texts_of form parts)) tt
packet-step form most parts rs held r (Packet framing shape size) before count found_is sent fits fresh next within can closed =
    let v = fits.value in
    let lent : lent_value framing r.bytes ≡ Some v =
    ap (lent_value framing) fits.bytes_are ∙ lent_value-form framing v fits.tail fits.is_value fits.small in
    let value : packet_in r.item.found r.bytes ≡ v ∷ [] = ap (λ f. packet_in f r.bytes) found_is ∙ ap listed lent in
    let k = kept_of count (at most held) in
    ap (λ o. ended form most (adds before (merge_packet form most k r.item o)) (rs ++ flat_map records_of parts)) lent
    ∙ packet-put form most parts rs held r v before count (put_behind (merged (values_of held)) v)
    (put-more (values_of held) (values_of rs) v (subst CanMerge (values-at held rs r v value) can))
    value fresh next within can closed
packet-step form most parts rs held r Lost before count found_is sent fits fresh next within can closed = absurd sent
packet-step form most parts rs held r (Bad fault) before count found_is sent fits fresh next within can closed = absurd sent

some-grouped : (form : Form) (most : Option ℕ) (parts : List Part) (rs : List (Shown Item))
    → AllByRecursion (λ r. IsPacket r.item.found) rs → AreLent rs → IsFresh form most parts → IsBehind form most parts
    → IsGrouped form most parts rs
some-grouped form most parts [] each lent fresh behind = none-grouped form most parts behind
some-grouped form most parts (r ∷ rs) each lent fresh behind = λ before count held few within can closed.
    packet-step form most parts rs held r r.item.found before count refl each.0 lent.0 fresh
    (some-grouped form most parts rs each.1 lent.1 fresh behind) within can closed

-- ---- all parts

lent-left : (rs ss : List (Shown Item)) → AreLent (rs ++ ss) → AreLent rs
lent-left [] ss lent = tt
lent-left (r ∷ rs) ss lent = (lent.0, lent-left rs ss lent.1)

lent-right : (rs ss : List (Shown Item)) → AreLent (rs ++ ss) → AreLent ss
lent-right [] ss lent = lent
lent-right (r ∷ rs) ss lent = lent-right rs ss lent.1

none-few : (most : Option ℕ) → IfSome most (λ n. 1 ≤ n) → IfSome most (λ n. 0 < n)
none-few None some = tt
none-few (Some n) some = omega (arith, some)

all-merged : (form : Form) (most : Option ℕ) (parts : List Part) → IfSome most (λ n. 1 ≤ n) → AreGroups most parts
    → CanAllMerge parts → AreLent (flat_map records_of parts) → IsFresh form most parts × IsBehind form most parts
all-merged form most [] some groups can lent =
    (λ before count. nothing-behind form most before count [] (none-few most some) tt, nothing-behind form most)
all-merged form most (lost r ∷ parts) some groups can lent =
    let behind = loss-behind form most parts r groups.0 (all-merged form most parts some groups.1 can.1 lent.1).0 in
    (λ before count. behind before count [] (none-few most some) tt, behind)
all-merged form most (packets rs ∷ parts) some groups can lent =
    let both = all-merged form most parts some groups.2 can.1 (lent-right rs (flat_map records_of parts) lent) in (
      λ before count. some-grouped form most parts rs groups.0.each (lent-left rs (flat_map records_of parts) lent) both.0 both.1
          before count [] (none-few most some) groups.0.within can.0 groups.1,
      packets-behind form most parts rs,
    )

-- where merge refuses nothing

abbrev pub IsMergedTo : Form → Option ℕ → List (Shown Item) → List ℕ → Type 0
IsMergedTo form most rs text =
    (parts : List Part) × IsCutInto most rs parts × CanAllMerge parts × (text ≡ texts_of form parts)

merge_grouped : (form : Form) (most : Option ℕ) (rs : List (Shown Item)) (text : List ℕ) → IfSome most (λ n. 1 ≤ n)
    → AreLent rs → IsMergedTo form most rs text → outcome (merge form most) rs Closed ≡ going text tt
merge_grouped form most rs text some lent (parts, cut, can, text_is) =
    let both = all-merged form most parts some cut.groups can (subst AreLent cut.all lent) in
    ap (λ l. outcome (merge form most) l Closed) cut.all
    ∙ ap (λ g. ended form most (going [] (kept_of 0 g)) (flat_map records_of parts)) (at-none most)
    ∙ both.0 [] 0 ∙ ap (λ l. going l tt) (sym text_is)

pub merge_all : (form : Form) (most : Option ℕ) (rs : List (Shown Item)) (text : List ℕ) → IfSome most (λ n. 1 ≤ n)
    → AreLent rs → (outcome (merge form most) rs Closed ≡ going text tt) ↔ IsMergedTo form most rs text
merge_all form most rs text some lent =
    (merge_written form most rs text some lent, merge_grouped form most rs text some lent)
