-- What merge makes of records, told by their groups.
use Rattle.std.proofs.Common.{◌≡◌, ℕ, ◌+◌, ◌-◌, ◌<◌, ◌≤◌, Bool, true, false, if◌then◌else◌, List, [], ◌∷◌, ◌++◌, length, flat_map, Option, None, Some, IfSome, option_map, Result, Ok, Err, refl, sym, ap, ◌∙◌, subst, append-nil, append_assoc, length-append, eqb-true, arith}
use Rattle.std.specs.List.{AllByRecursion}
use Rattle.std.proofs.lemmas.Bool.{eqb-false}
use Rattle.std.proofs.lemmas.List.{flat_map_more}
use Rattle.std.proofs.lemmas.Grind.{flat_map-append}
use Rattle.job_loop.specs.Shown.{Shown}
use Rattle.job_loop.specs.Meaning.{Run, going, broke, adds, runs, closes, outcome}
use Rattle.job_loop.specs.declared.input_end.InputEnd.TheVariants.{Closed}
use Rattle.opus_packet.specs.Value.{PacketValue, IsPacketValue}
use Rattle.opus_repack.specs.Collected.{with_frames}
use Rattle.opus_words.specs.declared.form.Form.{Form}
use Rattle.pack_records.specs.declared.item.Found.{Found}
use Rattle.pack_records.specs.declared.item.Found.TheVariants.{Packet, Lost, Bad}
use Rattle.pack_records.specs.declared.item.Item.{Item}
use Rattle.pack_records.specs.Fits.{FoundFits}
use Rattle.pack_records.specs.Lent.{lent_value}
use Rattle.pack_records.proofs.LentLemmas.{lent_value-form}
use Rattle.pack_jobs.specs.declared.refusal.Why.{Why}
use Rattle.pack_jobs.specs.Refusal.{refusal_at, Refusal}
use Rattle.job_ends.specs.Refusal.{told, refusal_of}
use Rattle.pack_jobs.specs.Records.{record_bytes}
use Rattle.pack_jobs.specs.Merge.{Group, group_of, no_packets, with_packet, takes_none, group_text, put_behind, MergeKept, kept_of, group_goes, merge_put, merge_packet, merge_found, merge}
use Rattle.pack_jobs.specs.Groups.{Part, packets, lost, records_of, IsPacket, IsLost, IsClosedBy, AreGroups, IsCutInto, CanMerge, CanAllMerge, packet_in, listed, values_of, merged, last_range, texts_of, AreLent}
use Rattle.pack_jobs.proofs.GroupKinds.{can-more}
use Rattle.job_loop.proofs.RunLemmas.{runs-broke}
use Rattle.job_ends.proofs.RunLemmas.{going-text, going≢broke}

-- ---- the group of some packets

abbrev pub at : Option ℕ → List (Shown Item) → Group
at most rs = group_of (merged (values_of rs)) (option_map (λ n. n - length rs) most) (last_range rs)

pub at-none : (most : Option ℕ) → no_packets most ≡ at most []
at-none None = refl
at-none (Some n) = ap (λ m. group_of None (Some m) 0) (omega arith)

values-more : (rs : List (Shown Item)) (r : Shown Item) (v : PacketValue) → packet_in r.item.found r.bytes ≡ v ∷ []
    → values_of (rs ++ r ∷ []) ≡ values_of rs ++ v ∷ []
values-more rs r v is =
    flat_map-append (λ r. packet_in r.item.found r.bytes) rs (r ∷ [])
    ∙ ap (λ l. values_of rs ++ l) (append-nil (packet_in r.item.found r.bytes) ∙ is)

merged-more : (vs : List PacketValue) (v : PacketValue) → Some (with_frames (merged vs) v) ≡ merged (vs ++ v ∷ [])
merged-more [] v =
    ap (λ fs. Some (record { config = v.config; stereo = v.stereo; frames = fs })) (sym (append-nil v.frames))
merged-more (w ∷ ws) v =
    ap (λ fs. Some (record { config = w.config; stereo = w.stereo; frames = fs }))
    (flat_map_more (λ (u : PacketValue). u.frames) w.frames ws v)

left-more : (most : Option ℕ) (n m : ℕ) → m ≡ n + 1
    → option_map (λ k. k - 1) (option_map (λ k. k - n) most) ≡ option_map (λ k. k - m) most
left-more None n m is = refl
left-more (Some k) n m is = ap (λ l. Some l) (omega arith)

last-more : (rs : List (Shown Item)) (r : Shown Item) → r.item.range ≡ last_range (rs ++ r ∷ [])
last-more [] r = refl
last-more (s ∷ []) r = refl
last-more (s ∷ t ∷ rs) r = last-more (t ∷ rs) r

pub length-more : (rs : List (Shown Item)) (r : Shown Item) → length (rs ++ r ∷ []) ≡ length rs + 1
length-more rs r = length-append rs (r ∷ [])

pub at-more : (most : Option ℕ) (rs : List (Shown Item)) (r : Shown Item) (v : PacketValue)
    → packet_in r.item.found r.bytes ≡ v ∷ []
    → with_packet (at most rs) v r.item.range ≡ at most (rs ++ r ∷ [])
at-more most rs r v is =
    ap (λ o. group_of o (option_map (λ k. k - 1) (option_map (λ k. k - length rs) most)) r.item.range)
    (merged-more (values_of rs) v ∙ ap merged (sym (values-more rs r v is)))
    ∙ ap (λ l. group_of (merged (values_of (rs ++ r ∷ []))) l r.item.range)
    (left-more most (length rs) (length (rs ++ r ∷ [])) (length-more rs r))
    ∙ ap (λ n. group_of (merged (values_of (rs ++ r ∷ []))) (option_map (λ k. k - length (rs ++ r ∷ [])) most) n)
    (last-more rs r)

-- it takes no more exactly where it has all packets that it may have
pub full-is : (most : Option ℕ) (n : ℕ) → takes_none (option_map (λ k. k - n) most) ≡ true → IfSome most (λ k. n ≤ k)
    → most ≡ Some n
full-is None n full within = absurd cc
full-is (Some k) n full within =
    let none = eqb-true (k - n) 0 full in ap (λ l. Some l) (omega arith)

pub open-is : (most : Option ℕ) (n : ℕ) → takes_none (option_map (λ k. k - n) most) ≡ false → IfSome most (λ k. n ≤ k)
    → IfSome most (λ k. n < k)
open-is None n held within = tt
open-is (Some k) n held within = let some = eqb-false (k - n) 0 held in omega (arith, some, within)

-- ---- the parts of records behind an open group

-- the open group's packets, if it has some, and other parts
abbrev opened : List (Shown Item) → List Part → List Part
opened [] parts = parts
opened (r ∷ rs) parts = packets (r ∷ rs) ∷ parts

opened-all : (rs : List (Shown Item)) (parts : List Part)
    → flat_map records_of (opened rs parts) ≡ rs ++ flat_map records_of parts
opened-all [] parts = refl
opened-all (r ∷ rs) parts = refl

opened-text : (form : Form) (most : Option ℕ) (rs : List (Shown Item)) (parts : List Part)
    → texts_of form (opened rs parts) ≡ group_text form (at most rs) ++ texts_of form parts
opened-text form most [] parts = refl
opened-text form most (r ∷ rs) parts = refl

-- packets that can be an open group's: fewer than the bound, or as many
record IsOpen (most : Option ℕ) (rs : List (Shown Item)) : Type 0 where
  each : AllByRecursion (λ r. IsPacket r.item.found) rs
  within : IfSome most (λ n. length rs < n)
  can : CanMerge (values_of rs)

record IsWithin (most : Option ℕ) (rs : List (Shown Item)) : Type 0 where
  each : AllByRecursion (λ r. IsPacket r.item.found) rs
  within : IfSome most (λ n. length rs ≤ n)
  can : CanMerge (values_of rs)

weaker : (most : Option ℕ) (n : ℕ) → IfSome most (λ k. n < k) → IfSome most (λ k. n ≤ k)
weaker None n within = tt
weaker (Some k) n within = omega (arith, within)

next-within : (most : Option ℕ) (n m : ℕ) → m ≡ n + 1 → IfSome most (λ k. n < k) → IfSome most (λ k. m ≤ k)
next-within None n m is within = tt
next-within (Some k) n m is within = omega (arith, within, is)

open-within : (most : Option ℕ) (rs : List (Shown Item)) → IsOpen most rs → IsWithin most rs
open-within most rs o = record { each = o.each; within = weaker most (length rs) o.within; can = o.can }

opened-groups : (most : Option ℕ) (rs : List (Shown Item)) (parts : List Part) → IsWithin most rs
    → IsClosedBy most (length rs) parts → AreGroups most parts → AreGroups most (opened rs parts)
opened-groups most [] parts is closed groups = groups
opened-groups most (r ∷ rs) parts is closed groups =
    (record { each = is.each; some = omega arith; within = is.within }, closed, groups)

opened-can : (rs : List (Shown Item)) (parts : List Part) → CanMerge (values_of rs) → CanAllMerge parts
    → CanAllMerge (opened rs parts)
opened-can [] parts can all = all
opened-can (r ∷ rs) parts can all = (can, all)

full-closed : (most : Option ℕ) (n : ℕ) (parts : List Part) → most ≡ Some n → IsClosedBy most n parts
full-closed most n [] is = tt
full-closed most n (lost r ∷ parts) is = tt
full-closed most n (packets rs ∷ parts) is = is

each-more : (rs : List (Shown Item)) (r : Shown Item) → AllByRecursion (λ r. IsPacket r.item.found) rs
    → IsPacket r.item.found → AllByRecursion (λ r. IsPacket r.item.found) (rs ++ r ∷ [])
each-more [] r each is = (is, tt)
each-more (s ∷ rs) r each is = (each.0, each-more rs r each.1 is)

-- ---- runs

abbrev pub ended : Form → Option ℕ → Run MergeKept Refusal → List (Shown Item) → Run (Unit {0}) Refusal
ended form most run rs = closes (merge form most) Closed (runs (merge form most) run rs)

-- the run with an open group of these packets
abbrev pub stood : Option ℕ → List ℕ → ℕ → List (Shown Item) → Run MergeKept Refusal
stood most text count held = going text (kept_of count (at most held))

-- this is written behind a text for the open group and the records
record IsMerged (form : Form) (most : Option ℕ) (before : List ℕ) (held rs : List (Shown Item)) (text : List ℕ) : Type 0 where
  parts : List Part
  all : held ++ rs ≡ flat_map records_of parts
  groups : AreGroups most parts
  can : CanAllMerge parts
  text_is : text ≡ before ++ texts_of form parts

-- what is to be shown of records, whatever group is open before them
abbrev AreMerged : Form → Option ℕ → List (Shown Item) → Type 0
AreMerged form most rs = (before text : List ℕ) (count : ℕ) (held : List (Shown Item)) → IsOpen most held
    → ended form most (stood most before count held) rs ≡ going text tt → IsMerged form most before held rs text

broken : (form : Form) (most : Option ℕ) (text more : List ℕ) (f : Refusal) (rs : List (Shown Item))
    → ended form most (broke more f) rs ≡ going text tt → ⊥
broken form most text more f rs e =
    going≢broke _ _ _ _ (sym e ∙ ap (closes (merge form most) Closed) (runs-broke (merge form most) more f rs))

at_end : (form : Form) (most : Option ℕ) → AreMerged form most []
at_end form most before text count held is e = record {
  parts = opened held [];
  all = sym (opened-all held []);
  groups = opened-groups most held [] (open-within most held is) tt tt;
  can = opened-can held [] is.can tt;
  text_is = sym (going-text _ _ tt tt e)
      ∙ ap (λ l. before ++ l) (sym (append-nil (group_text form (at most held))) ∙ sym (opened-text form most held []));
}

-- a group that is closed before other parts
closed_before : (form : Form) (most : Option ℕ) (before text : List ℕ) (held rs : List (Shown Item)) (parts : List Part)
    → IsWithin most held → IsClosedBy most (length held) parts → AreGroups most parts
    → CanAllMerge parts → rs ≡ flat_map records_of parts
    → text ≡ (before ++ group_text form (at most held)) ++ texts_of form parts
    → IsMerged form most before held rs text
closed_before form most before text held rs parts is closed groups can all text_is = record {
  parts = opened held parts;
  all = ap (λ l. held ++ l) all ∙ sym (opened-all held parts);
  groups = opened-groups most held parts is closed groups;
  can = opened-can held parts is.can can;
  text_is = text_is ∙ append_assoc before (group_text form (at most held)) (texts_of form parts)
      ∙ ap (λ l. before ++ l) (sym (opened-text form most held parts));
}

nothing-open : (most : Option ℕ) → IfSome most (λ n. 1 ≤ n) → IsOpen most []
nothing-open None some = record { each = tt; within = tt; can = tt }
nothing-open (Some n) some = record { each = tt; within = omega (arith, some); can = tt }

at_loss : (form : Form) (most : Option ℕ) (before text : List ℕ) (count : ℕ) (held : List (Shown Item)) (r : Shown Item)
    (rs : List (Shown Item)) → IfSome most (λ n. 1 ≤ n) → AreMerged form most rs → IsOpen most held → IsLost r.item.found
    → ended form most (going (before ++ (group_text form (at most held) ++ record_bytes form r.item.range []))
    (kept_of count (no_packets most))) rs ≡ going text tt
    → IsMerged form most before held (r ∷ rs) text
at_loss form most before text count held r rs some behind is gone e =
    let group = group_text form (at most held) in
    let own = record_bytes form r.item.range [] in
    let m = behind (before ++ (group ++ own)) text count [] (nothing-open most some)
    (ap (λ g. ended form most (going (before ++ (group ++ own)) (kept_of count g)) rs) (sym (at-none most)) ∙ e) in
    closed_before form most before text held (r ∷ rs) (lost r ∷ m.parts) (open-within most held is) tt (gone, m.groups)
    (tt, m.can)
    (ap (λ l. r ∷ l) m.all)
    (m.text_is ∙ ap (λ l. l ++ texts_of form m.parts) (sym (append_assoc before group own))
    ∙ append_assoc (before ++ group) own (texts_of form m.parts))

-- behind one packet more
at_packet : (form : Form) (most : Option ℕ) (before text : List ℕ) (count : ℕ) (held : List (Shown Item)) (r : Shown Item)
    (rs : List (Shown Item)) (b : Bool) → IfSome most (λ n. 1 ≤ n) → AreMerged form most rs → IsOpen most held
    → IsPacket r.item.found → CanMerge (values_of (held ++ r ∷ [])) → takes_none (at most (held ++ r ∷ [])).left ≡ b
    → ended form most (going (before ++ (if b then group_text form (at most (held ++ r ∷ [])) else []))
    (kept_of count (if b then no_packets most else at most (held ++ r ∷ [])))) rs ≡ going text tt
    → IsMerged form most before held (r ∷ rs) text
at_packet form most before text count held r rs true some behind is sent can full e =
    let more = held ++ r ∷ [] in
    let group = group_text form (at most more) in
    let within = next-within most (length held) (length more) (length-more held r) is.within in
    let m = behind (before ++ group) text count [] (nothing-open most some)
    (ap (λ g. ended form most (going (before ++ group) (kept_of count g)) rs) (sym (at-none most)) ∙ e) in
    let c = closed_before form most before text more rs m.parts
    (record { each = each-more held r is.each sent; within = within; can = can })
    (full-closed most (length more) m.parts (full-is most (length more) full within)) m.groups m.can m.all m.text_is in record {
      parts = c.parts;
      all = sym (append_assoc held (r ∷ []) rs) ∙ c.all;
      groups = c.groups;
      can = c.can;
      text_is = c.text_is;
    }
at_packet form most before text count held r rs false some behind is sent can less e =
    let more = held ++ r ∷ [] in
    let within = next-within most (length held) (length more) (length-more held r) is.within in
    let m = behind (before ++ []) text count more
    (record { each = each-more held r is.each sent; within = open-is most (length more) less within; can = can }) e in record {
      parts = m.parts;
      all = sym (append_assoc held (r ∷ []) rs) ∙ m.all;
      groups = m.groups;
      can = m.can;
      text_is = m.text_is ∙ ap (λ l. l ++ texts_of form m.parts) (append-nil before);
    }

at_put : (form : Form) (most : Option ℕ) (before text : List ℕ) (count : ℕ) (held : List (Shown Item)) (r : Shown Item)
    (rs : List (Shown Item)) (v : PacketValue) (res : Result (Unit {0}) Why) → IfSome most (λ n. 1 ≤ n)
    → AreMerged form most rs → IsOpen most held → IsPacket r.item.found → packet_in r.item.found r.bytes ≡ v ∷ []
    → IsPacketValue v → put_behind (merged (values_of held)) v ≡ res
    → ended form most (adds before (merge_put form most (kept_of count (at most held)) r.item
    (with_packet (at most held) v r.item.range) res)) rs ≡ going text tt
    → IsMerged form most before held (r ∷ rs) text
at_put form most before text count held r rs v (Ok done) some behind is sent value own put e =
    at_packet form most before text (count + 1) held r rs (takes_none (at most (held ++ r ∷ [])).left) some behind is sent
    (subst CanMerge (sym (values-more held r v value)) (can-more (values_of held) v done own is.can put)) refl
    (ap (λ g. ended form most (adds before (group_goes form most (count + 1) g)) rs) (sym (at-more most held r v value)) ∙ e)
at_put form most before text count held r rs v (Err why) some behind is sent value own put e =
    absurd (broken form most text (before ++ []) (refusal_of (told count) r.item.place why) rs e)

at_record : (form : Form) (most : Option ℕ) (before text : List ℕ) (count : ℕ) (held : List (Shown Item)) (r : Shown Item)
    (rs : List (Shown Item)) (found : Found) → IfSome most (λ n. 1 ≤ n) → AreMerged form most rs → IsOpen most held
    → r.item.found ≡ found → FoundFits found r.bytes
    → ended form most (adds before (merge_found form most (kept_of count (at most held)) r found)) rs ≡ going text tt
    → IsMerged form most before held (r ∷ rs) text
at_record form most before text count held r rs (Packet framing shape size) some behind is found_is fits e =
    let value : lent_value framing r.bytes ≡ Some fits.value =
    ap (lent_value framing) fits.bytes_are ∙ lent_value-form framing fits.value fits.tail fits.is_value fits.small in
    let k = kept_of count (at most held) in
    at_put form most before text count held r rs fits.value (put_behind (merged (values_of held)) fits.value) some behind is
    (subst IsPacket (sym found_is) tt) (ap (λ f. packet_in f r.bytes) found_is ∙ ap listed value) fits.is_value refl
    (ap (λ o. ended form most (adds before (merge_packet form most k r.item o)) rs) (sym value) ∙ e)
at_record form most before text count held r rs Lost some behind is found_is fits e =
    at_loss form most before text (count + 1) held r rs some behind is (subst IsLost (sym found_is) tt) e
at_record form most before text count held r rs (Bad fault) some behind is found_is fits e =
    absurd (broken form most text (before ++ []) (refusal_at (told count) r.item fault) rs e)

all_merged : (form : Form) (most : Option ℕ) (rs : List (Shown Item)) → IfSome most (λ n. 1 ≤ n) → AreLent rs
    → AreMerged form most rs
all_merged form most [] some fits = at_end form most
all_merged form most (r ∷ rs) some fits = λ before text count held is e.
    at_record form most before text count held r rs r.item.found some (all_merged form most rs some fits.1) is refl fits.0 e

pub merge_written : (form : Form) (most : Option ℕ) (rs : List (Shown Item)) (text : List ℕ) → IfSome most (λ n. 1 ≤ n)
    → AreLent rs → outcome (merge form most) rs Closed ≡ going text tt
    → (parts : List Part) × IsCutInto most rs parts × CanAllMerge parts × (text ≡ texts_of form parts)
merge_written form most rs text some fits e =
    let m = all_merged form most rs some fits [] text 0 [] (nothing-open most some)
    (ap (λ g. ended form most (going [] (kept_of 0 g)) rs) (sym (at-none most)) ∙ e) in
    (m.parts, record { all = m.all; groups = m.groups }, m.can, m.text_is)
