-- What merge wrote has all frames.
use Rattle.std.proofs.Common.{◌≡◌, ◌≢◌, ℕ, ◌≤◌, List, [], ◌∷◌, ◌++◌, length, flat_map, Option, None, IfSome, inl, inr, refl, sym, subst, length-append, arith}
use Rattle.std.specs.List.{AllByRecursion}
use Rattle.job_loop.specs.Shown.{Shown}
use Rattle.job_loop.specs.Meaning.{going, outcome}
use Rattle.job_loop.specs.declared.input_end.InputEnd.TheVariants.{Closed}
use Rattle.opus_packet.specs.Value.{PacketValue, IsFrame}
use Rattle.opus_packet.proofs.HeaderBegins.{frames-most}
use Rattle.opus_repack.specs.Collected.{frames_in}
use Rattle.opus_feed.specs.declared.padding.Padding.TheVariants.{Drop}
use Rattle.opus_words.specs.declared.form.Form.{Form}
use Rattle.opus_words.specs.declared.form.Form.TheVariants.{Raw, Demo, SelfDelimited}
use Rattle.pack_records.specs.declared.item.Found.{Found}
use Rattle.pack_records.specs.declared.item.Found.TheVariants.{Packet, Lost, Bad}
use Rattle.pack_records.specs.declared.item.Item.{Item}
use Rattle.pack_records.specs.Fits.{FoundFits, ItemFits}
use Rattle.pack_jobs.specs.Merge.{value_text, merge}
use Rattle.pack_jobs.specs.Written.{IsGood, AreGood}
use Rattle.pack_jobs.specs.Groups.{Part, packets, lost, records_of, IsPacket, IsLost, AreGroups, packet_in, values_of, frames_of, merged_with, merged, CanMerge, CanAllMerge, last_range, part_text, texts_of, part_frames, AreLent}
use Rattle.pack_jobs.specs.PackEnds.{ends_in}
use Rattle.pack_jobs.proofs.GroupFrames.{cut-frames}
use Rattle.pack_jobs.proofs.GroupLemmas.{merge_written}
use Rattle.pack_jobs.proofs.HeldLemmas.{framing_in, IsRangeIn, IsLossIn, IsHeld, IsRead, all_read, all_held, held-form, held-found}
use Rattle.pack_jobs.proofs.WrittenAgain.{each-wrote}
use Rattle.pack_jobs.proofs.FramesAgain.{WroteFor, nothing-for, loss-for, same-for, both-for, each-append, IsReadWith, read-with, IsByteValue, canonical-for, no-range}
use Rattle.pack_jobs.proofs.HeldFrames.{held-value, held-values, range-held, gone-lost, gone-range, all-bytes}

-- ---- records as they are read

lost-fits : (form : Form) (r : Shown Item) → IsLossIn form r → FoundFits r.item.found r.bytes
lost-fits Raw r gone = absurd gone
lost-fits Demo r gone = subst (λ (s : Shown Item). FoundFits s.item.found s.bytes) (sym gone.shows) refl
lost-fits SelfDelimited r gone = absurd gone

read-fits : (form : Form) (r : Shown Item) → IsRead form Drop r → ItemFits r.item r.bytes
read-fits form r (inl (inl h)) =
    subst (λ f. FoundFits f r.bytes) (sym (held-found Drop (framing_in form) h.start h.range h.bytes r h.holds))
    (held-form Drop (framing_in form) h.start h.range h.bytes r h.holds)
read-fits form r (inl (inr gone)) = lost-fits form r gone
read-fits form r (inr bad) = subst (λ (s : Shown Item). FoundFits s.item.found s.bytes) (sym bad.shows) refl

read-lent : (form : Form) (rs : List (Shown Item)) → AllByRecursion (IsRead form Drop) rs → AreLent rs
read-lent form [] is = tt
read-lent form (r ∷ rs) is = (read-fits form r is.0, read-lent form rs is.1)

packet-good : (found : Found) → IsPacket found → IsGood found
packet-good (Packet framing shape size) sent = tt
packet-good Lost sent = tt
packet-good (Bad fault) sent = absurd sent

lost-good : (found : Found) → IsLost found → IsGood found
lost-good (Packet framing shape size) gone = tt
lost-good Lost gone = tt
lost-good (Bad fault) gone = absurd gone

packets-good : (rs : List (Shown Item)) → AllByRecursion (λ r. IsPacket r.item.found) rs → AreGood rs
packets-good [] each = tt
packets-good (r ∷ rs) each = (packet-good r.item.found each.0, packets-good rs each.1)

groups-good : (most : Option ℕ) (parts : List Part) → AreGroups most parts → AreGood (flat_map records_of parts)
groups-good most [] groups = tt
groups-good most (lost r ∷ parts) groups = (lost-good r.item.found groups.0, groups-good most parts groups.1)
groups-good most (packets rs ∷ parts) groups =
    each-append (λ (r : Shown Item). IsGood r.item.found) rs (flat_map records_of parts) (packets-good rs groups.0.each)
    (groups-good most parts groups.2)

-- ---- a group as one packet

frames-each : (vs : List PacketValue) → AllByRecursion IsByteValue vs → AllByRecursion IsFrame (frames_of vs)
frames-each [] is = tt
frames-each (v ∷ vs) is = each-append IsFrame v.frames (frames_of vs) is.0.value.each (frames-each vs is.1)

merged-value : (v : PacketValue) (vs : List PacketValue) → AllByRecursion IsByteValue (v ∷ vs) → CanMerge (v ∷ vs)
    → IsByteValue (merged_with v vs)
merged-value v vs is can =
    let first = is.0.value in
    record {
      value = record {
        config = first.config;
        some = omega (arith, length-append v.frames (frames_of vs), first.some);
        most = frames-most v.config (length (frames_of (v ∷ vs))) first.config can.1;
        each = frames-each (v ∷ vs) is;
        duration = can.1;
      };
      frames = all-bytes (v ∷ vs) is;
    }

merged-for : (form : Form) (range : ℕ) (vs : List PacketValue) → IsRangeIn form range → AllByRecursion IsByteValue vs
    → CanMerge vs → WroteFor form (value_text form range (merged vs)) (frames_in (merged vs))
merged-for form range [] in_form is can = nothing-for form
merged-for form range (v ∷ vs) in_form is can = canonical-for form range (merged_with v vs) in_form (merged-value v vs is can)

sent-value : (form : Form) (r : Shown Item) (more : List PacketValue) → IsPacket r.item.found → IsHeld form Drop r
    → AllByRecursion IsByteValue more → AllByRecursion IsByteValue (packet_in r.item.found r.bytes ++ more)
sent-value form r more sent (inl h) is =
    subst (λ l. AllByRecursion IsByteValue (l ++ more)) (sym (held-values form Drop r h)) (held-value form Drop r h, is)
sent-value form r more sent (inr gone) is = absurd (subst IsPacket (gone-lost form r gone) sent)

sent-values : (form : Form) (rs : List (Shown Item)) → AllByRecursion (λ r. IsPacket r.item.found) rs
    → AllByRecursion (IsHeld form Drop) rs → AllByRecursion IsByteValue (values_of rs)
sent-values form [] sent held = tt
sent-values form (r ∷ rs) sent held = sent-value form r (values_of rs) sent.0 held.0 (sent-values form rs sent.1 held.1)

last-held : (form : Form) (rs : List (Shown Item)) → AllByRecursion (IsHeld form Drop) rs → IsRangeIn form (last_range rs)
last-held form [] held = no-range form
last-held form (r ∷ []) held = range-held form Drop r held.0
last-held form (r ∷ s ∷ rs) held = last-held form (s ∷ rs) held.1

-- ---- all parts

lost-for : (form : Form) (r : Shown Item) → IsLost r.item.found → IsHeld form Drop r
    → WroteFor form (part_text form (lost r)) (part_frames (lost r))
lost-for form r gone (inl h) =
    absurd (subst IsLost (held-found Drop (framing_in form) h.start h.range h.bytes r h.holds) gone)
lost-for form r gone (inr is) = loss-for form r.item.range (gone-range form r is)

held-left : (form : Form) (rs ss : List (Shown Item)) → AllByRecursion (IsHeld form Drop) (rs ++ ss)
    → AllByRecursion (IsHeld form Drop) rs
held-left form [] ss held = tt
held-left form (r ∷ rs) ss held = (held.0, held-left form rs ss held.1)

held-right : (form : Form) (rs ss : List (Shown Item)) → AllByRecursion (IsHeld form Drop) (rs ++ ss)
    → AllByRecursion (IsHeld form Drop) ss
held-right form [] ss held = held
held-right form (r ∷ rs) ss held = held-right form rs ss held.1

parts-for : (form : Form) (most : Option ℕ) (parts : List Part) → AreGroups most parts → CanAllMerge parts
    → AllByRecursion (IsHeld form Drop) (flat_map records_of parts)
    → WroteFor form (texts_of form parts) (flat_map part_frames parts)
parts-for form most [] groups can held = nothing-for form
parts-for form most (lost r ∷ parts) groups can held =
    both-for form (part_text form (lost r)) (texts_of form parts) (part_frames (lost r)) (flat_map part_frames parts)
    (lost-for form r groups.0 held.0) (parts-for form most parts groups.1 can.1 held.1)
parts-for form most (packets rs ∷ parts) groups can held =
    let first = held-left form rs (flat_map records_of parts) held in
    both-for form (part_text form (packets rs)) (texts_of form parts) (part_frames (packets rs)) (flat_map part_frames parts)
    (merged-for form (last_range rs) (values_of rs) (last-held form rs first) (sent-values form rs groups.0.each first) can.0)
    (parts-for form most parts groups.2 can.1 (held-right form rs (flat_map records_of parts) held))

pub merge_keeps : (form : Form) (most : Option ℕ) (x : List ℕ) (rs : List (Shown Item)) (text : List ℕ) → form ≢ Raw
    → IfSome most (λ n. 1 ≤ n) → ends_in form Drop x rs None → outcome (merge form most) rs Closed ≡ going text tt
    → IsReadWith form text (frames_of (values_of rs))
merge_keeps form most x rs text several some ends e =
    let read = all_read form Drop x rs None ends in
    let (parts, cut, can, text_is) = merge_written form most rs text some (read-lent form rs read) e in
    let good = subst AreGood (sym cut.all) (groups-good most parts cut.groups) in
    let held = subst (AllByRecursion (IsHeld form Drop)) cut.all (all_held form Drop rs good read) in
    let m = same-for form (texts_of form parts) text (flat_map part_frames parts) (frames_of (values_of rs)) text_is
    (cut-frames most rs parts cut) (parts-for form most parts cut.groups can held) in
    read-with form text (frames_of (values_of rs)) m (each-wrote form m.wrote several m.is)
