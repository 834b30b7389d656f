-- The frames of groups are those of their records.
use Rattle.std.proofs.Common.{◌≡◌, ℕ, List, [], ◌∷◌, ◌++◌, flat_map, Option, refl, sym, ap, ◌∙◌}
use Rattle.std.proofs.lemmas.Grind.{flat_map-append}
use Rattle.job_loop.specs.Shown.{Shown}
use Rattle.opus_packet.specs.Value.{PacketValue}
use Rattle.opus_repack.specs.Collected.{frames_in}
use Rattle.pack_records.specs.declared.item.Found.{Found}
use Rattle.pack_records.specs.declared.item.Found.TheVariants.{Packet, Lost, Bad}
use Rattle.pack_records.specs.declared.item.Item.{Item}
use Rattle.pack_jobs.specs.Groups.{Part, packets, lost, records_of, IsLost, AreGroups, IsCutInto, packet_in, values_of, frames_of, merged, part_frames}

frames-merged : (vs : List PacketValue) → frames_in (merged vs) ≡ frames_of vs
frames-merged [] = refl
frames-merged (v ∷ vs) = refl

nothing-lost : (found : Found) (bytes : List ℕ) → IsLost found → packet_in found bytes ≡ []
nothing-lost (Packet framing shape size) bytes gone = absurd gone
nothing-lost Lost bytes gone = refl
nothing-lost (Bad fault) bytes gone = absurd gone

frames-append : (rs ss : List (Shown Item))
    → frames_of (values_of rs) ++ frames_of (values_of ss) ≡ frames_of (values_of (rs ++ ss))
frames-append rs ss =
    sym (flat_map-append (λ (v : PacketValue). v.frames) (values_of rs) (values_of ss))
    ∙ ap frames_of (sym (flat_map-append (λ (r : Shown Item). packet_in r.item.found r.bytes) rs ss))

parts-frames : (most : Option ℕ) (parts : List Part) → AreGroups most parts
    → flat_map part_frames parts ≡ frames_of (values_of (flat_map records_of parts))
parts-frames most [] groups = refl
parts-frames most (packets rs ∷ parts) groups =
    ap (λ l. l ++ flat_map part_frames parts) (frames-merged (values_of rs))
    ∙ ap (λ l. frames_of (values_of rs) ++ l) (parts-frames most parts groups.2)
    ∙ frames-append rs (flat_map records_of parts)
parts-frames most (lost r ∷ parts) groups =
    parts-frames most parts groups.1
    ∙ ap (λ l. frames_of (l ++ values_of (flat_map records_of parts))) (sym (nothing-lost r.item.found r.bytes groups.0))

pub cut-frames : (most : Option ℕ) (rs : List (Shown Item)) (parts : List Part) → IsCutInto most rs parts
    → flat_map part_frames parts ≡ frames_of (values_of rs)
cut-frames most rs parts cut = parts-frames most parts cut.groups ∙ ap (λ l. frames_of (values_of l)) (sym cut.all)
