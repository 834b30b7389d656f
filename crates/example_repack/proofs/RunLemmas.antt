-- One packet after the other.
use Rattle.std.proofs.Common.{◌≡◌, ℕ, List, [], ◌∷◌, ◌++◌, flat_map, Option, Some, None, refl, sym, ap, ◌∙◌, append_assoc}
use Rattle.std.proofs.lemmas.List.{append-nil}
use Rattle.opus_packet.specs.Value.{PacketValue}
use Rattle.opus_packet.specs.Canonical.{canonical_self_delimited}
use Rattle.opus_repack.specs.Collected.{frames_in}
use Rattle.example_repack.specs.Groups.{group_text}
use Rattle.example_repack.specs.Runs.{Runs, KeepsAll}

-- the packets with a group before them, where there is one
abbrev with_group : Option PacketValue → List PacketValue → List PacketValue
with_group None vs = vs
with_group (Some v) vs = v ∷ vs

with_group-text : (gone : Option PacketValue) (vs : List PacketValue)
    → flat_map canonical_self_delimited (with_group gone vs) ≡ group_text gone ++ flat_map canonical_self_delimited vs
with_group-text None vs = refl
with_group-text (Some v) vs = refl

with_group-frames : (gone : Option PacketValue) (vs : List PacketValue)
    → flat_map (λ v. v.frames) (with_group gone vs) ≡ frames_in gone ++ flat_map (λ v. v.frames) vs
with_group-frames None vs = refl
with_group-frames (Some v) vs = refl

pub Runs-keeps : (vs : List PacketValue) (group end : Option PacketValue) (before after : List ℕ)
    → Runs vs group before end after → KeepsAll vs group before end after
Runs-keeps [] group end before after (e, d) = record {
  packets = [];
  written = d ∙ sym (append-nil before);
  frames = append-nil (frames_in group) ∙ ap frames_in (sym e);
}
Runs-keeps (v ∷ vs) group end before after (next, text, step, runs) =
    let kept = step.kept in
    let rest = Runs-keeps vs next end text after runs in
    let all = flat_map (λ w. w.frames) vs in
    let more = flat_map (λ w. w.frames) rest.packets in
    record {
      packets = with_group kept.gone rest.packets;
      written =
          rest.written ∙ ap (λ l. l ++ flat_map canonical_self_delimited rest.packets) kept.written
          ∙ append_assoc before (group_text kept.gone) (flat_map canonical_self_delimited rest.packets)
          ∙ ap (λ l. before ++ l) (sym (with_group-text kept.gone rest.packets));
      frames =
          sym (append_assoc (frames_in group) v.frames all) ∙ ap (λ l. l ++ all) (sym kept.frames)
          ∙ append_assoc (frames_in kept.gone) (frames_in next) all ∙ ap (λ l. frames_in kept.gone ++ l) rest.frames
          ∙ sym (append_assoc (frames_in kept.gone) more (frames_in end))
          ∙ ap (λ l. l ++ frames_in end) (sym (with_group-frames kept.gone rest.packets));
    }
