-- What stands before the frames of a record.
use Rattle.std.proofs.Common.{◌≡◌, ℕ, List, [], ◌++◌, length, refl, ap, ◌∙◌, append_assoc}
use Rattle.std.specs.List.{concat}
use Rattle.rec_store.specs.DemoStore.{demo_head, demo_record}
use Rattle.opus_packet.specs.Value.{PacketValue}
use Rattle.opus_packet.specs.Canonical.{canonical, canonical_self_delimited}
use Rattle.opus_writer.specs.Forms.{canonical_header, canonical_self_header}
use Rattle.opus_writer.proofs.FormLemmas.{canonical-joined, canonical_self-joined}

pub front-raw : (v : PacketValue) (old new : List ℕ) → old ≡ [] → new ≡ old ++ canonical_header v
    → new ++ concat v.frames ≡ canonical v
front-raw v old new none is =
    canonical-joined v new (concat v.frames) (is ∙ ap (λ l. l ++ canonical_header v) none) refl

pub front-self : (v : PacketValue) (old new : List ℕ) → old ≡ [] → new ≡ old ++ canonical_self_header v
    → new ++ concat v.frames ≡ canonical_self_delimited v
front-self v old new none is =
    canonical_self-joined v new (concat v.frames) (is ∙ ap (λ l. l ++ canonical_self_header v) none) refl

pub front-demo : (v : PacketValue) (range size : ℕ) (old mid new head : List ℕ) → old ≡ [] → head ≡ demo_head size range
    → size ≡ length (canonical v) → mid ≡ old ++ head → new ≡ mid ++ canonical_header v
    → new ++ concat v.frames ≡ demo_record range (canonical v)
front-demo v range size old mid new head none head_is size_is mid_is is =
    let front : mid ≡ demo_head (length (canonical v)) range =
    mid_is ∙ ap (λ l. l ++ head) none ∙ head_is ∙ ap (λ n. demo_head n range) size_is in
    ap (λ l. l ++ concat v.frames) (is ∙ ap (λ l. l ++ canonical_header v) front)
    ∙ append_assoc (demo_head (length (canonical v)) range) (canonical_header v) (concat v.frames)
    ∙ ap (λ l. demo_head (length (canonical v)) range ++ l)
    (canonical-joined v (canonical_header v) (concat v.frames) refl refl)
