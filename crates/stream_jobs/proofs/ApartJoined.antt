-- What apart writes of a record, joined again.
use Rattle.std.proofs.Common.{◌≡◌, List, [], ◌∷◌, map, Some, refl, sym, ap, ◌∙◌}
use Rattle.rec_store.specs.DemoStore.{demo_record}
use Rattle.opus_feed.specs.declared.padding.Padding.TheVariants.{Drop}
use Rattle.opus_multi.specs.Streams.{SpelledStream}
use Rattle.opus_multi.specs.Forms.{kept_multistream}
use Rattle.stream_records.specs.Holds.{held_as}
use Rattle.stream_jobs.specs.Join.{Part, part_of, joined}
use Rattle.stream_jobs.proofs.OwnStores.{part_in, joined_text}
use Rattle.stream_jobs.proofs.RecordGroups.{some_values, some_form}

-- the packets of a record, as join takes them
abbrev parts_of : List SpelledStream → List Part
parts_of ss = map (λ s. part_of (Some s.value) 0) ss

parts-are : (ss : List SpelledStream) → parts_of ss ≡ map part_in (some_values ss)
parts-are [] = refl
parts-are (s ∷ ss) = ap (λ l. part_of (Some s.value) 0 ∷ l) (parts-are ss)

pub apart-joined : (ss : List SpelledStream)
    → joined (parts_of ss) ≡ demo_record 0 (kept_multistream (map (held_as Drop) ss))
apart-joined ss = ap joined (parts-are ss) ∙ joined_text (some_values ss) ∙ ap (demo_record 0) (sym (some_form ss))
