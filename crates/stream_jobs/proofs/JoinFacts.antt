-- The job join, computed on small stores; and the texts of refusals.
use Rattle.std.proofs.Common.{◌≡◌, ℕ, ◌+◌, [], ◌∷◌, ◌++◌, false, codes, decimal, ap, ◌∙◌, refl, arith}
use Rattle.std.proofs.lemmas.Fmt.{decimal_digit}
use Rattle.job_loop.specs.Shown.{Shown}
use Rattle.job_loop.specs.Meaning.{going, broke, outcome}
use Rattle.job_loop.specs.declared.input_end.InputEnd.TheVariants.{Closed, Cut}
use Rattle.opus_toc.specs.Configuration.{samples_of, row_of}
use Rattle.opus_packet.specs.declared.fault.Rule.TheVariants.{R3, R5}
use Rattle.opus_packet.specs.Canonical.{canonical, canonical_self_delimited}
use Rattle.opus_packet.specs.Header.{header_bytes}
use Rattle.opus_packet.specs.HeaderRead.{shape_of, header_read}
use Rattle.opus_packet.specs.PacketFault.{fault}
use Rattle.opus_feed.specs.declared.framing.Framing.TheVariants.{Whole}
use Rattle.pack_records.specs.declared.item.Found.TheVariants.{Packet}
use Rattle.pack_records.specs.declared.item.Item.{Item}
use Rattle.pack_records.specs.Holds.{record_of, bad_record, lost_record}
use Rattle.pack_records.specs.Lent.{lent_value}
use Rattle.pack_jobs.specs.Refusal.{fault_text}
use Rattle.stream_jobs.specs.declared.refusal.StreamWhy.TheVariants.{Fault, StreamFault, Unequal, LostPart, ShortGroup, StoreCut, StreamPaddingLong}
use Rattle.stream_jobs.specs.Refusal.{why_text}
use Rattle.job_ends.specs.Refusal.{refusal_of}
use Rattle.stream_jobs.specs.Join.{join, joined}

-- one frame of 20 ms, and one of 10 ms; a lost record
long : ℕ → ℕ → ℕ → Shown Item
long start range byte = record_of start (start + 2) range (Packet Whole (shape_of 0 false 0) 2) (0xF8 ∷ byte ∷ [])

short : ℕ → ℕ → ℕ → Shown Item
short start range byte = record_of start (start + 2) range (Packet Whole (shape_of 0 false 0) 2) (0xF0 ∷ byte ∷ [])

two_are_joined : outcome (join 2) (long 8 5 0xAA ∷ long 18 3 0xBB ∷ []) Closed
    ≡ going (0 ∷ 0 ∷ 0 ∷ 5 ∷ 0 ∷ 0 ∷ 0 ∷ 6 ∷ 0xF8 ∷ 1 ∷ 0xAA ∷ 0xF8 ∷ 0xBB ∷ []) tt
unfolding long joined canonical canonical_self_delimited header_bytes header_read lent_value samples_of row_of
two_are_joined = refl

lost_ones_are_joined : outcome (join 3) (lost_record 8 8 ∷ lost_record 16 12 ∷ lost_record 24 2 ∷ []) Closed
    ≡ going (0 ∷ 0 ∷ 0 ∷ 0 ∷ 0 ∷ 0 ∷ 0 ∷ 6 ∷ []) tt
unfolding joined
lost_ones_are_joined = refl

each_is_a_group : outcome (join 1) (long 8 7 0xAA ∷ lost_record 18 9 ∷ []) Closed
    ≡ going (0 ∷ 0 ∷ 0 ∷ 2 ∷ 0 ∷ 0 ∷ 0 ∷ 7 ∷ 0xF8 ∷ 0xAA ∷ 0 ∷ 0 ∷ 0 ∷ 0 ∷ 0 ∷ 0 ∷ 0 ∷ 9 ∷ []) tt
unfolding long joined canonical header_bytes header_read lent_value
each_is_a_group = refl

one_is_too_few : outcome (join 2) (long 8 0 0xAA ∷ []) Closed ≡ broke [] (refusal_of 1 10 ShortGroup)
unfolding long header_read lent_value
one_is_too_few = refl

a_cut_within_a_group : outcome (join 2) (long 8 0 0xAA ∷ []) (Cut (record { place = 13 }))
    ≡ broke [] (refusal_of 1 13 ShortGroup)
unfolding long header_read lent_value
a_cut_within_a_group = refl

a_cut_between_groups : outcome (join 1) (lost_record 8 9 ∷ []) (Cut (record { place = 9 }))
    ≡ broke (0 ∷ 0 ∷ 0 ∷ 0 ∷ 0 ∷ 0 ∷ 0 ∷ 9 ∷ []) (refusal_of 1 9 StoreCut)
unfolding joined
a_cut_between_groups = refl

one_is_lost : outcome (join 2) (long 8 0 0xAA ∷ lost_record 18 0 ∷ []) Closed ≡ broke [] (refusal_of 1 18 LostPart)
unfolding long header_read lent_value header_bytes
one_is_lost = refl

one_is_shorter : outcome (join 3) (long 8 0 0xAA ∷ long 18 0 0xBB ∷ short 28 0 0xCC ∷ []) Closed
    ≡ broke [] (refusal_of 2 30 (Unequal 2))
unfolding long short header_read lent_value samples_of row_of header_bytes
one_is_shorter = refl

one_is_bad : outcome (join 2) (long 8 0 0xAA ∷ bad_record 18 0 (fault R5 1) 2 ∷ []) Closed
    ≡ broke [] (refusal_of 1 19 (Fault (fault R5 1)))
unfolding long header_read lent_value
one_is_bad = refl

-- ---- texts

names_a_stream : why_text (Unequal 2) ≡ codes "unequal stream 2"
names_a_stream = ap (λ d. codes "unequal stream " ++ d) (decimal_digit 2 (omega arith))

names_long_padding : why_text (StreamPaddingLong 7) ≡ codes "stream 7 padding long"
names_long_padding = ap (λ d. codes "stream " ++ d ++ codes " padding long") (decimal_digit 7 (omega arith))

names_a_fault : why_text (StreamFault 1 (fault R3 2)) ≡ codes "stream 1 R3 at 2"
unfolding fault_text
names_a_fault =
    ap (λ d. codes "stream " ++ d ++ codes " " ++ (codes "R3 at " ++ decimal 2)) (decimal_digit 1 (omega arith))
    ∙ ap (λ d. codes "stream 1 R3 at " ++ d) (decimal_digit 2 (omega arith))
