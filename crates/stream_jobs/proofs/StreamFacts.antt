-- The jobs over multistream packets, computed on small records.
use Rattle.std.proofs.Common.{◌≡◌, List, ℕ, [], ◌∷◌, false, refl}
use Rattle.job_loop.specs.Shown.{Shown}
use Rattle.job_loop.specs.Meaning.{going, broke, outcome}
use Rattle.job_loop.specs.declared.input_end.InputEnd.TheVariants.{Closed, Cut, Past}
use Rattle.opus_toc.specs.Configuration.{samples_of, row_of}
use Rattle.opus_packet.specs.declared.fault.Rule.TheVariants.{R1}
use Rattle.opus_packet.specs.Canonical.{canonical}
use Rattle.opus_packet.specs.Header.{header_bytes}
use Rattle.opus_packet.specs.HeaderRead.{shape_of, header_read}
use Rattle.opus_packet.specs.PacketFault.{fault}
use Rattle.opus_feed.specs.declared.padding.Padding.TheVariants.{Drop, Keep}
use Rattle.opus_words.specs.declared.form.Form.TheVariants.{Raw, Demo}
use Rattle.pack_records.specs.Lent.{lent_value}
use Rattle.stream_records.specs.declared.item.StreamsFound.TheVariants.{Packets, Broken, Unequal}
use Rattle.stream_records.specs.declared.item.StreamsItem.{StreamsItem}
use Rattle.stream_records.specs.Holds.{record_of, lost_record}
use Rattle.stream_jobs.specs.declared.refusal.StreamWhy.TheVariants as why
use Rattle.job_ends.specs.Refusal.{refusal_of}
use Rattle.stream_jobs.specs.StreamsIn.{first_value}
use Rattle.stream_jobs.specs.Norm.{norm}
use Rattle.stream_jobs.specs.Check.{check}
use Rattle.stream_jobs.specs.Apart.{apart}
use Rattle.stream_jobs.specs.Extract.{extract}

-- two streams of one frame each, AA and BB, with range 9; the first was spelled with so many padding bytes that weren't kept
abbrev two : ℕ → Shown StreamsItem
two dropped = record_of 8 17 9 Packets
    (record { shape = shape_of 3 false 2; size = 6; dropped = dropped } ∷ record { shape = shape_of 3 false 0; size = 3; dropped = 0 } ∷ [])
    (0xF8 ∷ 0x01 ∷ 0xAA ∷ 0xF8 ∷ 0xBB ∷ [])

abbrev gone : Shown StreamsItem
gone = lost_record 25 7

-- the second stream begins at place 36 and lasts less; or isn't there
abbrev unequal : Shown StreamsItem
unequal = record_of 33 38 0 (Unequal 1 36) [] []

abbrev short : Shown StreamsItem
short = record_of 33 36 0 (Broken 1 36 (fault R1 0)) [] []

norm_writes_the_kept_form : outcome (norm Demo 2 Drop) (two 1 ∷ gone ∷ []) Closed
    ≡ going (0 ∷ 0 ∷ 0 ∷ 5 ∷ 0 ∷ 0 ∷ 0 ∷ 9 ∷ 0xF8 ∷ 0x01 ∷ 0xAA ∷ 0xF8 ∷ 0xBB ∷ 0 ∷ 0 ∷ 0 ∷ 0 ∷ 0 ∷ 0 ∷ 0 ∷ 7 ∷ []) tt
norm_writes_the_kept_form = refl

padding_that_isnt_kept_is_refused : outcome (norm Raw 2 Keep) (two 65536 ∷ []) Closed
    ≡ broke [] (refusal_of 0 17 (why.StreamPaddingLong 0))
padding_that_isnt_kept_is_refused = refl

unequal_streams_are_refused : outcome (norm Demo 2 Drop) (gone ∷ unequal ∷ two 0 ∷ []) Closed
    ≡ broke (0 ∷ 0 ∷ 0 ∷ 0 ∷ 0 ∷ 0 ∷ 0 ∷ 7 ∷ []) (refusal_of 1 36 (why.Unequal 1))
unequal_streams_are_refused = refl

apart_writes_a_record_a_stream : outcome (apart 2) (two 0 ∷ gone ∷ []) Closed
    ≡ going (0 ∷ 0 ∷ 0 ∷ 2 ∷ 0 ∷ 0 ∷ 0 ∷ 0 ∷ 0xF8 ∷ 0xAA ∷ 0 ∷ 0 ∷ 0 ∷ 2 ∷ 0 ∷ 0 ∷ 0 ∷ 0 ∷ 0xF8 ∷ 0xBB
    ∷ 0 ∷ 0 ∷ 0 ∷ 0 ∷ 0 ∷ 0 ∷ 0 ∷ 0 ∷ 0 ∷ 0 ∷ 0 ∷ 0 ∷ 0 ∷ 0 ∷ 0 ∷ 0 ∷ []) tt
unfolding first_value lent_value canonical header_read header_bytes samples_of row_of
apart_writes_a_record_a_stream = refl

extract_writes_one_of_them : outcome (extract 2 1) (two 0 ∷ gone ∷ []) Closed
    ≡ going (0 ∷ 0 ∷ 0 ∷ 2 ∷ 0 ∷ 0 ∷ 0 ∷ 0 ∷ 0xF8 ∷ 0xBB ∷ 0 ∷ 0 ∷ 0 ∷ 0 ∷ 0 ∷ 0 ∷ 0 ∷ 0 ∷ []) tt
unfolding first_value lent_value canonical header_read header_bytes samples_of row_of
extract_writes_one_of_them = refl

a_cut_is_named : outcome (apart 1) (gone ∷ []) (Cut (record { place = 29 }))
    ≡ broke (0 ∷ 0 ∷ 0 ∷ 0 ∷ 0 ∷ 0 ∷ 0 ∷ 0 ∷ []) (refusal_of 1 29 why.StoreCut)
a_cut_is_named = refl

-- the only stream isn't named
one_stream_isnt_named : outcome (extract 1 0) (record_of 8 8 0 (Broken 0 8 (fault R1 0)) [] [] ∷ []) Closed
    ≡ broke [] (refusal_of 0 8 (why.Fault (fault R1 0)))
one_stream_isnt_named = refl

-- check goes on, and names the first fault at the end
check_names_the_first_fault : (text : List ℕ)
    × (outcome (check 2) (gone ∷ unequal ∷ short ∷ two 0 ∷ []) Closed ≡ broke text (refusal_of 1 36 (why.Unequal 1)))
check_names_the_first_fault = (_, refl)

check_is_not_refused_past_the_limit : (text : List ℕ) × (outcome (check 2) (short ∷ []) Past ≡ going text tt)
check_is_not_refused_past_the_limit = (_, refl)
