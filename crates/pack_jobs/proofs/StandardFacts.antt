-- The jobs, computed on small records.
use Rattle.std.proofs.Common.{◌≡◌, ℕ, List, [], ◌∷◌, ◌++◌, false, true, Some, None, codes, decimal, ap, ◌∙◌, refl, arith}
use Rattle.std.specs.Fmt.{digits}
use Rattle.std.proofs.lemmas.Fmt.{decimal_digit}
use Rattle.job_loop.specs.Shown.{Shown}
use Rattle.job_loop.specs.Meaning.{going, broke, outcome}
use Rattle.job_loop.specs.declared.input_end.InputEnd.TheVariants.{Closed, Cut, Past}
use Rattle.opus_toc.specs.Configuration.{samples_of, mode_of, bandwidth_of, row_of}
use Rattle.opus_packet.specs.declared.fault.Rule.TheVariants.{R5}
use Rattle.opus_packet.specs.Canonical.{canonical}
use Rattle.opus_packet.specs.Header.{header_bytes}
use Rattle.opus_packet.specs.HeaderRead.{shape_of, header_read}
use Rattle.opus_packet.specs.PacketFault.{fault}
use Rattle.opus_feed.specs.declared.framing.Framing.TheVariants.{Whole}
use Rattle.opus_feed.specs.declared.padding.Padding.TheVariants.{Drop, Keep}
use Rattle.opus_words.specs.declared.form.Form.TheVariants.{Raw, Demo, SelfDelimited}
use Rattle.pack_records.specs.declared.item.Found.TheVariants.{Packet}
use Rattle.pack_records.specs.declared.item.Item.{Item}
use Rattle.pack_records.specs.Holds.{record_of, bad_record, lost_record}
use Rattle.pack_records.specs.Lent.{lent_value}
use Rattle.pack_jobs.specs.declared.refusal.Why.TheVariants.{Fault, PaddingLong, StoreCut, MixedKind}
use Rattle.pack_jobs.specs.Refusal.{refusal_text, fault_text}
use Rattle.job_ends.specs.Refusal.{refusal_of}
use Rattle.pack_jobs.specs.Norm.{norm}
use Rattle.pack_jobs.specs.Merge.{merge}
use Rattle.pack_jobs.specs.Split.{split}
use Rattle.pack_jobs.specs.Check.{check, check_line}
use Rattle.pack_jobs.specs.PacketLines.{kind_text, spelling_text, packet_line, frame_line}
use Rattle.pack_jobs.specs.Show.{show}
use Rattle.pack_jobs.specs.Written.{lines_from}

-- a store: one frame AA with range 1, a lost packet with range 9, and FB 07, which lasts too long
abbrev one : Shown Item
one = record_of 8 10 1 (Packet Whole (shape_of 0 false 0) 2) (0xF8 ∷ 0xAA ∷ [])

abbrev gone : Shown Item
gone = lost_record 18 9

abbrev long : Shown Item
long = bad_record 26 0 (fault R5 1) 2

norm_keeps_ranges_and_lost_ones : outcome (norm Demo Drop) (one ∷ gone ∷ []) Closed
    ≡ going (0 ∷ 0 ∷ 0 ∷ 2 ∷ 0 ∷ 0 ∷ 0 ∷ 1 ∷ 0xF8 ∷ 0xAA ∷ 0 ∷ 0 ∷ 0 ∷ 0 ∷ 0 ∷ 0 ∷ 0 ∷ 9 ∷ []) tt
norm_keeps_ranges_and_lost_ones = refl

norm_stops_at_a_bad_one : outcome (norm Demo Drop) (gone ∷ long ∷ one ∷ []) Closed
    ≡ broke (0 ∷ 0 ∷ 0 ∷ 0 ∷ 0 ∷ 0 ∷ 0 ∷ 9 ∷ []) (refusal_of 1 27 (Fault (fault R5 1)))
norm_stops_at_a_bad_one = refl

norm_names_a_cut : outcome (norm Demo Drop) (gone ∷ []) (Cut (record { place = 29 }))
    ≡ broke (0 ∷ 0 ∷ 0 ∷ 0 ∷ 0 ∷ 0 ∷ 0 ∷ 9 ∷ []) (refusal_of 1 29 StoreCut)
norm_names_a_cut = refl

-- 65,794 bytes of padding have 65,535 behind their length, which are kept; one more is not
abbrev padded : ℕ → Shown Item
padded pad = record_of 0 65798 0 (Packet Whole (shape_of 3 false pad) 65798) (0xF8 ∷ 0xAA ∷ [])

long_padding_is_refused : outcome (norm Raw Keep) (padded 65795 ∷ []) Closed
    ≡ broke [] (refusal_of 0 65798 PaddingLong)
long_padding_is_refused = refl

long_padding_is_dropped : outcome (norm Raw Drop) (padded 65795 ∷ []) Closed ≡ going (0xF8 ∷ 0xAA ∷ []) tt
long_padding_is_dropped = refl

the_most_padding_is_kept : outcome (norm Raw Keep) (padded 65794 ∷ []) Closed ≡ going (0xF8 ∷ 0xAA ∷ []) tt
the_most_padding_is_kept = refl

-- split: three frames in pieces of two, of which the last has the range, and a lost record as it is
abbrev three : Shown Item
three = record_of 8 13 7 (Packet Whole (shape_of 3 false 0) 5) (0xFB ∷ 3 ∷ 0xAA ∷ 0xBB ∷ 0xCC ∷ [])

split_keeps_the_range_at_the_last_piece : outcome (split Demo 2) (three ∷ gone ∷ []) Closed
    ≡ going (0 ∷ 0 ∷ 0 ∷ 3 ∷ 0 ∷ 0 ∷ 0 ∷ 0 ∷ 0xF9 ∷ 0xAA ∷ 0xBB ∷ 0 ∷ 0 ∷ 0 ∷ 2 ∷ 0 ∷ 0 ∷ 0 ∷ 7 ∷ 0xF8 ∷ 0xCC
    ∷ 0 ∷ 0 ∷ 0 ∷ 0 ∷ 0 ∷ 0 ∷ 0 ∷ 9 ∷ []) tt
unfolding lent_value canonical header_read header_bytes samples_of row_of
split_keeps_the_range_at_the_last_piece = refl

split_stops_at_a_bad_one : outcome (split Demo 2) (gone ∷ long ∷ three ∷ []) Closed
    ≡ broke (0 ∷ 0 ∷ 0 ∷ 0 ∷ 0 ∷ 0 ∷ 0 ∷ 9 ∷ []) (refusal_of 1 27 (Fault (fault R5 1)))
split_stops_at_a_bad_one = refl

-- merge: packets with a lost record behind them, in one group and in groups of one
abbrev single : ℕ → ℕ → Shown Item
single range byte = record_of 8 10 range (Packet Whole (shape_of 0 false 0) 2) (0xF8 ∷ byte ∷ [])

abbrev other : Shown Item
other = record_of 18 20 2 (Packet Whole (shape_of 0 false 0) 2) (0xFC ∷ 0xBB ∷ [])

abbrev sole : ℕ → ℕ → List ℕ
sole range byte = 0 ∷ 0 ∷ 0 ∷ 2 ∷ 0 ∷ 0 ∷ 0 ∷ range ∷ 0xF8 ∷ byte ∷ []

merge_writes_a_group_before_a_lost_one : outcome (merge Demo None) (single 1 0xAA ∷ single 2 0xBB ∷ gone ∷ []) Closed
    ≡ going (0 ∷ 0 ∷ 0 ∷ 3 ∷ 0 ∷ 0 ∷ 0 ∷ 2 ∷ 0xF9 ∷ 0xAA ∷ 0xBB ∷ 0 ∷ 0 ∷ 0 ∷ 0 ∷ 0 ∷ 0 ∷ 0 ∷ 9 ∷ []) tt
unfolding lent_value canonical header_read header_bytes samples_of row_of
merge_writes_a_group_before_a_lost_one = refl

merge_writes_a_full_group_at_once : outcome (merge Demo (Some 1)) (single 1 0xAA ∷ single 2 0xBB ∷ []) Past
    ≡ going (sole 1 0xAA ++ sole 2 0xBB) tt
unfolding lent_value canonical header_read header_bytes samples_of row_of
merge_writes_a_full_group_at_once = refl

merge_writes_no_open_group_at_a_cut : outcome (merge Demo None) (gone ∷ single 1 0xAA ∷ []) (Cut (record { place = 30 }))
    ≡ broke (0 ∷ 0 ∷ 0 ∷ 0 ∷ 0 ∷ 0 ∷ 0 ∷ 9 ∷ []) (refusal_of 2 30 StoreCut)
unfolding lent_value header_read header_bytes samples_of row_of
merge_writes_no_open_group_at_a_cut = refl

merge_refuses_other_channels : outcome (merge Demo None) (single 1 0xAA ∷ other ∷ []) Closed
    ≡ broke [] (refusal_of 1 20 MixedKind)
unfolding lent_value header_read header_bytes samples_of row_of
merge_refuses_other_channels = refl

-- show: packets of one frame with its flags, in mono and stereo
show_tells_the_flags_of_mono : outcome show (record_of 0 2 0 (Packet Whole (shape_of 0 false 0) 2) (0x08 ∷ 0x40 ∷ []) ∷ []) Closed
    ≡ going (codes "0.0: config 1 silk nb 960 samples mono, code 0, 1 frames, pad 0, 2 bytes" ++ 10 ∷ []
    ++ codes "0.0.0: 1 bytes mid 0/1" ++ 10 ∷ []) tt
unfolding digits kind_text spelling_text packet_line frame_line lent_value header_read header_bytes mode_of bandwidth_of samples_of row_of
show_tells_the_flags_of_mono = refl

show_tells_the_flags_of_stereo : outcome show (record_of 0 2 0 (Packet Whole (shape_of 0 false 0) 2) (0x1C ∷ 0x11 ∷ []) ∷ []) Closed
    ≡ going (codes "0.0: config 3 silk nb 2880 samples stereo, code 0, 1 frames, pad 0, 2 bytes" ++ 10 ∷ []
    ++ codes "0.0.0: 1 bytes mid 000/1 side 000/1" ++ 10 ∷ []) tt
unfolding digits kind_text spelling_text packet_line frame_line lent_value header_read header_bytes mode_of bandwidth_of samples_of row_of
show_tells_the_flags_of_stereo = refl

-- FB C2 02 01 AA BB 00 00, of which the kept form is lent: two frames, and padding of three bytes with its length
abbrev spelled : Shown Item
spelled = record_of 8 16 0 (Packet Whole (record { code = 3; vbr = true; pad = 3 }) 8) (0xF9 ∷ 0xAA ∷ 0xBB ∷ [])

show_tells_the_spelling_that_was_read : outcome show (spelled ∷ gone ∷ []) Closed
    ≡ going (codes "0.0: config 31 celt fb 960 samples mono, code 3, 2 frames, pad 3, 8 bytes" ++ 10 ∷ []
    ++ codes "0.0.0: 1 bytes" ++ 10 ∷ [] ++ codes "0.0.1: 1 bytes" ++ 10 ∷ [] ++ codes "1: lost" ++ 10 ∷ []) tt
unfolding digits kind_text spelling_text packet_line frame_line lent_value header_read header_bytes mode_of bandwidth_of samples_of row_of
show_tells_the_spelling_that_was_read = refl

show_stops_at_a_bad_one : outcome show (gone ∷ long ∷ one ∷ []) Closed
    ≡ broke (codes "0: lost" ++ 10 ∷ []) (refusal_of 1 27 (Fault (fault R5 1)))
unfolding digits
show_stops_at_a_bad_one = refl

-- lines, with the digits of their numbers
abbrev lines : List ℕ → List ℕ → List ℕ → List ℕ
lines none first second =
    (none ++ codes " " ++ codes "ok" ++ 10 ∷ [])
    ++ ((first ++ codes " " ++ (codes "R5" ++ codes " at " ++ first) ++ 10 ∷ [])
    ++ ((second ++ codes " " ++ codes "lost" ++ 10 ∷ []) ++ []))

three_lines : lines_from 0 (one ∷ long ∷ gone ∷ [])
    ≡ codes "0 ok" ++ 10 ∷ codes "1 R5 at 1" ++ 10 ∷ codes "2 lost" ++ 10 ∷ []
unfolding fault_text
three_lines =
    ap (λ d. lines d (decimal 1) (decimal 2)) (decimal_digit 0 (omega arith))
    ∙ ap (λ d. lines (codes "0") d (decimal 2)) (decimal_digit 1 (omega arith))
    ∙ ap (λ d. lines (codes "0") (codes "1") d) (decimal_digit 2 (omega arith))

-- check tells all of a store, and names the first fault at the end
check_goes_on_in_a_store : (text : List ℕ)
    × (outcome (check Demo) (one ∷ long ∷ gone ∷ long ∷ []) Closed ≡ broke text (refusal_of 1 27 (Fault (fault R5 1))))
check_goes_on_in_a_store = (_, refl)

-- in form self nothing behind a bad one is told
check_stops_in_form_self : (text : List ℕ)
    × (outcome (check SelfDelimited) (long ∷ one ∷ []) Closed ≡ broke text (refusal_of 0 27 (Fault (fault R5 1))))
    × (text ≡ check_line 0 (fault_text (fault R5 1)))
check_stops_in_form_self = (_, refl, refl)

check_is_not_refused_past_the_limit : (text : List ℕ) × (outcome (check Demo) (long ∷ []) Past ≡ going text tt)
check_is_not_refused_past_the_limit = (_, refl)

a_cut_comes_after_a_bad_one : (text : List ℕ)
    × (outcome (check Demo) (long ∷ []) (Cut (record { place = 30 })) ≡ broke text (refusal_of 0 27 (Fault (fault R5 1))))
a_cut_comes_after_a_bad_one = (_, refl)

a_cut_alone_is_named : (text : List ℕ)
    × (outcome (check Demo) (gone ∷ []) (Cut (record { place = 30 })) ≡ broke text (refusal_of 1 30 StoreCut))
a_cut_alone_is_named = (_, refl)

abbrev text_of_a_fault : List ℕ → List ℕ
text_of_a_fault digits = codes "R5" ++ codes " at " ++ digits

texts : refusal_text (Fault (fault R5 1)) ≡ codes "R5 at 1"
unfolding fault_text
texts = ap text_of_a_fault (decimal_digit 1 (omega arith))
