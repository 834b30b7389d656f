-- What the jobs make of a record that holds a multistream packet.
use Rattle.std.proofs.Common.{◌≡◌, ℕ, ◌+◌, ◌≤◌, nat_le, nat_lt, Bool, true, false, if◌then◌else◌, List, [], ◌∷◌, length, map, None, Some, option_map, ap, ◌∙◌, refl}
use Rattle.std.specs.List.{AllByRecursion, slice_get}
use Rattle.std.proofs.lemmas.Bool.{le-leb}
use Rattle.std.proofs.lemmas.Option.{slice_get-map}
use Rattle.job_loop.specs.Shown.{Shown}
use Rattle.opus_packet.specs.Tail.{max_tail, kept, counted}
use Rattle.opus_feed.specs.declared.padding.Padding.{Padding}
use Rattle.opus_feed.specs.declared.padding.Padding.TheVariants.{Drop, Keep}
use Rattle.opus_multi.specs.Streams.{SpelledStream}
use Rattle.opus_multi.specs.Parts.{dropped_of}
use Rattle.opus_multi.specs.Forms.{kept_multistream}
use Rattle.opus_words.specs.declared.form.Form.{Form}
use Rattle.pack_jobs.specs.Records.{record_bytes}
use Rattle.stream_records.specs.declared.item.StreamsItem.{StreamsItem}
use Rattle.stream_records.specs.Holds.{Choices, held_as, spelling_of, packets_record, HoldsStreams}
use Rattle.stream_jobs.specs.Each.{Makes, found_made, made_of}
use Rattle.job_ends.specs.Each.{writes}
use Rattle.stream_jobs.specs.Norm.{long_from, long_in, norm_packets, norm_makes}
use Rattle.stream_jobs.specs.Apart.{stream_record, stream_records, apart_makes}
use Rattle.stream_jobs.specs.Extract.{value_record, extract_makes}
use Rattle.stream_jobs.specs.Show.{stream_lines, show_makes}
use Rattle.stream_jobs.proofs.StreamsInLemmas.{streams-held}

-- what is made of a packet
held_made : (streams : ℕ) (makes : Makes) (number : ℕ) (c : Choices) (start range : ℕ) (bytes : List ℕ)
    (r : Shown StreamsItem) (holds : HoldsStreams c start range bytes r)
    → made_of streams makes number r ≡ makes.packets number r
held_made streams makes number c start range bytes r holds =
    ap (λ (s : Shown StreamsItem). found_made streams makes number r s.item.found) holds.shows

pub apart-held : (c : Choices) (number start range : ℕ) (bytes : List ℕ) (r : Shown StreamsItem)
    (holds : HoldsStreams c start range bytes r)
    → made_of c.streams (apart_makes c.streams) number r ≡ writes (stream_records (map (λ s. s.value) holds.streams))
apart-held c number start range bytes r holds =
    held_made c.streams (apart_makes c.streams) number c start range bytes r holds
    ∙ ap (λ vs. writes (stream_records vs)) (streams-held c start range bytes r holds)

pub extract-held : (c : Choices) (number stream start range : ℕ) (bytes : List ℕ) (r : Shown StreamsItem)
    (holds : HoldsStreams c start range bytes r) (s : SpelledStream) → slice_get holds.streams stream ≡ Some s
    → made_of c.streams (extract_makes c.streams stream) number r ≡ writes (stream_record s.value)
extract-held c number stream start range bytes r holds s is =
    held_made c.streams (extract_makes c.streams stream) number c start range bytes r holds
    ∙ ap (λ vs. writes (value_record (slice_get vs stream))) (streams-held c start range bytes r holds)
    ∙ ap (λ o. writes (value_record o)) (slice_get-map (λ s. s.value) holds.streams stream)
    ∙ ap (λ o. writes (value_record (option_map (λ s. s.value) o))) is

-- no padding bytes are lost that are to be kept

abbrev few : SpelledStream → Type 0
few s = length s.tail ≤ max_tail

none_dropped : (tail : List ℕ) (b : Bool) → nat_le (length tail) max_tail ≡ b → b ≡ true
    → dropped_of (if b then kept tail else counted (length tail)) ≡ 0
none_dropped tail true is all = refl
none_dropped tail false is all = absurd (cc)

none_long : (number : ℕ) (ss : List SpelledStream) → AllByRecursion few ss
    → long_from number (map (spelling_of Keep) ss) ≡ None
none_long number [] all = refl
none_long number (s ∷ ss) all =
    ap (λ n. if nat_lt 0 n then Some number else long_from (number + 1) (map (spelling_of Keep) ss))
    (none_dropped s.tail (nat_le (length s.tail) max_tail) refl (le-leb (length s.tail) max_tail all.0))
    ∙ none_long (number + 1) ss all.1

not_long : (padding : Padding) (ss : List SpelledStream) → AllByRecursion few ss
    → long_in padding (map (spelling_of padding) ss) ≡ None
not_long Drop ss all = refl
not_long Keep ss all = none_long 0 ss all

pub norm-held : (form : Form) (c : Choices) (number start range : ℕ) (bytes : List ℕ) (r : Shown StreamsItem)
    (holds : HoldsStreams c start range bytes r) → AllByRecursion (λ s. length s.tail ≤ max_tail) holds.streams
    → made_of c.streams (norm_makes form c.streams c.padding) number r
    ≡ writes (record_bytes form range (kept_multistream (map (held_as c.padding) holds.streams)))
norm-held form c number start range bytes r holds all =
    held_made c.streams (norm_makes form c.streams c.padding) number c start range bytes r holds
    ∙ ap (λ (s : Shown StreamsItem). norm_packets form c.streams s (long_in c.padding s.item.streams.items)) holds.shows
    ∙ ap (norm_packets form c.streams (packets_record c.padding start range holds.streams (length bytes)))
    (not_long c.padding holds.streams all)

pub norm-dropped : (form : Form) (streams number start range : ℕ) (bytes : List ℕ) (r : Shown StreamsItem)
    (holds : HoldsStreams (record { streams = streams; padding = Drop }) start range bytes r)
    → made_of streams (norm_makes form streams Drop) number r
    ≡ writes (record_bytes form range (kept_multistream (map (held_as Drop) holds.streams)))
norm-dropped form streams number start range bytes r holds =
    held_made streams (norm_makes form streams Drop) number (record { streams = streams; padding = Drop }) start range bytes
    r holds
    ∙ ap (λ (s : Shown StreamsItem). norm_packets form streams s None) holds.shows

pub show-held : (c : Choices) (number start range : ℕ) (bytes : List ℕ) (r : Shown StreamsItem)
    (holds : HoldsStreams c start range bytes r)
    → made_of c.streams (show_makes c.streams) number r
    ≡ writes (stream_lines number 0 (map (spelling_of c.padding) holds.streams) (map (λ s. s.value) holds.streams))
show-held c number start range bytes r holds =
    held_made c.streams (show_makes c.streams) number c start range bytes r holds
    ∙ ap (λ vs. writes (stream_lines number 0 r.item.streams.items vs)) (streams-held c start range bytes r holds)
    ∙ ap (λ (s : Shown StreamsItem). writes (stream_lines number 0 s.item.streams.items (map (λ s. s.value) holds.streams)))
    holds.shows
