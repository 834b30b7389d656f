-- Which padding bytes norm keeps of multistream packets.
use Rattle.std.proofs.Common.{◌≡◌, ℕ, ◌+◌, Bool, true, false, nat_le, if◌then◌else◌, List, [], ◌∷◌, length, map, Option, None, Some, refl, sym, ap, ◌∙◌, subst, nat_lt, arith}
use Rattle.std.proofs.lemmas.Bool.{leb-false, ltb-false}
use Rattle.job_loop.specs.Shown.{Shown}
use Rattle.opus_packet.specs.Held.{HeldRead}
use Rattle.opus_packet.specs.Tail.{kept, counted, kept_bytes, max_tail}
use Rattle.opus_feed.specs.declared.padding.Padding.TheVariants.{Drop, Keep}
use Rattle.opus_feed.specs.Tails.{tail_kept}
use Rattle.opus_multi.specs.Streams.{SpelledStream}
use Rattle.opus_multi.specs.Parts.{dropped_of}
use Rattle.opus_multi.specs.Forms.{bare}
use Rattle.opus_words.specs.declared.form.Form.{Form}
use Rattle.stream_records.specs.declared.item.StreamsItem.{StreamsItem}
use Rattle.stream_records.specs.Holds.{HoldsStreams, held_as, spelling_of}
use Rattle.stream_jobs.specs.Each.{found_made, made_of}
use Rattle.job_ends.specs.Each.{writes, IsWritten}
use Rattle.stream_jobs.specs.Norm.{long_from, long_in, norm_packets, norm_makes}

-- ---- where padding bytes are dropped

none_kept : (tail : List ℕ) → kept_bytes (tail_kept Drop tail) ≡ []
none_kept [] = refl
none_kept (x ∷ xs) = refl

pub bare_held : (ss : List SpelledStream) → map (held_as Drop) ss ≡ map bare (map (λ s. s.value) ss)
bare_held [] = refl
bare_held (s ∷ ss) =
    ap (λ l. record { value = s.value; tail = l } ∷ map (held_as Drop) ss) (none_kept s.tail)
    ∙ ap (λ l. bare s.value ∷ l) (bare_held ss)

-- ---- where padding bytes are kept

-- a stream with all of its padding bytes
abbrev pub whole_held : SpelledStream → HeldRead
whole_held s = record { value = s.value; tail = s.tail }

none_long_by : (number : ℕ) (rest : Option ℕ) (b : Bool) → (if b then Some number else rest) ≡ None → (b ≡ false) × (rest ≡ None)
none_long_by number rest true e = let absent = e in cc
none_long_by number rest false e = (refl, e)

kept_whole : (tail : List ℕ) (b : Bool) → nat_le (length tail) max_tail ≡ b
    → nat_lt 0 (dropped_of (if b then kept tail else counted (length tail))) ≡ false
    → kept_bytes (if b then kept tail else counted (length tail)) ≡ tail
kept_whole tail true e none = refl
kept_whole tail false e none =
    absurd (omega (arith, leb-false (length tail) max_tail e, ltb-false 0 (length tail) none))

whole_from : (number : ℕ) (ss : List SpelledStream) → long_from number (map (spelling_of Keep) ss) ≡ None
    → map (held_as Keep) ss ≡ map whole_held ss
whole_from number [] none = refl
whole_from number (s ∷ ss) none =
    let both = none_long_by number (long_from (number + 1) (map (spelling_of Keep) ss))
    (nat_lt 0 (dropped_of (tail_kept Keep s.tail))) none in
    ap (λ l. record { value = s.value; tail = l } ∷ map (held_as Keep) ss)
    (kept_whole s.tail (nat_le (length s.tail) max_tail) refl both.0)
    ∙ ap (λ l. whole_held s ∷ l) (whole_from (number + 1) ss both.1)

not_refused : (form : Form) (streams : ℕ) (r : Shown StreamsItem) (o : Option ℕ) → IsWritten (norm_packets form streams r o)
    → o ≡ None
not_refused form streams r None written = refl
not_refused form streams r (Some stream) written = absurd written

pub kept_held : (form : Form) (streams number start range : ℕ) (bytes : List ℕ) (r : Shown StreamsItem) (text : List ℕ)
    → (holds : HoldsStreams (record { streams = streams; padding = Keep }) start range bytes r)
    → made_of streams (norm_makes form streams Keep) number r ≡ writes text
    → map (held_as Keep) holds.streams ≡ map (λ s. record { value = s.value; tail = s.tail }) holds.streams
kept_held form streams number start range bytes r text holds is =
    let made : made_of streams (norm_makes form streams Keep) number r ≡ norm_packets form streams r (long_in Keep r.item.streams.items) =
    ap (λ (s : Shown StreamsItem). found_made streams (norm_makes form streams Keep) number r s.item.found) holds.shows in
    let none = not_refused form streams r (long_in Keep r.item.streams.items) (subst IsWritten (sym is ∙ made) tt) in
    whole_from 0 holds.streams (sym (ap (λ (s : Shown StreamsItem). long_in Keep s.item.streams.items) holds.shows) ∙ none)
