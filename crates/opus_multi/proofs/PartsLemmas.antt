-- The parts of a multistream packet and what its bytes spell.
use Rattle.std.proofs.Common.{◌≡◌, ℕ, Bool, true, false, nat_le, if◌then◌else◌, List, [], ◌∷◌, length, map, refl, ap, sym, ◌∙◌, arith, leb-false}
use Rattle.std.proofs.lemmas.List.{length-map}
use Rattle.std.specs.List.{AllByRecursion}
use Rattle.opus_packet.specs.Value.{PacketValue}
use Rattle.opus_packet.specs.Read.{PacketRead}
use Rattle.opus_packet.specs.Tail.{kept, counted, kept_bytes, max_tail}
use Rattle.opus_feed.specs.declared.padding.Padding.{Padding}
use Rattle.opus_feed.specs.declared.padding.Padding.TheVariants.{Drop, Keep}
use Rattle.opus_feed.specs.Tails.{tail_kept}
use Rattle.opus_multi.specs.declared.part.Part.{Part}
use Rattle.opus_multi.specs.Parts.{dropped_of}
use Rattle.opus_multi.specs.Streams.{SpelledStream}
use Rattle.opus_multi.specs.Multistream.{IsMultistream}
use Rattle.opus_multi.specs.Readings.{stream_read, AreRead}
use Rattle.opus_multi.specs.StreamParts.{part_as, part_of, AreAllParts}
use Rattle.opus_multi.proofs.OnlyLemmas.{streams_once}

-- the bytes have one list of streams
same_streams : (count : ℕ) (padding : Padding) (vs : List PacketValue) (qs : List (List ℕ)) (bytes : List ℕ) (parts : List Part)
    → (a : AreAllParts count padding bytes parts) → length vs ≡ count → (m : IsMultistream vs qs bytes) → a.streams ≡ m.streams
same_streams count padding vs qs bytes parts a long m =
    streams_once a.streams m.streams bytes a.are m.are
    (a.counted ∙ sym long ∙ ap length m.values_are ∙ length-map m.streams (λ s. s.value))

parts_values : (padding : Padding) (ss : List SpelledStream)
    → map (λ p. p.held.value) (map (part_of padding) ss) ≡ map (λ s. s.value) ss
parts_values padding [] = refl
parts_values padding (s ∷ ss) = ap (λ l. s.value ∷ l) (parts_values padding ss)

pub all_values : (count : ℕ) (padding : Padding) (vs : List PacketValue) (qs : List (List ℕ)) (bytes : List ℕ) (parts : List Part)
    → AreAllParts count padding bytes parts → length vs ≡ count → IsMultistream vs qs bytes
    → map (λ p. p.held.value) parts ≡ vs
all_values count padding vs qs bytes parts a long m =
    rw (a.parts_are, parts_values padding a.streams, same_streams count padding vs qs bytes parts a long m) (sym m.values_are)

-- padding bytes that weren't dropped

tail_all_by : (q : List ℕ) (b : Bool) → nat_le (length q) max_tail ≡ b
    → dropped_of (if b then kept q else counted (length q)) ≡ 0 → kept_bytes (if b then kept q else counted (length q)) ≡ q
tail_all_by q true test none = refl
tail_all_by q false test none = absurd (omega (arith, leb-false (length q) max_tail test, none))

tail_all : (padding : Padding) (q : List ℕ) → dropped_of (tail_kept padding q) ≡ 0 → kept_bytes (tail_kept padding q) ≡ q
tail_all Drop [] none = refl
tail_all Drop (x ∷ xs) none = absurd (omega (arith, none))
tail_all Keep q none = tail_all_by q (nat_le (length q) max_tail) refl none

parts_tails : (padding : Padding) (ss : List SpelledStream) → AllByRecursion (λ p. p.dropped ≡ 0) (map (part_of padding) ss)
    → map (λ p. p.held.tail) (map (part_of padding) ss) ≡ map (λ s. s.tail) ss
parts_tails padding [] none = refl
parts_tails padding (s ∷ ss) none = rw (tail_all padding s.tail none.0, parts_tails padding ss none.1) refl

pub all_tails : (count : ℕ) (padding : Padding) (vs : List PacketValue) (qs : List (List ℕ)) (bytes : List ℕ) (parts : List Part)
    → AreAllParts count padding bytes parts → AllByRecursion (λ p. p.dropped ≡ 0) parts → length vs ≡ count
    → IsMultistream vs qs bytes → map (λ p. p.held.tail) parts ≡ qs
all_tails count padding vs qs bytes parts a none long m =
    rw (a.parts_are, parts_tails padding a.streams (rw a.parts_are at none), same_streams count padding vs qs bytes parts a long m) (sym m.tails_are)

-- with Keep they are copies of the packets that are read whole

parts_kept : (ss : List SpelledStream) → map (part_of Keep) ss ≡ map part_as (map stream_read ss)
parts_kept [] = refl
parts_kept (s ∷ ss) = ap (λ l. part_of Keep s ∷ l) (parts_kept ss)

pub all_kept : (count : ℕ) (bytes : List ℕ) (packets : List PacketRead) (parts : List Part) → AreRead count bytes packets
    → AreAllParts count Keep bytes parts → parts ≡ map part_as packets
all_kept count bytes packets parts r a =
    rw (a.parts_are, r.packets_are, streams_once a.streams r.streams bytes a.are r.are (a.counted ∙ sym r.counted)) (parts_kept r.streams)
