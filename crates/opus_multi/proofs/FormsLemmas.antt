-- The written forms spell their values.
use Rattle.std.proofs.Common.{◌≡◌, ℕ, suc, ◌≤◌, List, [], ◌∷◌, ◌++◌, length, take, drop, map, refl, ap, sym, ◌∙◌, arith, length-append}
use Rattle.std.proofs.lemmas.List.{length-map}
use Rattle.std.proofs.Math.Seq.{take-append_seam, drop-append_seam}
use Rattle.std.specs.List.{AllByRecursion}
use Rattle.opus_packet.specs.Value.{PacketValue, IsPacketValue, duration_of}
use Rattle.opus_packet.specs.Held.{HeldRead}
use Rattle.opus_packet.specs.SelfGrammar.{IsSelfDelimited}
use Rattle.opus_packet.specs.Canonical.{keep_shape}
use Rattle.opus_packet.proofs.SpellingLemmas.{kept_form-nil}
use Rattle.opus_writer.proofs.FormLemmas.{kept_self-nil}
use Rattle.opus_writer.proofs.KeptLemmas.{kept-is_packet, kept_self-is_packet}
use Rattle.opus_multi.specs.Streams.{SpelledStream, StandFirst, IsLastStream, AreStreams}
use Rattle.opus_multi.specs.Durations.{HaveOneDuration}
use Rattle.opus_multi.specs.Multistream.{durations_of, IsMultistream}
use Rattle.opus_multi.specs.Forms.{canonical_multistream, bare, IsKeptValue, kept_of, kept_self_of, kept_multistream}
use Rattle.opus_multi.specs.Joins.{held_durations}
use Rattle.opus_multi.proofs.OnlyLemmas.{streams_once}

-- streams behind others

pub streams_after : (ss ts : List SpelledStream) (bytes rest : List ℕ) → StandFirst ss bytes rest → AreStreams ts rest
    → AreStreams (ss ++ ts) bytes
streams_after [] ts bytes rest e a = rw e a
streams_after (s ∷ ss) ts bytes rest h a =
    let r = streams_after ss ts (drop s.size bytes) rest h.1 a in
    record { front = s ∷ r.front; last = r.last; rest = r.rest; streams_are = ap (λ l. s ∷ l) r.streams_are; stand = (h.0, r.stand); ends = r.ends }

pub streams_behind : (s : SpelledStream) (ts : List SpelledStream) (packet bytes : List ℕ)
    → IsSelfDelimited s.value s.shape s.tail packet → s.size ≡ length packet → AreStreams ts bytes
    → AreStreams (s ∷ ts) (packet ++ bytes)
streams_behind s ts packet bytes p size a =
    let within : s.size ≤ length (packet ++ bytes) = omega (arith, size, length-append packet bytes) in
    let first : take s.size (packet ++ bytes) ≡ packet = rw (size, take-append_seam packet bytes) refl in
    let behind : drop s.size (packet ++ bytes) ≡ bytes = rw (size, drop-append_seam packet bytes) refl in
    streams_after (s ∷ []) ts (packet ++ bytes) bytes (record { within = within; spelled = rw first p }, behind) a

pub one_stream : (s : SpelledStream) (bytes : List ℕ) → IsLastStream s bytes → AreStreams (s ∷ []) bytes
one_stream s bytes ends = record { front = []; last = s; rest = bytes; streams_are = refl; stand = refl; ends = ends }

-- the streams of a kept form

self_stream : HeldRead → SpelledStream
self_stream h = record { value = h.value; shape = keep_shape (map length h.value.frames) (length h.tail); size = length (kept_self_of h); tail = h.tail }

last_stream : HeldRead → SpelledStream
last_stream h = record { value = h.value; shape = keep_shape (map length h.value.frames) (length h.tail); size = length (kept_of h); tail = h.tail }

kept_streams : List HeldRead → List SpelledStream
kept_streams [] = []
kept_streams (h ∷ []) = last_stream h ∷ []
kept_streams (h ∷ g ∷ hs) = self_stream h ∷ kept_streams (g ∷ hs)

kept_spelled : (hs : List HeldRead) → 1 ≤ length hs → AllByRecursion IsKeptValue hs
    → AreStreams (kept_streams hs) (kept_multistream hs)
unfolding last_stream self_stream kept_streams
kept_spelled [] some all = absurd (omega (arith, some))
kept_spelled (h ∷ []) some all =
    one_stream (last_stream h) (kept_of h) (record { size_is = refl; spelled = kept-is_packet h.value h.tail all.0.value all.0.tail })
kept_spelled (h ∷ g ∷ hs) some all =
    streams_behind (self_stream h) (kept_streams (g ∷ hs)) (kept_self_of h) (kept_multistream (g ∷ hs))
    (kept_self-is_packet h.value h.tail all.0.value all.0.tail) refl (kept_spelled (g ∷ hs) (omega arith) all.1)

kept_values : (hs : List HeldRead) → map (λ h. h.value) hs ≡ map (λ s. s.value) (kept_streams hs)
unfolding last_stream self_stream kept_streams
kept_values [] = refl
kept_values (h ∷ []) = refl
kept_values (h ∷ g ∷ hs) = ap (λ l. h.value ∷ l) (kept_values (g ∷ hs))

kept_tails : (hs : List HeldRead) → map (λ h. h.tail) hs ≡ map (λ s. s.tail) (kept_streams hs)
unfolding last_stream self_stream kept_streams
kept_tails [] = refl
kept_tails (h ∷ []) = refl
kept_tails (h ∷ g ∷ hs) = ap (λ l. h.tail ∷ l) (kept_tails (g ∷ hs))

kept_durations : (hs : List HeldRead) → held_durations hs ≡ durations_of (kept_streams hs)
unfolding last_stream self_stream kept_streams
kept_durations [] = refl
kept_durations (h ∷ []) = refl
kept_durations (h ∷ g ∷ hs) = ap (λ l. duration_of h.value ∷ l) (kept_durations (g ∷ hs))

pub kept-is_multistream : (hs : List HeldRead) → 1 ≤ length hs → AllByRecursion IsKeptValue hs
    → HaveOneDuration (held_durations hs)
    → IsMultistream (map (λ h. h.value) hs) (map (λ h. h.tail) hs) (kept_multistream hs)
kept-is_multistream hs some all one = record {
  streams = kept_streams hs;
  values_are = kept_values hs;
  tails_are = kept_tails hs;
  are = kept_spelled hs some all;
  duration = rw (kept_durations hs) at one;
}

-- two lists have two forms

back : SpelledStream → HeldRead
back s = record { value = s.value; tail = s.tail }

kept_back : (hs : List HeldRead) → map back (kept_streams hs) ≡ hs
unfolding back last_stream self_stream kept_streams
kept_back [] = refl
kept_back (h ∷ []) = refl
kept_back (h ∷ g ∷ hs) = ap (λ l. h ∷ l) (kept_back (g ∷ hs))

length-kept : (hs : List HeldRead) → length (kept_streams hs) ≡ length hs
unfolding kept_streams
length-kept [] = refl
length-kept (h ∷ []) = refl
length-kept (h ∷ g ∷ hs) = ap suc (length-kept (g ∷ hs))

pub kept_multistream-unique : (hs gs : List HeldRead) → AllByRecursion IsKeptValue hs → AllByRecursion IsKeptValue gs
    → length hs ≡ length gs → kept_multistream hs ≡ kept_multistream gs → hs ≡ gs
kept_multistream-unique [] [] all each same e = refl
kept_multistream-unique [] (g ∷ gs) all each same e = absurd (omega (arith, same))
kept_multistream-unique (h ∷ hs) [] all each same e = absurd (omega (arith, same))
kept_multistream-unique (h ∷ hs) (g ∷ gs) all each same e =
    let one = streams_once (kept_streams (h ∷ hs)) (kept_streams (g ∷ gs)) (kept_multistream (h ∷ hs))
    (kept_spelled (h ∷ hs) (omega arith) all) (rw e (kept_spelled (g ∷ gs) (omega arith) each))
    (rw (length-kept (h ∷ hs), length-kept (g ∷ gs)) same) in
    sym (kept_back (h ∷ hs)) ∙ ap (map back) one ∙ kept_back (g ∷ gs)

-- the canonical form is the kept form without padding bytes

canonical-kept : (vs : List PacketValue) → canonical_multistream vs ≡ kept_multistream (map bare vs)
canonical-kept [] = refl
canonical-kept (v ∷ []) = sym (kept_form-nil v)
canonical-kept (v ∷ w ∷ vs) = rw (canonical-kept (w ∷ vs), kept_self-nil v) refl

bare_values : (vs : List PacketValue) → map (λ h. h.value) (map bare vs) ≡ vs
bare_values [] = refl
bare_values (v ∷ vs) = ap (λ l. v ∷ l) (bare_values vs)

bare_durations : (vs : List PacketValue) → map duration_of vs ≡ held_durations (map bare vs)
bare_durations [] = refl
bare_durations (v ∷ vs) = ap (λ l. duration_of v ∷ l) (bare_durations vs)

bare_kept : (vs : List PacketValue) → AllByRecursion IsPacketValue vs → AllByRecursion IsKeptValue (map bare vs)
bare_kept [] all = tt
bare_kept (v ∷ vs) all = (record { value = all.0; tail = omega arith }, bare_kept vs all.1)

pub canonical-is_multistream : (vs : List PacketValue) → 1 ≤ length vs → AllByRecursion IsPacketValue vs
    → HaveOneDuration (map duration_of vs)
    → IsMultistream vs (map (λ h. h.tail) (map bare vs)) (canonical_multistream vs)
canonical-is_multistream vs some all one =
    let k = kept-is_multistream (map bare vs) (rw (length-map vs bare) some) (bare_kept vs all) (rw (bare_durations vs) at one) in
    record { streams = k.streams; values_are = sym (bare_values vs) ∙ k.values_are; tails_are = k.tails_are; are = rw (canonical-kept vs) k.are; duration = k.duration }

pub canonical_multistream-unique : (vs ws : List PacketValue) → AllByRecursion IsPacketValue vs
    → AllByRecursion IsPacketValue ws → length vs ≡ length ws → canonical_multistream vs ≡ canonical_multistream ws → vs ≡ ws
canonical_multistream-unique vs ws all each same e =
    let one = kept_multistream-unique (map bare vs) (map bare ws) (bare_kept vs all) (bare_kept ws each)
    (rw (length-map vs bare, length-map ws bare) same) (sym (canonical-kept vs) ∙ e ∙ canonical-kept ws) in
    sym (bare_values vs) ∙ ap (map (λ h. h.value)) one ∙ bare_values ws
