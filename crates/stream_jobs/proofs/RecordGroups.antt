-- What apart, and norm with range 0, make of one record: a group of the store of which join makes the same.
use Rattle.std.proofs.Common.{◌≡◌, ℕ, zero, suc, List, [], ◌∷◌, ◌++◌, length, take, drop, map, replicate, Option, None, Some, refl, sym, ap, ◌∙◌, subst}
use Rattle.std.proofs.lemmas.List.{length-map}
use Rattle.std.specs.List.{AllByRecursion, concat}
use Rattle.job_loop.specs.Shown.{Shown}
use Rattle.rec_store.specs.DemoStore.{demo_record}
use Rattle.opus_packet.specs.declared.shape.Shape.{Shape}
use Rattle.opus_packet.specs.Value.{PacketValue, duration_of}
use Rattle.opus_packet.specs.PacketPrefix.{AreBytes}
use Rattle.opus_packet.specs.PacketGrammar.{IsPacket, header_for}
use Rattle.opus_packet.specs.SelfGrammar.{IsSelfDelimited, self_header_bytes}
use Rattle.opus_packet.specs.Header.{header_bytes}
use Rattle.opus_packet.specs.Canonical.{canonical}
use Rattle.opus_packet.proofs.BytesLemmas.{AreBytes-left, AreBytes-right, AreBytes-take, AreBytes-drop}
use Rattle.opus_packet.proofs.SpellingLemmas.{kept_form-nil}
use Rattle.opus_writer.proofs.FormLemmas.{kept_self-nil}
use Rattle.opus_feed.specs.declared.padding.Padding.TheVariants.{Drop}
use Rattle.opus_multi.specs.Streams.{SpelledStream, StandFirst, AreStreams}
use Rattle.opus_multi.specs.Multistream.{durations_of}
use Rattle.opus_multi.specs.Forms.{canonical_multistream, kept_multistream, bare}
use Rattle.opus_words.specs.declared.form.Form.TheVariants.{Demo}
use Rattle.pack_records.specs.Demo.{store_of}
use Rattle.job_ends.specs.Refusal.{told}
use Rattle.stream_records.specs.declared.item.StreamsItem.{StreamsItem}
use Rattle.stream_records.specs.Holds.{Choices, HoldsStreams, held_as, lost_record}
use Rattle.stream_records.specs.Demo as streams_demo
use Rattle.pack_jobs.proofs.FramesAgain.{IsByteValue}
use Rattle.stream_jobs.specs.declared.refusal.StreamWhy.{StreamWhy}
use Rattle.stream_jobs.specs.Each.{made_of}
use Rattle.job_ends.specs.Each.{Made, writes, IsWritten}
use Rattle.stream_jobs.specs.Norm.{norm_makes}
use Rattle.stream_jobs.specs.Apart.{stream_records, lost_records, apart_makes}
use Rattle.stream_jobs.specs.JoinParts.{samples_in}
use Rattle.stream_jobs.specs.Join.{packets_in}
use Rattle.stream_jobs.specs.JoinAgain.{with_range}
use Rattle.stream_jobs.proofs.LawLemmas.{apart-held, norm-dropped}
use Rattle.stream_jobs.proofs.ContentsLemmas.{made_good}
use Rattle.stream_jobs.proofs.PaddingLemmas.{bare_held}
use Rattle.stream_jobs.proofs.ApartTaken.{apart_made}
use Rattle.stream_jobs.proofs.OwnStores.{AreOwn, stored}

-- ---- what becomes of one record

abbrev pub norm_made : ℕ → ℕ → Shown StreamsItem → Made StreamWhy
norm_made streams number r = made_of streams (norm_makes Demo streams Drop) (told number) r

pub record HasGroup (streams : ℕ) (r : Shown StreamsItem) : Type 0 where
  pub values : List (Option PacketValue)
  pub full : length values ≡ streams
  pub samples : Option ℕ
  pub alike : AllByRecursion (λ o. samples_in o ≡ samples) values
  pub own : AllByRecursion AreOwn values
  pub aparts : (number : ℕ) → apart_made streams number r ≡ writes (store_of (map stored values))
  pub norms : (number : ℕ) → norm_made streams number (with_range 0 r)
      ≡ writes (demo_record 0 (canonical_multistream (packets_in values)))

-- lost

abbrev lost_values : ℕ → List (Option PacketValue)
lost_values n = replicate n None

lost_full : (n : ℕ) → length (lost_values n) ≡ n
lost_full zero = refl
lost_full (suc n) = ap suc (lost_full n)

lost_alike : (n : ℕ) → AllByRecursion (λ o. samples_in o ≡ None) (lost_values n)
lost_alike zero = tt
lost_alike (suc n) = (refl, lost_alike n)

lost_own : (n : ℕ) → AllByRecursion AreOwn (lost_values n)
lost_own zero = tt
lost_own (suc n) = (tt, lost_own n)

lost_store : (n : ℕ) → lost_records n ≡ store_of (map stored (lost_values n))
lost_store zero = refl
lost_store (suc n) = ap (λ l. demo_record 0 [] ++ l) (lost_store n)

lost_form : (n : ℕ) → [] ≡ canonical_multistream (packets_in (lost_values n))
lost_form zero = refl
lost_form (suc n) = lost_form n

lost_group : (streams start range : ℕ) → HasGroup streams (lost_record start range)
lost_group streams start range = record {
  values = lost_values streams;
  full = lost_full streams;
  samples = None;
  alike = lost_alike streams;
  own = lost_own streams;
  aparts = λ number. ap writes (lost_store streams);
  norms = λ number. ap (λ l. writes (demo_record 0 l)) (lost_form streams);
}

-- a multistream packet

own_self : (v : PacketValue) (shape : Shape) (tail bytes : List ℕ) → IsSelfDelimited v shape tail bytes → AreBytes bytes → IsByteValue v
own_self v shape tail bytes is are =
    let front = AreBytes-left (self_header_bytes v shape ++ concat v.frames) tail (subst AreBytes is.spelled are) in
    record { value = is.value; frames = AreBytes-right (self_header_bytes v shape) (concat v.frames) front }

own_whole : (v : PacketValue) (shape : Shape) (tail bytes : List ℕ) → IsPacket v shape tail bytes → AreBytes bytes → IsByteValue v
own_whole v shape tail bytes is are =
    let front = AreBytes-left (header_bytes (header_for v shape) ++ concat v.frames) tail (subst AreBytes is.spelled are) in
    record { value = is.value; frames = AreBytes-right (header_bytes (header_for v shape)) (concat v.frames) front }

abbrev pub some_values : List SpelledStream → List (Option PacketValue)
some_values ss = map (λ s. Some s.value) ss

own_by : (ss : List SpelledStream) (last : SpelledStream) (bytes rest : List ℕ) → StandFirst ss bytes rest → AreBytes bytes
    → (AreBytes rest → IsByteValue last.value) → AllByRecursion AreOwn (some_values (ss ++ last ∷ []))
own_by [] last bytes rest stand are ends = (ends (subst AreBytes stand are), tt)
own_by (s ∷ ss) last bytes rest stand are ends = (
  own_self s.value s.shape s.tail (take s.size bytes) stand.0.spelled (AreBytes-take s.size bytes are),
  own_by ss last (drop s.size bytes) rest stand.1 (AreBytes-drop s.size bytes are) ends,
)

own_streams : (ss : List SpelledStream) (bytes : List ℕ) → AreStreams ss bytes → AreBytes bytes
    → AllByRecursion AreOwn (some_values ss)
own_streams ss bytes a are =
    subst (λ l. AllByRecursion AreOwn (some_values l)) (sym a.streams_are)
    (own_by a.front a.last bytes a.rest a.stand are (own_whole a.last.value a.last.shape a.last.tail a.rest a.ends.spelled))

same_samples : (first : ℕ) (ss : List SpelledStream) → durations_of ss ≡ replicate (length (durations_of ss)) first
    → AllByRecursion (λ o. samples_in o ≡ Some first) (some_values ss)
same_samples first [] e = tt
same_samples first (s ∷ ss) e =
    let own : duration_of s.value ≡ first = cc in
    let behind : durations_of ss ≡ replicate (length (durations_of ss)) first = cc in
    (ap (λ n. Some n) own, same_samples first ss behind)

some_store : (ss : List SpelledStream)
    → stream_records (map (λ s. s.value) ss) ≡ store_of (map stored (some_values ss))
some_store [] = refl
some_store (s ∷ ss) = ap (λ l. demo_record 0 (canonical s.value) ++ l) (some_store ss)

some_packets : (ss : List SpelledStream) → map (λ s. s.value) ss ≡ packets_in (some_values ss)
some_packets [] = refl
some_packets (s ∷ ss) = ap (λ l. s.value ∷ l) (some_packets ss)

canonical-bare : (vs : List PacketValue) → kept_multistream (map bare vs) ≡ canonical_multistream vs
canonical-bare [] = refl
canonical-bare (v ∷ []) = kept_form-nil v
canonical-bare (v ∷ w ∷ vs) = rw (sym (canonical-bare (w ∷ vs)), kept_self-nil v) refl

pub some_form : (ss : List SpelledStream)
    → kept_multistream (map (held_as Drop) ss) ≡ canonical_multistream (packets_in (some_values ss))
some_form ss =
    ap kept_multistream (bare_held ss) ∙ canonical-bare (map (λ s. s.value) ss) ∙ ap canonical_multistream (some_packets ss)

abbrev pub dropping : ℕ → Choices
dropping streams = record { streams = streams; padding = Drop }

unfoldable pub ranged : (streams start range : ℕ) (bytes : List ℕ) (r : Shown StreamsItem) → HoldsStreams (dropping streams) start range bytes r
    → HoldsStreams (dropping streams) start 0 bytes (with_range 0 r)
ranged streams start range bytes r holds = record {
  streams = holds.streams;
  counted = holds.counted;
  are = holds.are;
  duration = holds.duration;
  shows = ap (with_range 0) holds.shows;
}

packets_group : (streams start range : ℕ) (bytes : List ℕ) (r : Shown StreamsItem) → AreBytes bytes
    → HoldsStreams (dropping streams) start range bytes r → HasGroup streams r
unfolding ranged
packets_group streams start range bytes r are holds = record {
  values = some_values holds.streams;
  full = length-map holds.streams (λ (s : SpelledStream). Some s.value) ∙ holds.counted;
  samples = Some holds.duration.0;
  alike = same_samples holds.duration.0 holds.streams holds.duration.1;
  own = own_streams holds.streams bytes holds.are are;
  aparts = λ number. apart-held (dropping streams) (told number) start range bytes r holds ∙ ap writes (some_store holds.streams);
  norms = λ number. norm-dropped Demo streams (told number) start 0 bytes (with_range 0 r) (ranged streams start range bytes r holds)
      ∙ ap (λ l. writes (demo_record 0 l)) (some_form holds.streams);
}

pub one_group : (streams number start range : ℕ) (payload : List ℕ) (r : Shown StreamsItem) → AreBytes payload
    → streams_demo.ShowsPayload (dropping streams) start range payload r → IsWritten (apart_made streams number r)
    → HasGroup streams r
one_group streams number start range [] r are shows written =
    subst (HasGroup streams) (sym shows) (lost_group streams start range)
one_group streams number start range (b ∷ bs) r are shows written =
    packets_group streams start range (b ∷ bs) r are
    (made_good (dropping streams) (apart_makes streams) (told number) start range (b ∷ bs) r shows written)
