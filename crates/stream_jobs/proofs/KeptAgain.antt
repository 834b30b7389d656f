-- A kept form of streams is read again, and the same is kept of it.
use Rattle.std.proofs.Common.{◌≡◌, ℕ, ◌≤◌, List, [], ◌∷◌, ◌++◌, length, drop, map, refl, sym, ap, ◌∙◌, subst}
use Rattle.std.proofs.lemmas.List.{length-map}
use Rattle.std.specs.List.{AllByRecursion, concat}
use Rattle.job_loop.specs.Shown.{Shown}
use Rattle.opus_packet.specs.Value.{PacketValue, IsPacketValue}
use Rattle.opus_packet.specs.PacketPrefix.{AreBytes}
use Rattle.opus_packet.specs.PacketGrammar.{header_for}
use Rattle.opus_packet.specs.SelfGrammar.{self_header_bytes}
use Rattle.opus_packet.specs.Header.{header_bytes}
use Rattle.opus_packet.specs.Held.{HeldRead}
use Rattle.opus_packet.specs.Tail.{kept_bytes, max_tail}
use Rattle.opus_packet.proofs.BytesLemmas.{AreBytes-append, AreBytes-left, AreBytes-right, AreBytes-take, AreBytes-drop}
use Rattle.opus_feed.specs.declared.framing.Framing.TheVariants.{Whole, SelfDelimited as Delimited}
use Rattle.opus_feed.specs.declared.padding.Padding.{Padding}
use Rattle.opus_feed.specs.Tails.{tail_kept}
use Rattle.opus_multi.specs.Streams.{SpelledStream, BeginsWithStream, StandFirst, IsLastStream, AreStreams}
use Rattle.opus_multi.specs.Durations.{HaveOneDuration}
use Rattle.opus_multi.specs.Multistream.{durations_of, IsMultistream}
use Rattle.opus_multi.specs.Forms.{kept_self_of, kept_multistream}
use Rattle.opus_words.specs.declared.form.Form.{Form}
use Rattle.job_ends.specs.Refusal.{told}
use Rattle.pack_jobs.proofs.FormBytes.{form-are}
use Rattle.pack_jobs.proofs.KeptBytes.{kept_of, kept_again, kept_are}
use Rattle.stream_records.specs.declared.item.StreamsItem.{StreamsItem}
use Rattle.stream_records.specs.Holds.{Choices, HoldsStreams, held_as, packets_record}
use Rattle.stream_records.proofs.LentLemmas.{lent_values}
use Rattle.job_ends.specs.Each.{IsWritten}
use Rattle.pack_records.proofs.LentLemmas.{tail-few}
use Rattle.stream_jobs.specs.Contents.{HoldsHeld}
use Rattle.stream_jobs.proofs.LawLemmas.{norm-held}
use Rattle.stream_jobs.proofs.AgreeLemmas.{norm_made}

-- ---- the bytes of a kept form

-- a value whose frames and padding bytes are bytes
record IsOwn (h : HeldRead) : Type 0 where
  value : IsPacketValue h.value
  frames : AreBytes (concat h.value.frames)
  tail : AreBytes h.tail

own_first : (padding : Padding) (s : SpelledStream) (bytes : List ℕ) → BeginsWithStream s bytes → AreBytes bytes
    → IsOwn (held_as padding s)
own_first padding s bytes stands are =
    let is = stands.spelled in
    let header = self_header_bytes s.value s.shape in
    let all = subst AreBytes is.spelled (AreBytes-take s.size bytes are) in
    record {
      value = is.value;
      frames = AreBytes-right header (concat s.value.frames) (AreBytes-left (header ++ concat s.value.frames) s.tail all);
      tail = kept_are padding s.tail (AreBytes-right (header ++ concat s.value.frames) s.tail all);
    }

own_last : (padding : Padding) (s : SpelledStream) (bytes : List ℕ) → IsLastStream s bytes → AreBytes bytes
    → IsOwn (held_as padding s)
own_last padding s bytes ends are =
    let is = ends.spelled in
    let header = header_bytes (header_for s.value s.shape) in
    let all = subst AreBytes is.spelled are in
    record {
      value = is.value;
      frames = AreBytes-right header (concat s.value.frames) (AreBytes-left (header ++ concat s.value.frames) s.tail all);
      tail = kept_are padding s.tail (AreBytes-right (header ++ concat s.value.frames) s.tail all);
    }

own_by : (padding : Padding) (ss : List SpelledStream) (last : SpelledStream) (bytes rest : List ℕ)
    → StandFirst ss bytes rest → IsLastStream last rest → AreBytes bytes
    → AllByRecursion IsOwn (map (held_as padding) (ss ++ last ∷ []))
own_by padding [] last bytes rest stand ends are = (own_last padding last rest ends (subst AreBytes stand are), tt)
own_by padding (s ∷ ss) last bytes rest stand ends are = (
  own_first padding s bytes stand.0 are,
  own_by padding ss last (drop s.size bytes) rest stand.1 ends (AreBytes-drop s.size bytes are),
)

own_streams : (padding : Padding) (ss : List SpelledStream) (bytes : List ℕ) → AreStreams ss bytes → AreBytes bytes
    → AllByRecursion IsOwn (map (held_as padding) ss)
own_streams padding ss bytes a are =
    subst (λ l. AllByRecursion IsOwn (map (held_as padding) l)) (sym a.streams_are)
    (own_by padding a.front a.last bytes a.rest a.stand a.ends are)

multistream-are : (hs : List HeldRead) → AllByRecursion IsOwn hs → AreBytes (kept_multistream hs)
multistream-are [] own = tt
multistream-are (h ∷ []) own = form-are Whole h.value h.tail own.0.value own.0.frames own.0.tail
multistream-are (h ∷ g ∷ hs) own =
    AreBytes-append (kept_self_of h) (kept_multistream (g ∷ hs))
    (form-are Delimited h.value h.tail own.0.value own.0.frames own.0.tail) (multistream-are (g ∷ hs) own.1)

-- ---- a kept form that is read again

-- the kept form of these is a multistream packet of streams of which the same is kept, and all of it
pub record IsAgain (c : Choices) (hs : List HeldRead) : Type 0 where
  pub streams : List SpelledStream
  pub counted : length streams ≡ c.streams
  pub are : AreStreams streams (kept_multistream hs)
  pub duration : HaveOneDuration (durations_of streams)
  pub held : hs ≡ map (held_as c.padding) streams
  pub few : AllByRecursion (λ s. length s.tail ≤ max_tail) streams
  pub bytes : AreBytes (kept_multistream hs)

abbrev values_in : List SpelledStream → List PacketValue
values_in ss = map (λ s. s.value) ss

abbrev tails_in : List SpelledStream → List (List ℕ)
tails_in ss = map (λ s. s.tail) ss

abbrev kept_tails : Padding → List SpelledStream → List (List ℕ)
kept_tails padding ss = map (λ s. kept_bytes (tail_kept padding s.tail)) ss

held_again : (padding : Padding) (ss ts : List SpelledStream) → values_in ss ≡ values_in ts
    → kept_tails padding ss ≡ tails_in ts → map (held_as padding) ss ≡ map (held_as padding) ts
held_again padding [] [] values tails = refl
held_again padding [] (t ∷ ts) values tails = let e = values in cc
held_again padding (s ∷ ss) [] values tails = let e = values in cc
held_again padding (s ∷ ss) (t ∷ ts) values tails =
    let value : s.value ≡ t.value = cc in
    let tail : kept_of padding s.tail ≡ t.tail = cc in
    let more : values_in ss ≡ values_in ts = cc in
    let rest : kept_tails padding ss ≡ tails_in ts = cc in
    ap (λ v. record { value = v; tail = kept_of padding s.tail } ∷ map (held_as padding) ss) value
    ∙ ap (λ l. record { value = t.value; tail = l } ∷ map (held_as padding) ss)
    (sym (kept_again padding s.tail) ∙ ap (kept_of padding) tail)
    ∙ ap (λ l. held_as padding t ∷ l) (held_again padding ss ts more rest)

few_again : (padding : Padding) (ss ts : List SpelledStream) → kept_tails padding ss ≡ tails_in ts
    → AllByRecursion (λ s. length s.tail ≤ max_tail) ts
few_again padding ss [] tails = tt
few_again padding [] (t ∷ ts) tails = let e = tails in cc
few_again padding (s ∷ ss) (t ∷ ts) tails =
    let tail : kept_of padding s.tail ≡ t.tail = cc in
    let rest : kept_tails padding ss ≡ tails_in ts = cc in
    (subst (λ l. length l ≤ max_tail) tail (tail-few padding s.tail), few_again padding ss ts rest)

abbrev pub held_in : (c : Choices) (start range : ℕ) (bytes : List ℕ) (r : Shown StreamsItem) → HoldsStreams c start range bytes r
    → List HeldRead
held_in c start range bytes r holds = map (held_as c.padding) holds.streams

pub is_again : (c : Choices) (start range : ℕ) (bytes : List ℕ) (r : Shown StreamsItem) (holds : HoldsStreams c start range bytes r)
    → AreBytes bytes → IsAgain c (held_in c start range bytes r holds)
is_again c start range bytes r holds are =
    let ss = holds.streams in
    let m = subst (IsMultistream (values_in ss) (kept_tails c.padding ss)) (ap (λ (s : Shown StreamsItem). s.bytes) holds.shows)
    (lent_values c start range bytes r holds) in
    record {
      streams = m.streams;
      counted = sym (length-map m.streams (λ (s : SpelledStream). s.value)) ∙ ap (λ (l : List PacketValue). length l) (sym m.values_are)
          ∙ length-map ss (λ (s : SpelledStream). s.value) ∙ holds.counted;
      are = m.are;
      duration = m.duration;
      held = held_again c.padding ss m.streams m.values_are m.tails_are;
      few = few_again c.padding ss m.streams m.tails_are;
      bytes = multistream-are (map (held_as c.padding) ss) (own_streams c.padding ss bytes holds.are are);
    }

-- the record of it

abbrev pub next_record : (c : Choices) (hs : List HeldRead) → IsAgain c hs → ℕ → ℕ → Shown StreamsItem
next_record c hs a at range = packets_record c.padding at range a.streams (length (kept_multistream hs))

pub next_holds : (c : Choices) (hs : List HeldRead) (a : IsAgain c hs) (at range : ℕ)
    → HoldsStreams c at range (kept_multistream hs) (next_record c hs a at range)
next_holds c hs a at range =
    record { streams = a.streams; counted = a.counted; are = a.are; duration = a.duration; shows = refl }

pub next_held : (c : Choices) (hs : List HeldRead) (a : IsAgain c hs) (at range : ℕ)
    → HoldsHeld c range hs (next_record c hs a at range)
unfolding next_holds
next_held c hs a at range =
    record { start = at; bytes = kept_multistream hs; holds = next_holds c hs a at range; held = a.held }

pub next_written : (form : Form) (c : Choices) (number : ℕ) (hs : List HeldRead) (a : IsAgain c hs) (at range : ℕ)
    → IsWritten (norm_made form c number (next_record c hs a at range))
unfolding next_holds
next_written form c number hs a at range =
    subst IsWritten (sym (norm-held form c (told number) at range (kept_multistream hs) (next_record c hs a at range)
    (next_holds c hs a at range) a.few)) tt
