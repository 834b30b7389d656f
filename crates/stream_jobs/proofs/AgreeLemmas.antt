-- What norm keeps of records of multistream packets: what they hold, and no more.
use Rattle.std.proofs.Common.{◌≡◌, ◌↔◌, ℕ, ◌+◌, ◌*◌, ◌^◌, ◌<◌, ◌≤◌, List, [], ◌∷◌, ◌++◌, length, drop, map, flat_map, Option, None, Some, refl, sym, ap, ◌∙◌, subst, append-nil, length-append, arith}
use Rattle.std.proofs.lemmas.List.{length-map}
use Rattle.std.specs.List.{AllByRecursion}
use Rattle.job_loop.specs.Shown.{Shown}
use Rattle.job_loop.specs.Meaning.{going, outcome}
use Rattle.job_loop.specs.declared.input_end.InputEnd.{InputEnd}
use Rattle.opus_packet.specs.Value.{IsPacketValue}
use Rattle.opus_packet.specs.Held.{HeldRead}
use Rattle.opus_feed.specs.declared.framing.Framing.TheVariants.{Whole, SelfDelimited as Delimited}
use Rattle.opus_feed.specs.declared.padding.Padding.{Padding}
use Rattle.opus_multi.specs.Streams.{SpelledStream, StandFirst, AreStreams}
use Rattle.opus_multi.specs.Forms.{IsKeptValue, kept_self_of, kept_multistream}
use Rattle.opus_multi.proofs.FormsLemmas.{kept_multistream-unique}
use Rattle.opus_words.specs.declared.form.Form.{Form}
use Rattle.opus_words.specs.declared.form.Form.TheVariants.{Raw, Demo, SelfDelimited}
use Rattle.rec_store.specs.DemoStore.{IsDemoRecord}
use Rattle.rec_store.proofs.DemoLemmas.{demo_record-front}
use Rattle.pack_records.specs.declared.cut.Cut.{Cut}
use Rattle.pack_records.proofs.LentLemmas.{tail-few}
use Rattle.job_ends.specs.Refusal.{told}
use Rattle.pack_jobs.specs.Records.{record_bytes}
use Rattle.pack_jobs.proofs.FormSizes.{form_sizes}
use Rattle.pack_jobs.proofs.SameLemmas.{demo_none}
use Rattle.stream_records.specs.declared.item.StreamsItem.{StreamsItem}
use Rattle.stream_records.specs.Holds.{Choices, held_as}
use Rattle.stream_jobs.specs.declared.refusal.StreamWhy.{StreamWhy}
use Rattle.stream_jobs.specs.Each.{found_made, made_of}
use Rattle.job_ends.specs.Each.{Made, text_of, texts_from, IsWritten, AreWritten}
use Rattle.stream_jobs.specs.Norm.{long_in, norm_packets, norm_makes, norm}
use Rattle.stream_jobs.specs.Contents.{Content, content_of, HoldsHeld, HasStreams, AreStored, IsOnePacket, AreContents}
use Rattle.job_ends.proofs.EachLemmas.{each_written}
use Rattle.stream_jobs.specs.Refusal.{cut_refusal}

-- ---- what is held of so many streams

first_values : (padding : Padding) (ss : List SpelledStream) (last : SpelledStream) (bytes rest : List ℕ)
    → StandFirst ss bytes rest → IsPacketValue last.value
    → AllByRecursion IsKeptValue (map (held_as padding) (ss ++ last ∷ []))
first_values padding [] last bytes rest h is = (record { value = is; tail = tail-few padding last.tail }, tt)
first_values padding (s ∷ ss) last bytes rest h is = (
  record { value = h.0.spelled.value; tail = tail-few padding s.tail },
  first_values padding ss last (drop s.size bytes) rest h.1 is,
)

pub record AreHeld (count : ℕ) (hs : List HeldRead) : Type 0 where
  pub counted : length hs ≡ count
  pub some : 1 ≤ length hs
  pub each : AllByRecursion IsKeptValue hs

streams_held : (padding : Padding) (ss : List SpelledStream) (bytes : List ℕ) → AreStreams ss bytes
    → AreHeld (length ss) (map (held_as padding) ss)
streams_held padding ss bytes a =
    let size = length-map ss (held_as padding) in
    let parts = ap (λ (l : List SpelledStream). length l) a.streams_are in
    record {
      counted = size;
      some = omega (arith, size, parts, length-append a.front (a.last ∷ []));
      each = subst (λ l. AllByRecursion IsKeptValue (map (held_as padding) l)) (sym a.streams_are)
          (first_values padding a.front a.last bytes a.rest a.stand a.ends.spelled.value);
    }

pub are_held : (c : Choices) (range : ℕ) (hs : List HeldRead) (r : Shown StreamsItem) → HoldsHeld c range hs r
    → AreHeld c.streams hs
are_held c range hs r h =
    subst (AreHeld c.streams) (sym h.held)
    (subst (λ n. AreHeld n (map (held_as c.padding) h.holds.streams)) h.holds.counted
    (streams_held c.padding h.holds.streams h.bytes h.holds.are))

-- the bytes of so many

pub form_some : (hs : List HeldRead) → 1 ≤ length hs → AllByRecursion IsKeptValue hs → 1 ≤ length (kept_multistream hs)
form_some [] some each = absurd (omega (arith, some))
form_some (h ∷ []) some each = (form_sizes Whole h.value h.tail each.0.value each.0.tail).0
form_some (h ∷ g ∷ hs) some each =
    omega (arith, length-append (kept_self_of h) (kept_multistream (g ∷ hs)), (form_sizes Delimited h.value h.tail each.0.value each.0.tail).0)

form_most : (hs : List HeldRead) → AllByRecursion IsKeptValue hs → length (kept_multistream hs) ≤ 500000 * length hs
form_most [] each = omega arith
form_most (h ∷ []) each = omega (arith, (form_sizes Whole h.value h.tail each.0.value each.0.tail).1)
form_most (h ∷ g ∷ hs) each =
    let behind = form_most (g ∷ hs) each.1 in
    omega (arith, behind, length-append (kept_self_of h) (kept_multistream (g ∷ hs)), (form_sizes Delimited h.value h.tail each.0.value each.0.tail).1)

-- ---- what norm writes for what a record holds

abbrev pub payload_in : Option (List HeldRead) → List ℕ
payload_in None = []
payload_in (Some hs) = kept_multistream hs

abbrev pub content_text : Form → Content → List ℕ
content_text form x = record_bytes form x.range (payload_in x.streams)

long_text : (form : Form) (streams : ℕ) (r : Shown StreamsItem) (o : Option ℕ) → IsWritten (norm_packets form streams r o)
    → text_of (norm_packets form streams r o) ≡ record_bytes form r.item.range r.bytes
long_text form streams r None written = refl
long_text form streams r (Some stream) written = absurd written

abbrev pub norm_made : Form → Choices → ℕ → Shown StreamsItem → Made StreamWhy
norm_made form c number r = made_of c.streams (norm_makes form c.streams c.padding) (told number) r

pub content_written : (form : Form) (c : Choices) (number range : ℕ) (o : Option (List HeldRead)) (r : Shown StreamsItem)
    → HasStreams c range o r → IsWritten (norm_made form c number r)
    → text_of (norm_made form c number r) ≡ record_bytes form range (payload_in o)
content_written form c number range None r has written = ap (λ s. text_of (norm_made form c number s)) has.1
content_written form c number range (Some hs) r has written =
    let long = long_in c.padding r.item.streams.items in
    let is : norm_made form c number r ≡ norm_packets form c.streams r long =
    ap (λ (s : Shown StreamsItem). found_made c.streams (norm_makes form c.streams c.padding) (told number) r s.item.found)
    has.holds.shows in
    ap text_of is ∙ long_text form c.streams r long (subst IsWritten is written)
    ∙ ap (λ (s : Shown StreamsItem). record_bytes form s.item.range s.bytes) has.holds.shows
    ∙ ap (λ l. record_bytes form range (kept_multistream l)) (sym has.held)

stored_text : (c : Choices) (number : ℕ) (rs : List (Shown StreamsItem)) (xs : List Content) → AreStored c rs xs
    → AreWritten (norm_made Demo c) number rs → texts_from (norm_made Demo c) number rs ≡ flat_map (content_text Demo) xs
stored_text c number [] [] are written = refl
stored_text c number [] (x ∷ xs) are written = absurd are
stored_text c number (r ∷ rs) [] are written = absurd are
stored_text c number (r ∷ rs) (x ∷ xs) are written =
    ap (λ l. l ++ texts_from (norm_made Demo c) (number + 1) rs)
    (content_written Demo c number x.range x.streams r are.0.has written.0)
    ∙ ap (λ l. content_text Demo x ++ l) (stored_text c (number + 1) rs xs are.1 written.1)

contents_text : (form : Form) (c : Choices) (rs : List (Shown StreamsItem)) (xs : List Content) → AreContents form c rs xs
    → AreWritten (norm_made form c) 0 rs → texts_from (norm_made form c) 0 rs ≡ flat_map (content_text form) xs
contents_text Raw c rs xs are written =
    let all = subst (AreWritten (norm_made Raw c) 0) are.records_are written in
    ap (texts_from (norm_made Raw c) 0) are.records_are
    ∙ ap (λ l. l ++ []) (content_written Raw c 0 0 (Some are.held) are.shown are.holds all.0)
    ∙ ap (flat_map (content_text Raw)) (sym are.contents_are)
contents_text Demo c rs xs are written = stored_text c 0 rs xs are written
contents_text SelfDelimited c rs xs are written = absurd are

-- ---- one text is that of one list of contents

abbrev pub IsHeld : ℕ → Option (List HeldRead) → Type 0
IsHeld count None = Unit {0}
IsHeld count (Some hs) = AreHeld count hs

pub held_fits : (count : ℕ) (o : Option (List HeldRead)) → count ≤ 255 → IsHeld count o → length (payload_in o) < 2 ^ 32
held_fits count None most held = omega arith
held_fits count (Some hs) most held = omega (arith, most, held.counted, form_most hs held.each)

none_held : (count : ℕ) (hs : List HeldRead) → AreHeld count hs → kept_multistream hs ≡ [] → ⊥
none_held count hs held e = absurd (omega (arith, ap (λ (l : List ℕ). length l) e, form_some hs held.some held.each))

same_held : (count : ℕ) (o p : Option (List HeldRead)) → IsHeld count o → IsHeld count p → payload_in o ≡ payload_in p
    → o ≡ p
same_held count None None a b e = refl
same_held count None (Some gs) a b e = absurd (none_held count gs b (sym e))
same_held count (Some hs) None a b e = absurd (none_held count hs a e)
same_held count (Some hs) (Some gs) a b e =
    ap (λ l. Some l) (kept_multistream-unique hs gs a.each b.each (a.counted ∙ sym b.counted) e)

has_held : (c : Choices) (range : ℕ) (o : Option (List HeldRead)) (r : Shown StreamsItem) → HasStreams c range o r
    → IsHeld c.streams o
has_held c range None r has = tt
has_held c range (Some hs) r has = are_held c range hs r has

stored_same : (c d : Choices) (rs ss : List (Shown StreamsItem)) (xs ys : List Content) → c.streams ≤ 255 → d.streams ≡ c.streams → AreStored c rs xs
    → AreStored d ss ys → flat_map (content_text Demo) xs ≡ flat_map (content_text Demo) ys → xs ≡ ys
stored_same c d [] [] [] [] most is p q e = refl
stored_same c d rs [] xs (y ∷ ys) most is p q e = absurd q
stored_same c d rs (s ∷ ss) xs [] most is p q e = absurd q
stored_same c d [] ss (x ∷ xs) ys most is p q e = absurd p
stored_same c d (r ∷ rs) ss [] ys most is p q e = absurd p
stored_same c d [] (s ∷ ss) [] (y ∷ ys) most is p q e =
    absurd (demo_none y.range (payload_in y.streams) (flat_map (content_text Demo) ys) e)
stored_same c d (r ∷ rs) [] (x ∷ xs) [] most is p q e =
    absurd (demo_none x.range (payload_in x.streams) (flat_map (content_text Demo) xs) (sym e))
stored_same c d (r ∷ rs) (s ∷ ss) (x ∷ xs) (y ∷ ys) most is p q e =
    let a = has_held c x.range x.streams r p.0.has in
    let b = subst (λ n. IsHeld n y.streams) is (has_held d y.range y.streams s q.0.has) in
    let first : IsDemoRecord x.range (payload_in x.streams) =
    record { range_fits = p.0.fits; payload_fits = held_fits c.streams x.streams most a } in
    let second : IsDemoRecord y.range (payload_in y.streams) =
    record { range_fits = q.0.fits; payload_fits = held_fits c.streams y.streams most b } in
    let parts = demo_record-front x.range y.range (payload_in x.streams) (payload_in y.streams)
    (flat_map (content_text Demo) xs) (flat_map (content_text Demo) ys) first second e in
    ap (λ n. content_of n x.streams ∷ xs) parts.0
    ∙ ap (λ o. content_of y.range o ∷ xs) (same_held c.streams x.streams y.streams a b parts.1)
    ∙ ap (λ l. y ∷ l) (stored_same c d rs ss xs ys most is p.1 q.1 parts.2)

one_same : (c d : Choices) (rs ss : List (Shown StreamsItem)) (xs ys : List Content) → d.streams ≡ c.streams → IsOnePacket c rs xs
    → IsOnePacket d ss ys → flat_map (content_text Raw) xs ≡ flat_map (content_text Raw) ys → xs ≡ ys
one_same c d rs ss xs ys is p q e =
    let own = are_held c 0 p.held p.shown p.holds in
    let other = are_held d 0 q.held q.shown q.holds in
    let both : kept_multistream p.held ≡ kept_multistream q.held =
    sym (append-nil (kept_multistream p.held)) ∙ ap (flat_map (content_text Raw)) (sym p.contents_are) ∙ e
    ∙ ap (flat_map (content_text Raw)) q.contents_are ∙ append-nil (kept_multistream q.held) in
    p.contents_are
    ∙ ap (λ l. content_of 0 (Some l) ∷ []) (kept_multistream-unique p.held q.held own.each other.each (own.counted ∙ sym is ∙ sym other.counted) both)
    ∙ sym q.contents_are

contents_same : (form : Form) (c d : Choices) (rs ss : List (Shown StreamsItem)) (xs ys : List Content) → c.streams ≤ 255 → d.streams ≡ c.streams
    → AreContents form c rs xs → AreContents form d ss ys
    → flat_map (content_text form) xs ≡ flat_map (content_text form) ys → xs ≡ ys
contents_same Raw c d rs ss xs ys most is p q e = one_same c d rs ss xs ys is p q e
contents_same Demo c d rs ss xs ys most is p q e = stored_same c d rs ss xs ys most is p q e
contents_same SelfDelimited c d rs ss xs ys most is p q e = absurd p

pub norm_text : (form : Form) (c : Choices) (rs : List (Shown StreamsItem)) (xs : List Content) (d : InputEnd Cut) (a : List ℕ)
    → AreContents form c rs xs → outcome (norm form c.streams c.padding) rs d ≡ going a tt
    → a ≡ flat_map (content_text form) xs
norm_text form c rs xs d a are e =
    let (written, uncut, is) = (each_written cut_refusal (norm_made form c) rs d a).0 e in
    is ∙ contents_text form c rs xs are written

pub norm_agree : (form : Form) (c d : Choices) (rs ss : List (Shown StreamsItem)) (xs ys : List Content)
    (u v : InputEnd Cut) (a b : List ℕ) → c.streams ≤ 255 → d.streams ≡ c.streams → AreContents form c rs xs
    → AreContents form d ss ys → outcome (norm form c.streams c.padding) rs u ≡ going a tt
    → outcome (norm form d.streams d.padding) ss v ≡ going b tt → (a ≡ b) ↔ (xs ≡ ys)
norm_agree form c d rs ss xs ys u v a b most is p q one two =
    let left = norm_text form c rs xs u a p one in
    let right = norm_text form d ss ys v b q two in (
      λ same. contents_same form c d rs ss xs ys most is p q (sym left ∙ same ∙ right),
      λ same. left ∙ ap (flat_map (content_text form)) same ∙ sym right,
    )
