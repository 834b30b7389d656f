-- A store of packets of one stream is a store of packets, and both norms write the same of it.
use Rattle.std.proofs.Common.{◌≡◌, ℕ, ◌+◌, List, [], ◌∷◌, ◌++◌, length, map, None, inl, inr, refl, sym, ap, ◌∙◌, subst, arith, length-append}
use Rattle.job_loop.specs.Shown.{Shown}
use Rattle.job_loop.specs.Meaning.{going, outcome}
use Rattle.job_loop.specs.declared.input_end.InputEnd.TheVariants.{Closed}
use Rattle.opus_feed.specs.declared.framing.Framing.TheVariants.{Whole}
use Rattle.opus_feed.specs.declared.padding.Padding.TheVariants.{Drop}
use Rattle.opus_multi.specs.Streams.{SpelledStream, StandFirst, AreStreams, IsLastStream}
use Rattle.opus_multi.specs.Forms.{kept_multistream}
use Rattle.opus_words.specs.declared.form.Form.TheVariants.{Demo}
use Rattle.rec_store.specs.DemoStore.{demo_record}
use Rattle.pack_records.specs.declared.item.Item.{Item}
use Rattle.pack_records.specs.Demo.{StoreRecord, ShowsPayload, ShowsStore}
use Rattle.pack_records.specs.Holds as packets
use Rattle.pack_records.proofs.DemoFronts.{undecided_short}
use Rattle.job_ends.specs.Refusal.{told}
use Rattle.job_ends.specs.Each.{Made, writes, text_of, texts_from, IsWritten, AreWritten}
use Rattle.job_ends.proofs.EachLemmas.{each_written}
use Rattle.pack_jobs.specs.declared.refusal.Why.{Why}
use Rattle.pack_jobs.specs.Norm.{norm_found}
use Rattle.pack_jobs.specs.Refusal as packs
use Rattle.stream_records.specs.declared.item.StreamsItem.{StreamsItem}
use Rattle.stream_records.specs.Holds.{HoldsStreams, held_as, lost_record}
use Rattle.stream_records.specs.Demo as streams_demo
use Rattle.stream_jobs.specs.Refusal.{cut_refusal}
use Rattle.stream_jobs.specs.Apart.{apart_makes, apart}
use Rattle.stream_jobs.specs.JoinAgain.{with_range, IsJoinedAgain}
use Rattle.stream_jobs.specs.OneStream.{packet_with_range, IsNormOfPackets}
use Rattle.stream_jobs.proofs.ApartTaken.{apart_made}
use Rattle.stream_jobs.proofs.ContentsLemmas.{made_good}
use Rattle.stream_jobs.proofs.LawLemmas.{norm-dropped}
use Rattle.stream_jobs.proofs.RecordGroups.{norm_made, dropping, ranged}
use Rattle.stream_jobs.proofs.ShortLemmas.{whole_store}

abbrev packet_made : ℕ → Shown Item → Made Why
packet_made number r = norm_found Demo Drop r r.item.found

-- ---- one record

-- what is shown of it as a packet, and what both norms make of it with range 0
record HasPacket (start range : ℕ) (payload : List ℕ) (r : Shown StreamsItem) : Type 0 where
  shown : Shown Item
  shows : ShowsPayload Drop start range payload shown
  text : List ℕ
  streams : (number : ℕ) → norm_made 1 number (with_range 0 r) ≡ writes text
  packets : (number : ℕ) → packet_made number (packet_with_range 0 shown) ≡ writes text

lost_packet : (start range : ℕ) → HasPacket start range [] (lost_record start range)
lost_packet start range = record {
  shown = packets.lost_record start range;
  shows = refl;
  text = demo_record 0 [];
  streams = λ number. refl;
  packets = λ number. refl;
}

-- the bytes are the packet of the only stream
record IsOnly (ss : List SpelledStream) (bytes : List ℕ) : Type 0 where
  stream : SpelledStream
  only : ss ≡ stream ∷ []
  is : IsLastStream stream bytes

only_by : (front : List SpelledStream) (last : SpelledStream) (ss : List SpelledStream) → ss ≡ front ++ last ∷ []
    → length ss ≡ 1 → front ≡ []
only_by [] last ss is one = refl
only_by (f ∷ fs) last ss is one =
    absurd (omega (arith, ap (λ (l : List SpelledStream). length l) is, one, length-append fs (last ∷ [])))

only_stream : (ss : List SpelledStream) (bytes : List ℕ) → AreStreams ss bytes → length ss ≡ 1 → IsOnly ss bytes
only_stream ss bytes are one =
    let none = only_by are.front are.last ss are.streams_are one in
    record {
      stream = are.last;
      only = are.streams_are ∙ ap (λ l. l ++ are.last ∷ []) none;
      is = subst (IsLastStream are.last) (sym (subst (λ l. StandFirst l bytes are.rest) none are.stand)) are.ends;
    }

one_packet : (start range b : ℕ) (bs : List ℕ) (r : Shown StreamsItem)
    → HoldsStreams (dropping 1) start range (b ∷ bs) r → HasPacket start range (b ∷ bs) r
unfolding ranged
one_packet start range b bs r holds =
    let only = only_stream holds.streams (b ∷ bs) holds.are holds.counted in
    let s = only.stream in
    record {
      shown = packets.packet_record Drop Whole start range s.value s.shape s.tail (length (b ∷ bs));
      shows = inl record { value = s.value; shape = s.shape; tail = s.tail; reads = only.is.spelled; shows = refl };
      text = demo_record 0 (kept_multistream (map (held_as Drop) (s ∷ [])));
      streams = λ number.
          norm-dropped Demo 1 (told number) start 0 (b ∷ bs) (with_range 0 r) (ranged 1 start range (b ∷ bs) r holds)
          ∙ ap (λ ss. writes (demo_record 0 (kept_multistream (map (held_as Drop) ss)))) only.only;
      packets = λ number. refl;
    }

record_packet : (number start range : ℕ) (payload : List ℕ) (r : Shown StreamsItem)
    → streams_demo.ShowsPayload (dropping 1) start range payload r → IsWritten (apart_made 1 number r)
    → HasPacket start range payload r
record_packet number start range [] r shows written = subst (HasPacket start range []) (sym shows) (lost_packet start range)
record_packet number start range (b ∷ bs) r shows written =
    one_packet start range b bs r (made_good (dropping 1) (apart_makes 1) (told number) start range (b ∷ bs) r shows written)

-- ---- all of a store

record HasPackets (number at : ℕ) (ss : List StoreRecord) (rest : List ℕ) (rs : List (Shown StreamsItem)) : Type 0 where
  shown : List (Shown Item)
  shows : ShowsStore Drop at ss rest shown
  written : AreWritten packet_made number (map (packet_with_range 0) shown)
  text : texts_from packet_made number (map (packet_with_range 0) shown)
      ≡ texts_from (norm_made 1) number (map (with_range 0) rs)

no_packets : (number at : ℕ) → HasPackets number at [] [] []
no_packets number at = record {
  shown = [];
  shows = inr record { undecided = undecided_short [] (omega arith); shows = refl };
  written = tt;
  text = refl;
}

more_packets : (number at : ℕ) (s : StoreRecord) (ss : List StoreRecord) (rest : List ℕ) (r : Shown StreamsItem)
    (rs : List (Shown StreamsItem)) → HasPacket (at + 8) s.range s.payload r
    → HasPackets (number + 1) (at + (8 + length s.payload)) ss rest rs → HasPackets number at (s ∷ ss) rest (r ∷ rs)
more_packets number at s ss rest r rs p ps = record {
  shown = p.shown ∷ ps.shown;
  shows = (p.shows, ps.shows);
  written = (subst IsWritten (sym (p.packets number)) tt, ps.written);
  text = ap (λ m. text_of m ++ texts_from packet_made (number + 1) (map (packet_with_range 0) ps.shown)) (p.packets number)
      ∙ ap (λ l. p.text ++ l) ps.text
      ∙ ap (λ m. text_of m ++ texts_from (norm_made 1) (number + 1) (map (with_range 0) rs)) (sym (p.streams number));
}

end_packets : (number at : ℕ) (rest : List ℕ) (rs : List (Shown StreamsItem)) → rest ≡ []
    → streams_demo.ShowsRest 1 at rest rs → AreWritten (apart_made 1) number rs → HasPackets number at [] rest rs
end_packets number at rest rs none (inl early) written =
    let all = subst (AreWritten (apart_made 1) number) early.shows written in
    absurd (subst (λ (s : Shown StreamsItem). IsWritten (apart_made 1 number s)) early.early.holds.shows all.0)
end_packets number at rest rs none (inr past) written =
    subst (λ l. HasPackets number at [] l rs) (sym none) (subst (HasPackets number at [] []) (sym past.shows) (no_packets number at))

store_packets : (number at : ℕ) (ss : List StoreRecord) (rest : List ℕ) (rs : List (Shown StreamsItem)) → rest ≡ []
    → streams_demo.ShowsStore (dropping 1) at ss rest rs → AreWritten (apart_made 1) number rs
    → HasPackets number at ss rest rs
store_packets number at [] rest rs none shows written = end_packets number at rest rs none shows written
store_packets number at (s ∷ ss) rest [] none shows written = absurd shows
store_packets number at (s ∷ ss) rest (r ∷ rs) none shows written =
    more_packets number at s ss rest r rs (record_packet number (at + 8) s.range s.payload r shows.0 written.0)
    (store_packets (number + 1) (at + (8 + length s.payload)) ss rest rs none shows.1 written.1)

pub one_stream : (x : List ℕ) (rs : List (Shown StreamsItem)) (text : List ℕ)
    → streams_demo.DemoEnds (dropping 1) x rs None → outcome (apart 1) rs Closed ≡ going text tt
    → (again : IsJoinedAgain 1 rs text) → IsNormOfPackets x again.joined
one_stream x rs text ends e again =
    let front = ends.1 in
    let all = store_packets 0 0 front.whole ends.0 rs (whole_store (length x) ends.0 ends.2) front.shows
    ((each_written cut_refusal (apart_made 1) rs Closed text).0 e).0 in
    let normal = (each_written cut_refusal (norm_made 1) (map (with_range 0) rs) Closed again.joined).0 again.norms in
    record {
      records = all.shown;
      ends = (
        ends.0,
        record {
          are_bytes = front.are_bytes;
          whole = front.whole;
          are = front.are;
          parts = front.parts;
          none = front.none;
          shows = all.shows;
        },
        ends.2,
      );
      norms = (each_written packs.cut_refusal packet_made (map (packet_with_range 0) all.shown) Closed again.joined).1
          (all.written, tt, normal.2 ∙ sym all.text);
    }
