-- What a packet that is read in pieces holds, once it is decided.
use Rattle.std.proofs.Common.{◌≡◌, ℕ, ◌+◌, ◌<◌, ◌≤◌, List, [], ◌++◌, length, take, drop, take-append-drop, refl, sym, ap, ◌∙◌, subst, length-append, length-take-le, take_all, Ok, inl, inr, ⊎_elim, arith}
use Rattle.std.proofs.lemmas.Bool.{cases_lt}
use Rattle.opus_packet.proofs.BytesLemmas.{AreBytes-take}
use Rattle.std.proofs.Math.Seq.{take-append-add, take-append_seam}
use Rattle.job_loop.specs.Shown.{Shown}
use Rattle.opus_packet.specs.declared.shape.Shape.{Shape}
use Rattle.opus_packet.specs.declared.fault.Fault.{Fault}
use Rattle.opus_packet.specs.Value.{PacketValue}
use Rattle.opus_packet.specs.Tail.{kept_bytes}
use Rattle.opus_packet.specs.HeaderRead.{partial, header_read}
use Rattle.opus_packet.specs.PacketFault.{packet_fault}
use Rattle.opus_packet.specs.PacketPrefix.{AreBytes, CanBecome, IsPacketPrefix}
use Rattle.opus_packet.specs.SelfGrammar.{BeginsWithSelf, SpellsSelf, IsSelfDelimited}
use Rattle.opus_packet.specs.SelfPrefix.{CanBecomeSelf, unsized, after_header, self_header_read, IsSelfDelimitedPrefix, self_delimited_fault}
use Rattle.opus_packet.proofs.PrefixLemmas.{packet_fault-longest, IsLongestPrefix-whole}
use Rattle.opus_self.proofs.SelfLemmas.{begins_only}
use Rattle.opus_self.proofs.SelfPrefixLemmas.{self_delimited_fault-longest, self_delimited_fault-whole}
use Rattle.opus_feed.specs.declared.framing.Framing.{Framing}
use Rattle.opus_feed.specs.declared.framing.Framing.TheVariants.{Whole, SelfDelimited}
use Rattle.opus_feed.specs.declared.padding.Padding.{Padding}
use Rattle.opus_feed.specs.declared.step.Step.TheVariants.{More as MoreStep, Done, Refused}
use Rattle.opus_feed.specs.declared.feed.Feed.{Feed}
use Rattle.opus_feed.specs.Steps.{IsReading}
use Rattle.opus_feed.specs.Tails.{tail_kept}
use Rattle.opus_feed.specs.Packets.{Refuses, IsNone, fault_of}
use Rattle.opus_feed.specs.Feeds.{Stands, Ended}
use Rattle.opus_feed.specs.Answers.{Answers, Ends, Finishes}
use Rattle.pack_records.specs.declared.item.Found.TheVariants.{Packet as FoundPacket, Bad as FoundBad}
use Rattle.pack_records.specs.declared.item.Item.{Item}
use Rattle.pack_records.specs.declared.pieces.Pieces.{Pieces}
use Rattle.pack_records.specs.declared.piece_taken.PieceTaken.TheVariants.{Packet, Bad}
use Rattle.pack_records.specs.Fits.{form_of}
use Rattle.pack_records.specs.Early.{IsEarly, IsDecided}
use Rattle.pack_records.specs.EarlyLaws.{early_more, early_none, early_front}
use Rattle.pack_records.specs.Holds.{record_of, packet_record, bad_record, HoldsPacket, HoldsBad, Holds}
use Rattle.pack_records.specs.Pieces.{shown_by, PieceStands, HasTaken, IsKeptOf}

-- nothing came

no_header : header_read [] ≡ partial
unfolding header_read
no_header = refl

none_begins : (v : PacketValue) (s : Shape) (used : ℕ) → BeginsWithSelf v s used [] → ⊥
none_begins v s used begins =
    let read = (begins_only v s used [] begins).read in
    let nothing : self_header_read [] ≡ unsized = ap (after_header []) no_header in
    cc

nothing_open : (framing : Framing) → Answers framing [] MoreStep
nothing_open Whole = subst (λ r. CanBecome r 0) (sym no_header) tt
nothing_open SelfDelimited =
    (subst (λ r. CanBecomeSelf (after_header [] r) 0) (sym no_header) tt, none_begins)

pub stands_nothing : (p : Pieces) → Stands p.feed [] → IsReading p.feed.place → PieceStands p []
stands_nothing p stands reading = record { stands = stands; reading = reading; open_is = nothing_open p.framing }

-- a packet is whole

pub shows_packet : (r : Shown Item) (padding : Padding) (framing : Framing) (start place range : ℕ) (v : PacketValue)
    (s : Shape) (size n : ℕ) (p : _) (tail : List ℕ)
    → r ≡ record_of start place range (FoundPacket framing s size) (form_of framing v (kept_bytes p))
    → p ≡ tail_kept padding tail → place ≡ start + n → size ≡ n
    → r ≡ packet_record padding framing start range v s tail n
shows_packet r padding framing start place range v s size n p tail shows is at sized =
    shows ∙ ap (λ k. record_of start k range (FoundPacket framing s size) (form_of framing v (kept_bytes p))) at
    ∙ ap (λ k. record_of start (start + n) range (FoundPacket framing s k) (form_of framing v (kept_bytes p))) sized
    ∙ ap (λ t. record_of start (start + n) range (FoundPacket framing s n) (form_of framing v (kept_bytes t))) is

self_taken : (new : Pieces) (feed : Feed) (start range at used count : ℕ) (h piece : List ℕ) (own : List ℕ)
    → Stands feed (h ++ piece) → Ends (length h) (h ++ piece) (Done used) → used ≤ length piece
    → Answers SelfDelimited h MoreStep → start + length h ≡ at → (1 ≤ used → count ≡ used)
    → IsKeptOf (shown_by new own) new.padding SelfDelimited start (at + count) range feed
    → HoldsPacket new.padding SelfDelimited start range (h ++ take count piece) (shown_by new own)
self_taken new feed start range at used count h piece own stands ends within open_h at_is count_is kept =
    let p = kept.packet in
    let b = h ++ piece in
    let (q, reads, fits, tail_is) = kept.stands b stands in
    let begins : BeginsWithSelf p.value p.shape p.size b = record { within = fits; spelled = (q, reads) } in
    let size : p.size ≡ length h + used = ends p.value p.shape p.size begins in
    let front : take p.size b ≡ h ++ take used piece =
    ap (λ n. take n b) size ∙ take-append-add h piece used in
    let some : 1 ≤ used = ⊎_elim (λ is. is)
    (λ none. let all : p.size ≡ length h = omega arith in
    let first : take (length h) h ≡ take p.size b =
    take_all (length h) h (omega arith) ∙ sym (take-append_seam h piece) ∙ ap (λ n. take n b) (sym all) in
    absurd (open_h.1 p.value p.shape (length h) (record {
      within = omega arith;
      spelled = subst (SpellsSelf p.value p.shape) (sym first) (q, reads);
    }))) (cases_lt 0 used) in
    let counted : count ≡ used = count_is some in
    let bytes_are : take p.size b ≡ h ++ take count piece = front ∙ ap (λ n. h ++ take n piece) (sym counted) in
    let long : p.size ≡ length (h ++ take count piece) = sym (length-take-le p.size b fits) ∙ ap length bytes_are in
    record {
      value = p.value;
      shape = p.shape;
      tail = q;
      reads = subst (IsSelfDelimited p.value p.shape q) bytes_are reads;
      shows = shows_packet (shown_by new own) new.padding SelfDelimited start (at + count) range p.value p.shape p.size
          (length (h ++ take count piece)) p.tail q kept.shows tail_is (omega arith) long;
    }

pub packet_taken : (new : Pieces) (framing : Framing) (feed : Feed) (start range at used count : ℕ) (h piece : List ℕ)
    → new.framing ≡ framing → Stands feed (h ++ piece) → Answers framing (h ++ piece) (Done used)
    → Ends (length h) (h ++ piece) (Done used) → used ≤ length piece → Answers framing h MoreStep
    → start + length h ≡ at → (1 ≤ used → count ≡ used)
    → ((own : List ℕ) → IsKeptOf (shown_by new own) new.padding framing start (at + count) range feed)
    → HasTaken new start range h piece (Packet count)
packet_taken new Whole feed start range at used count h piece is stands done ends within open_h at_is count_is kept = absurd done
packet_taken new SelfDelimited feed start range at used count h piece is stands done ends within open_h at_is count_is kept = (
  is,
  λ own. subst (λ f. HoldsPacket new.padding f start range (h ++ take count piece) (shown_by new own)) (sym is)
      (self_taken new feed start range at used count h piece own stands ends within open_h at_is count_is (kept own)),
)

-- no packet can follow

pub answers_refuses : (framing : Framing) (f : Fault) (bytes : List ℕ) → Answers framing bytes (Refused f)
    → Refuses framing f bytes
answers_refuses Whole f bytes refuses = refuses
answers_refuses SelfDelimited f bytes refuses = refuses

pub refused_at : (framing : Framing) (f : Fault) (h piece : List ℕ) → AreBytes (h ++ piece)
    → Answers framing h MoreStep → Refuses framing f (h ++ piece)
    → (length h ≤ f.place) × (f.place < length (h ++ piece))
refused_at Whole f h piece are open_h refuses =
    let b = h ++ piece in
    let place : f.place ≡ (packet_fault b).place = ap (λ g. g.place) refuses.fault_is in
    let longest = packet_fault-longest b are in
    let within = longest.within in
    let sizes = length-append h piece in (
      ⊎_elim (λ less. absurd (longest.longest (length h) (omega arith) (omega arith)
          (subst IsPacketPrefix (sym (take-append_seam h piece)) open_h))) (λ more. omega arith)
          (cases_lt f.place (length h)),
      ⊎_elim (λ less. less) (λ more. absurd (refuses.prefix
          (subst IsPacketPrefix (take_all (packet_fault b).place b (omega arith)) longest.is_prefix)))
          (cases_lt f.place (length b)),
    )
refused_at SelfDelimited f h piece are open_h refuses =
    let b = h ++ piece in
    let place : f.place ≡ (self_delimited_fault b).place = ap (λ g. g.place) refuses.fault_is in
    let longest = self_delimited_fault-longest b are refuses.none in
    let within = longest.within in
    let sizes = length-append h piece in (
      ⊎_elim (λ less. absurd (longest.longest (length h) (omega arith) (omega arith)
          (subst IsSelfDelimitedPrefix (sym (take-append_seam h piece)) open_h.0))) (λ more. omega arith)
          (cases_lt f.place (length h)),
      ⊎_elim (λ less. less) (λ more. absurd (refuses.prefix
          (subst IsSelfDelimitedPrefix (take_all (self_delimited_fault b).place b (omega arith)) longest.is_prefix)))
          (cases_lt f.place (length b)),
    )

pub bad_taken : (new : Pieces) (framing : Framing) (f : Fault) (start range place count : ℕ) (h piece : List ℕ)
    → new.framing ≡ framing → AreBytes (h ++ piece) → Refuses framing f (h ++ piece)
    → length h ≤ f.place → f.place < length (h ++ piece)
    → place ≡ start + f.place + 1 → count + length h ≡ f.place + 1
    → ((own : List ℕ) → shown_by new own ≡ record_of start place range (FoundBad f) [])
    → HasTaken new start range h piece (Bad count)
bad_taken new framing f start range place count h piece is are refuses low high place_is count_is shows =
    let b = h ++ piece in
    let at : f.place ≡ (fault_of framing b).place = ap (λ g. g.place) refuses.fault_is in
    let early : IsEarly framing b = omega arith in
    let front = take ((fault_of framing b).place + 1) b in
    let size : length front ≡ f.place + 1 = length-take-le ((fault_of framing b).place + 1) b (omega arith) ∙ ap (λ n. n + 1) (sym at) in
    let front_is : front ≡ h ++ take count piece =
    ap (λ n. take n b) (omega arith) ∙ take-append-add h piece count in
    let soon : IsEarly framing front = early_front framing b are early in
    let front_bytes = AreBytes-take ((fault_of framing b).place + 1) b are in
    let same : fault_of framing front ≡ f =
    sym (early_more framing front (drop ((fault_of framing b).place + 1) b) front_bytes soon)
    ∙ ap (fault_of framing) (take-append-drop ((fault_of framing b).place + 1) b) ∙ sym refuses.fault_is in
    let decided : (fault_of framing front).place + 1 ≡ length front = ap (λ g. g.place + 1) same ∙ sym size in
    let here : IsDecided framing (h ++ take count piece) = subst (IsDecided framing) front_is decided in
    let none : IsNone framing (h ++ take count piece) = subst (IsNone framing) front_is (early_none framing front front_bytes soon) in
    let fault_is : fault_of framing (h ++ take count piece) ≡ f = ap (fault_of framing) (sym front_is) ∙ same in
    let long : length (h ++ take count piece) ≡ f.place + 1 = ap length (sym front_is) ∙ size in (
      subst (λ g. IsDecided g (h ++ take count piece)) (sym is) here,
      λ own. subst (λ g. HoldsBad g start range (h ++ take count piece) (shown_by new own)) (sym is) (record {
        none = none;
        shows = shows own ∙ ap (λ n. record_of start n range (FoundBad f) []) (omega (arith, long, place_is))
            ∙ ap (λ g. bad_record start range g (length (h ++ take count piece))) (sym fault_is);
      }),
    )

-- no byte follows

pub packet_ended : (new : Pieces) (framing : Framing) (feed : Feed) (start range at : ℕ) (h own : List ℕ)
    → Ended feed h → Answers framing h MoreStep → Finishes framing h (Ok tt) → start + length h ≡ at
    → IsKeptOf (shown_by new own) new.padding framing start at range feed
    → Holds new.padding framing start range h (shown_by new own)
packet_ended new Whole feed start range at h own ended open_h finishes at_is kept =
    let p = kept.packet in
    let (q, reads, size, tail_is) = kept.ended h ended in
    inl (record {
      value = p.value;
      shape = p.shape;
      tail = q;
      reads = reads;
      shows = shows_packet (shown_by new own) new.padding Whole start at range p.value p.shape p.size (length h) p.tail q
          kept.shows tail_is (omega arith) size;
    })
packet_ended new SelfDelimited feed start range at h own ended open_h finishes at_is kept =
    let (v, s, size, begins) = finishes in absurd (open_h.1 v s size begins)

part_place : (framing : Framing) (h : List ℕ) → AreBytes h → Answers framing h MoreStep
    → (fault_of framing h).place ≡ length h
part_place Whole h are open_h = IsLongestPrefix-whole h (packet_fault h).place (packet_fault-longest h are) open_h
part_place SelfDelimited h are open_h = self_delimited_fault-whole h open_h.0

pub bad_ended : (new : Pieces) (framing : Framing) (f : Fault) (start range at : ℕ) (h own : List ℕ)
    → AreBytes h → Answers framing h MoreStep → IsNone framing h → f ≡ fault_of framing h → start + length h ≡ at
    → shown_by new own ≡ record_of start at range (FoundBad f) []
    → Holds new.padding framing start range h (shown_by new own)
bad_ended new framing f start range at h own are open_h none fault_is at_is shows =
    let place = part_place framing h are open_h in
    inr (record {
      none = none;
      shows = shows ∙ ap (λ n. record_of start n range (FoundBad f) []) (omega (arith, at_is, place, ap (λ g. g.place) fault_is))
          ∙ ap (λ g. bad_record start range g (length h)) fault_is;
    })

-- a self-delimited packet has some bytes
pub some_bytes : (v : PacketValue) (s : Shape) (used : ℕ) (bytes : List ℕ) → BeginsWithSelf v s used bytes → 1 ≤ used
some_bytes v s used bytes begins =
    ⊎_elim (λ some. some)
    (λ none. let zero_is : used ≡ 0 = omega arith in
    absurd (none_begins v s 0 (record {
      within = omega arith;
      spelled = subst (λ n. SpellsSelf v s (take n bytes)) zero_is begins.spelled;
    })))
    (cases_lt 0 used)
