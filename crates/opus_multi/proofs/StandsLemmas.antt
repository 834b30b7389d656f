-- What a feed of multistream packets stands for says of the bytes and of its parts.
use Rattle.std.proofs.Common.{ℕ, ◌+◌, ◌<◌, List, [], ◌++◌, length, sym, subst, ◌∙◌}
use Rattle.std.proofs.lemmas.List.{append-nil, append_assoc}
use Rattle.opus_packet.specs.declared.fault.Fault.{Fault}
use Rattle.opus_packet.specs.PacketPrefix.{AreBytes}
use Rattle.opus_packet.proofs.BytesLemmas.{AreBytes-append}
use Rattle.opus_self.specs.BecomesSelf.{BeginsWithNone}
use Rattle.opus_feed.specs.declared.framing.Framing.{Framing}
use Rattle.opus_feed.specs.declared.framing.Framing.TheVariants.{Whole, SelfDelimited}
use Rattle.opus_feed.specs.declared.step.Step.TheVariants.{More}
use Rattle.opus_feed.specs.Packets.{IsNone, IsPrefix, Refuses}
use Rattle.opus_feed.specs.Answers.{Answers}
use Rattle.opus_feed.proofs.ReadingLemmas.{reading_answer}
use Rattle.opus_multi.specs.declared.fault.MultiFault.TheVariants.{Stream, Unequal, NoMemory}
use Rattle.opus_multi.specs.declared.multi_place.MultiPlace.{MultiPlace}
use Rattle.opus_multi.specs.declared.multi_place.MultiPlace.TheVariants.{Reading, Done, Failed}
use Rattle.opus_multi.specs.declared.multi_feed.MultiFeed.{MultiFeed}
use Rattle.opus_multi.specs.MultistreamFault.{framing_of}
use Rattle.opus_multi.specs.MultistreamPrefix.{IsMultistreamPrefix}
use Rattle.opus_multi.specs.StreamParts.{AreFirstParts}
use Rattle.opus_multi.specs.MultiStands.{Reads, HasRefused, HasBroken, MultiStandsAt, MultiStands}
use Rattle.opus_multi.specs.MultiAnswers.{RefusesStream}
use Rattle.opus_multi.proofs.StreamsLemmas.{stand_more, stand_bytes}
use Rattle.opus_multi.proofs.ReadLemmas.{framing_more}
use Rattle.opus_multi.proofs.OnlyLemmas.{broken_none}
use Rattle.opus_multi.proofs.PrefixLemmas.{prefix-becomes}

-- more bytes can come

pub prefix_by : (framing : Framing) (bytes : List ℕ) → Answers framing bytes More → IsPrefix framing bytes
prefix_by Whole bytes a = a
prefix_by SelfDelimited bytes a = a.0

pub reads_prefix : (m : MultiFeed) (bytes : List ℕ) → Reads m bytes → IsMultistreamPrefix m.streams bytes
reads_prefix m bytes r = record {
  first = r.first;
  rest = r.rest;
  within = r.within;
  stand = r.stand;
  can = rw (sym r.framing) (prefix_by m.feed.framing r.rest (reading_answer m.feed r.rest r.stands r.reading));
}

-- the next stream isn't whole
reads_none : (m : MultiFeed) (bytes : List ℕ) → (r : Reads m bytes) → length r.first + 1 < m.streams → BeginsWithNone r.rest
reads_none m bytes r more =
    let self = r.framing ∙ framing_more m.streams (length r.first) more in
    (subst (λ f. Answers f r.rest More) self (reading_answer m.feed r.rest r.stands r.reading)).1

-- no continuation makes the next stream read

pub refused_on : (m : MultiFeed) (k : ℕ) (f : Fault) (bytes more : List ℕ) → HasRefused m k f bytes
    → HasRefused m k f (bytes ++ more)
refused_on m k f bytes more r = record {
  first = r.first;
  rest = r.rest ++ more;
  counted = r.counted;
  within = r.within;
  stand = stand_more r.first bytes r.rest more r.stand;
  parts_are = r.parts_are;
  refuses = λ others are. rw (append_assoc r.rest more others) (r.refuses (more ++ others) (rw (append_assoc r.rest more others) at are));
}

refuses_here : (m : MultiFeed) (k : ℕ) (f : Fault) (bytes : List ℕ) → AreBytes bytes → (r : HasRefused m k f bytes)
    → Refuses (framing_of m.streams k) f r.rest
refuses_here m k f bytes are r =
    let rest = stand_bytes r.first bytes r.rest r.stand are in
    subst (Refuses (framing_of m.streams k) f) (append-nil r.rest) (r.refuses [] (subst AreBytes (sym (append-nil r.rest)) rest))

pub refused_broken : (m : MultiFeed) (k : ℕ) (f : Fault) (bytes : List ℕ) → AreBytes bytes → HasRefused m k f bytes
    → HasBroken m k f bytes
refused_broken m k f bytes are r =
    let here = refuses_here m k f bytes are r in
    record {
      broken = record { first = r.first; rest = r.rest; counted = r.counted; within = r.within; stand = r.stand; none = here.none; fault_is = here.fault_is };
      parts_are = r.parts_are;
    }

pub refused_stream : (m : MultiFeed) (k : ℕ) (f : Fault) (bytes : List ℕ) → AreBytes bytes → HasRefused m k f bytes
    → RefusesStream m.streams k f bytes
refused_stream m k f bytes are r = record {
  prefix = λ can.
      let b = prefix-becomes m.streams bytes are can in
      let all = AreBytes-append bytes b.more are b.are_bytes in
      broken_none m.streams k f (bytes ++ b.more) b.streams (refused_broken m k f (bytes ++ b.more) all (refused_on m k f bytes b.more r)).broken b.are b.counted;
  broken = (refused_broken m k f bytes are r).broken;
}

-- the parts

none_by : (count k : ℕ) (rest : List ℕ) → IsNone (framing_of count k) rest → k + 1 < count → BeginsWithNone rest
none_by count k rest none more = subst (λ f. IsNone f rest) (framing_more count k more) none

broken_parts : (m : MultiFeed) (k : ℕ) (f : Fault) (bytes : List ℕ) → HasBroken m k f bytes
    → AreFirstParts m.streams m.feed.padding bytes m.parts.items
broken_parts m k f bytes b = record {
  first = b.broken.first;
  rest = b.broken.rest;
  within = rw b.broken.counted b.broken.within;
  stand = b.broken.stand;
  none = λ more. none_by m.streams k b.broken.rest b.broken.none (rw b.broken.counted at more);
  parts_are = b.parts_are;
}

parts_at : (place : MultiPlace) (m : MultiFeed) (bytes : List ℕ) → AreBytes bytes → MultiStandsAt place m bytes
    → AreFirstParts m.streams m.feed.padding bytes m.parts.items
parts_at Reading m bytes are r = record {
  first = r.first;
  rest = r.rest;
  within = r.within;
  stand = r.stand;
  none = reads_none m bytes r;
  parts_are = r.parts_are;
}
parts_at Done m bytes are r = absurd r
parts_at (Failed (Stream k f)) m bytes are r = broken_parts m k f bytes (refused_broken m k f bytes are r)
parts_at (Failed (Unequal k)) m bytes are r = absurd r
parts_at (Failed NoMemory) m bytes are r = absurd r

pub first_parts : (m : MultiFeed) (bytes : List ℕ) → MultiStands m bytes
    → AreFirstParts m.streams m.feed.padding bytes m.parts.items
first_parts m bytes s = parts_at m.place m bytes s.are_bytes s.at
