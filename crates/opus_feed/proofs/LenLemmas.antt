-- The longest front of the bytes that a packet can have.
use Rattle.std.proofs.Common.{◌≡◌, ℕ, ◌+◌, ◌-◌, ◌≤◌, List, ◌++◌, length, take, sym, ap, ◌∙◌, subst, arith, take_all}
use Rattle.std.proofs.lemmas.List.{length-take-le}
use Rattle.std.proofs.Math.Seq.{take-append-add}
use Rattle.opus_packet.specs.declared.fault.Fault.{Fault}
use Rattle.opus_packet.specs.declared.fault.Rule.{Rule}
use Rattle.opus_packet.specs.PacketPrefix.{AreBytes, IsPacketPrefix, CanBecome, most_bytes}
use Rattle.opus_packet.specs.LongestPrefix.{IsLongestPrefix}
use Rattle.opus_packet.specs.SelfPrefix.{sized, self_header_read, self_size, IsSelfDelimitedPrefix, CanBecomeSelf}
use Rattle.opus_packet.proofs.PrefixLemmas.{packet_fault-longest}
use Rattle.opus_packet.proofs.GrammarLemmas.{body_size-le}
use Rattle.opus_self.specs.LongestSelfPrefix.{IsLongestSelfPrefix}
use Rattle.opus_self.proofs.SelfPrefixLemmas.{self_delimited_fault-longest}
use Rattle.opus_packet.specs.Value.{max_frame}
use Rattle.opus_feed.specs.Heads.{spelling, header_in, sizes_in}
use Rattle.opus_feed.specs.Places.{IsFull, IsSteady}
use Rattle.opus_feed.specs.Packets.{IsPrefix, IsNone, fault_of}
use Rattle.opus_feed.specs.Stands.{Holds, Takes, StandsAt, EndsAt, fault_at}
use Rattle.opus_feed.specs.Steps.{IsReading}
use Rattle.opus_feed.specs.Answers.{IsLongest}
use Rattle.opus_feed.specs.declared.framing.Framing.{Framing}
use Rattle.opus_feed.specs.declared.framing.Framing.TheVariants.{Whole, SelfDelimited}
use Rattle.opus_feed.specs.declared.padding.Padding.{Padding}
use Rattle.opus_feed.specs.declared.stage.Stage.TheVariants.{Ready}
use Rattle.opus_feed.specs.declared.head.Head.{Head}
use Rattle.opus_feed.specs.declared.body.Body.{Body}
use Rattle.opus_feed.specs.declared.place.Place.{Place}
use Rattle.opus_feed.specs.declared.place.Place.TheVariants.{Opening, Filling, Full, Failed}
use Rattle.opus_feed.proofs.AnswerLemmas.{answers, reading_size, front_whole, holds_whole, holds_size, full_size}
use Rattle.opus_feed.proofs.EndLemmas.{over_ends}
use Rattle.opus_feed.proofs.OpenLemmas.{ready_sized}

-- bytes that can become a packet are their own longest front
prefix_longest : (bytes : List ℕ) (size : ℕ) → size ≡ length bytes → IsPacketPrefix bytes → IsLongestPrefix bytes size
prefix_longest bytes size all can = record {
  within = omega arith;
  is_prefix = subst IsPacketPrefix (sym (take_all size bytes (omega arith))) can;
  longest = λ n more within. absurd (omega arith);
}

self_longest : (bytes : List ℕ) (size : ℕ) → size ≡ length bytes → IsSelfDelimitedPrefix bytes
    → IsLongestSelfPrefix bytes size
self_longest bytes size all can = record {
  within = omega arith;
  is_prefix = subst IsSelfDelimitedPrefix (sym (take_all size bytes (omega arith))) can;
  longest = λ n more within. absurd (omega arith);
}

-- a packet that is all of the bytes
whole_longest : (padding : Padding) (h : Head) (b : Body) (bytes : List ℕ) → IsFull Whole padding h b
    → Takes Whole h b bytes → IsLongestPrefix bytes (b.front + b.came)
whole_longest padding h b bytes is t =
    let all = t.all in
    let sizes = holds_size t.holds in
    let front = is.front_is in
    let spelled = front_whole h is.sized in
    let came = is.came_is in
    let less = body_size-le (sizes_in h) h.last max_frame is.last in
    let within : length bytes ≤ most_bytes (header_in h) = omega arith in
    prefix_longest bytes (b.front + b.came) (omega arith)
    (subst (λ r. CanBecome r (length bytes)) (sym (holds_whole is.sized t.holds)) within)

-- one that stands first
front_longest : (padding : Padding) (h : Head) (b : Body) (bytes : List ℕ) → IsFull SelfDelimited padding h b
    → Holds SelfDelimited h b bytes → IsLongestSelfPrefix bytes (b.front + b.came)
front_longest padding h b bytes is holds =
    let front = is.front_is in
    let size = b.front + b.came in
    let total = full_size padding h b is in
    let sizes = holds_size holds in
    let came = holds.came in
    let within : size ≤ length bytes = omega arith in
    record {
      within = within;
      is_prefix =
          let fits : length (take size bytes) ≤ self_size (header_in h) h.last =
          (let n = length-take-le size bytes within in omega arith) in
          subst (λ r. CanBecomeSelf r (length (take size bytes))) (sym (read size (omega arith))) fits;
      longest = λ n more most can.
          let long : length (take n bytes) ≤ self_size (header_in h) h.last =
          subst (λ r. CanBecomeSelf r (length (take n bytes))) (read n (omega arith)) can in
          let sized_n = length-take-le n bytes most in
          omega arith;
    }
  where
    read : (n : ℕ) → length (spelling SelfDelimited Ready h) ≤ n
        → self_header_read (take n bytes) ≡ sized (header_in h) h.last
    read n behind =
        let first = spelling SelfDelimited Ready h in
        let split : n ≡ length first + (n - length first) = omega arith in
        ap self_header_read (ap (take n) holds.bytes_are ∙ ap (λ k. take k (first ++ holds.behind)) split
        ∙ take-append-add first holds.behind (n - length first))
        ∙ ready_sized h is.sized (take (n - length first) holds.behind)

-- where no packet can follow
failed_longest : (framing : Framing) (rule : Rule) (b : Body) (bytes : List ℕ) → AreBytes bytes
    → IsNone framing bytes → fault_at rule b ≡ fault_of framing bytes → IsLongest framing bytes (b.front + b.came)
failed_longest Whole rule b bytes are none same =
    subst (IsLongestPrefix bytes) (sym (ap (λ (f : Fault). f.place) same)) (packet_fault-longest bytes are)
failed_longest SelfDelimited rule b bytes are none same =
    subst (IsLongestSelfPrefix bytes) (sym (ap (λ (f : Fault). f.place) same))
    (self_delimited_fault-longest bytes are none)

pub longest_ended : (framing : Framing) (padding : Padding) (place : Place) (h : Head) (b : Body) (bytes : List ℕ)
    → IsSteady framing padding place h b → AreBytes bytes → EndsAt framing place h b bytes
    → IsLongest framing bytes (b.front + b.came)
longest_ended framing padding (Opening stage) h b bytes is are at = absurd at
longest_ended framing padding Filling h b bytes is are at = absurd at
longest_ended Whole padding Full h b bytes is are at = whole_longest padding h b bytes is at
longest_ended SelfDelimited padding Full h b bytes is are at = front_longest padding h b bytes is at
longest_ended framing padding (Failed rule) h b bytes is are at = failed_longest framing rule b bytes are at.0 at.1

-- more bytes can come
reading_longest : (framing : Framing) (padding : Padding) (place : Place) (h : Head) (b : Body) (bytes : List ℕ)
    → IsReading place → IsSteady framing padding place h b → AreBytes bytes → StandsAt framing place h b bytes
    → IsPrefix framing bytes → IsLongest framing bytes (b.front + b.came)
reading_longest Whole padding place h b bytes reading is are at can =
    prefix_longest bytes (b.front + b.came) (sym (reading_size Whole padding place h b bytes is at reading)) can
reading_longest SelfDelimited padding place h b bytes reading is are at can =
    self_longest bytes (b.front + b.came) (sym (reading_size SelfDelimited padding place h b bytes is at reading)) can

pub longest_standing : (framing : Framing) (padding : Padding) (place : Place) (h : Head) (b : Body) (bytes : List ℕ)
    → IsSteady framing padding place h b → AreBytes bytes → StandsAt framing place h b bytes
    → IsLongest framing bytes (b.front + b.came)
longest_standing Whole padding (Opening stage) h b bytes is are at =
    reading_longest Whole padding (Opening stage) h b bytes tt is are at (answers Whole padding (Opening stage) h b 0 bytes is are at)
longest_standing SelfDelimited padding (Opening stage) h b bytes is are at =
    reading_longest SelfDelimited padding (Opening stage) h b bytes tt is are at
    (answers SelfDelimited padding (Opening stage) h b 0 bytes is are at).0
longest_standing Whole padding Filling h b bytes is are at =
    reading_longest Whole padding Filling h b bytes tt is are at (answers Whole padding Filling h b 0 bytes is are at)
longest_standing SelfDelimited padding Filling h b bytes is are at =
    reading_longest SelfDelimited padding Filling h b bytes tt is are at
    (answers SelfDelimited padding Filling h b 0 bytes is are at).0
longest_standing framing padding Full h b bytes is are at =
    longest_ended framing padding Full h b bytes is are (over_ends framing Full h b bytes tt are at)
longest_standing framing padding (Failed rule) h b bytes is are at =
    longest_ended framing padding (Failed rule) h b bytes is are (over_ends framing (Failed rule) h b bytes tt are at)
