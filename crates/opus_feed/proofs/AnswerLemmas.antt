-- What a feed answers, by where it stands.
use Rattle.std.proofs.Common.{◌≡◌, ℕ, zero, suc, ◌+◌, ◌<◌, ◌≤◌, List, [], ◌++◌, length, sym, ap, ◌∙◌, subst, arith, length-append}
use Rattle.std.proofs.lemmas.List.{append-nil, take-append-le}
use Rattle.opus_flen.specs.FrameLength.{length_bytes}
use Rattle.opus_packet.specs.declared.fault.Fault.{Fault}
use Rattle.opus_packet.specs.Header.{header_bytes}
use Rattle.opus_packet.specs.HeaderRead.{whole, partial, header_read}
use Rattle.opus_packet.specs.PacketPrefix.{AreBytes, IsPacketPrefix, CanBecome, most_bytes}
use Rattle.opus_packet.specs.Value.{PacketValue}
use Rattle.opus_packet.specs.declared.shape.Shape.{Shape}
use Rattle.opus_packet.specs.SelfGrammar.{BeginsWithSelf, SpellsSelf}
use Rattle.opus_packet.specs.SelfPrefix.{sized, unsized, self_header_read, self_size, IsSelfDelimitedPrefix, CanBecomeSelf}
use Rattle.opus_self.specs.BecomesSelf.{BeginsWithNone}
use Rattle.opus_self.specs.ValueBehind.{value_behind}
use Rattle.opus_self.proofs.ReadSelf.{not_sized, not_whole, sized≢unsized}
use Rattle.opus_self.proofs.SelfLemmas.{found_first}
use Rattle.opus_self.proofs.SelfPrefixLemmas.{begins_once}
use Rattle.opus_feed.specs.Heads.{IsSized, spelling, header_in}
use Rattle.opus_feed.specs.Bodies.{bytes_behind}
use Rattle.opus_feed.specs.Places.{IsOpening, IsFilling, IsFull, IsSteady}
use Rattle.opus_feed.specs.Packets.{Refuses}
use Rattle.opus_feed.specs.Stands.{Holds, Takes, StandsAt, fault_at}
use Rattle.opus_feed.specs.Steps.{step_at, IsReading, IsWhole}
use Rattle.opus_feed.specs.Answers.{Answers, Ends, TakesSome}
use Rattle.opus_feed.specs.declared.step.Step.{Step}
use Rattle.opus_feed.specs.declared.step.Step.TheVariants.{More, Done, Refused}
use Rattle.opus_feed.specs.declared.framing.Framing.{Framing}
use Rattle.opus_feed.specs.declared.framing.Framing.TheVariants.{Whole, SelfDelimited}
use Rattle.opus_feed.specs.declared.padding.Padding.{Padding}
use Rattle.opus_feed.specs.declared.stage.Stage.{Stage}
use Rattle.opus_feed.specs.declared.stage.Stage.TheVariants.{Ready}
use Rattle.opus_feed.specs.declared.head.Head.{Head}
use Rattle.opus_feed.specs.declared.body.Body.{Body}
use Rattle.opus_feed.specs.declared.place.Place.{Place}
use Rattle.opus_feed.specs.declared.place.Place.TheVariants.{Opening, Filling, Full, Failed}
use Rattle.opus_feed.proofs.HeadLemmas.{taken}
use Rattle.opus_feed.proofs.OpenLemmas.{open_partial, open_unsized, ready_whole, ready_sized, ready_spelled}

-- how long the headers are
pub front_whole : (h : Head) → IsSized h → length (spelling Whole Ready h) ≡ length (header_bytes (header_in h))
front_whole h is = ap (λ (l : List ℕ). length l) (sym (taken h is).spelled)

pub front_self : (h : Head) → IsSized h
    → length (spelling SelfDelimited Ready h) ≡ length (header_bytes (header_in h)) + length (length_bytes h.last)
front_self h is =
    let same = ap (λ (l : List ℕ). length l)
    (sym (append-nil (spelling SelfDelimited Ready h)) ∙ ready_spelled h is []) in
    let first = length-append (header_bytes (header_in h)) (length_bytes h.last ++ []) in
    let second = length-append (length_bytes h.last) [] in
    omega arith

-- in a header
pub opening_prefix : (padding : Padding) (stage : Stage) (h : Head) (b : Body) (bytes : List ℕ)
    → IsOpening Whole padding stage h b → AreBytes bytes → bytes ≡ spelling Whole stage h → header_read bytes ≡ partial
opening_prefix padding stage h b bytes is are at =
    ap header_read at ∙ open_partial Whole stage h is.open_is is.sound (subst AreBytes at are) (λ e. cc)

pub opening_unsized : (padding : Padding) (stage : Stage) (h : Head) (b : Body) (bytes : List ℕ)
    → IsOpening SelfDelimited padding stage h b → AreBytes bytes → bytes ≡ spelling SelfDelimited stage h
    → self_header_read bytes ≡ unsized
opening_unsized padding stage h b bytes is are at =
    ap self_header_read at ∙ open_unsized stage h is.open_is is.sound (subst AreBytes at are)

-- behind one
pub holds_whole : {h : Head} {b : Body} {bytes : List ℕ} → IsSized h → Holds Whole h b bytes
    → header_read bytes ≡ whole (header_in h)
holds_whole {h} is holds = ap header_read holds.bytes_are ∙ ready_whole h is holds.behind

pub holds_sized : {h : Head} {b : Body} {bytes : List ℕ} → IsSized h → Holds SelfDelimited h b bytes
    → self_header_read bytes ≡ sized (header_in h) h.last
holds_sized {h} is holds = ap self_header_read holds.bytes_are ∙ ready_sized h is holds.behind

pub holds_size : {framing : Framing} {h : Head} {b : Body} {bytes : List ℕ} → (holds : Holds framing h b bytes)
    → length bytes ≡ length (spelling framing Ready h) + length holds.behind
holds_size {framing} {h} holds =
    ap (λ (l : List ℕ). length l) holds.bytes_are ∙ length-append (spelling framing Ready h) holds.behind

filling_prefix : (padding : Padding) (h : Head) (b : Body) (bytes : List ℕ) → IsFilling Whole padding h b
    → Takes Whole h b bytes → IsPacketPrefix bytes
filling_prefix padding h b bytes is t =
    let size = holds_size t.holds in
    let all = t.all in
    let front = front_whole h is.sized in
    let limit = is.limit_is ∙ ap (bytes_behind (header_in h)) is.last in
    let came = is.came in
    let within : length bytes ≤ most_bytes (header_in h) = omega arith in
    subst (λ r. CanBecome r (length bytes)) (sym (holds_whole is.sized t.holds)) within

filling_self : (padding : Padding) (h : Head) (b : Body) (bytes : List ℕ) → IsFilling SelfDelimited padding h b
    → b.came < b.limit → Takes SelfDelimited h b bytes → IsSelfDelimitedPrefix bytes × BeginsWithNone bytes
filling_self padding h b bytes is going t =
    let size = holds_size t.holds in
    let all = t.all in
    let front = front_self h is.sized in
    let limit = is.limit_is in
    let below : length bytes < self_size (header_in h) h.last = omega arith in
    let within : length bytes ≤ self_size (header_in h) h.last = omega arith in
    let read = holds_sized is.sized t.holds in (
      subst (λ r. CanBecomeSelf r (length bytes)) (sym read) within,
      λ v s used. not_whole (header_in h) h.last bytes v s used read below,
    )

-- a self-delimited packet stands first
pub full_size : (padding : Padding) (h : Head) (b : Body) → IsFull SelfDelimited padding h b
    → b.front + b.came ≡ self_size (header_in h) h.last
full_size padding h b is =
    let front = is.front_is in
    let sizes = front_self h is.sized in
    let came = is.came_is in
    omega arith

pub full_begins : (padding : Padding) (h : Head) (b : Body) (bytes : List ℕ) → IsFull SelfDelimited padding h b
    → AreBytes bytes → (holds : Holds SelfDelimited h b bytes)
    → BeginsWithSelf (value_behind (header_in h) h.last holds.behind) h.shape (self_size (header_in h) h.last) bytes
full_begins padding h b bytes is are holds =
    let size = holds_size holds in
    let came = holds.came in
    let came_is = is.came_is in
    let front = front_self h is.sized in
    found_first (header_in h) (taken h is.sized).is_header h.last is.last bytes holds.behind are
    (holds.bytes_are ∙ ready_spelled h is.sized holds.behind) (omega arith)

pub failed_here : (framing : Framing) (f : Fault) (bytes : List ℕ) → AreBytes bytes
    → ((more : List ℕ) → AreBytes (bytes ++ more) → Refuses framing f (bytes ++ more)) → Refuses framing f bytes
failed_here framing f bytes are all =
    subst (Refuses framing f) (append-nil bytes) (all [] (subst AreBytes (sym (append-nil bytes)) are))

pub answers : (framing : Framing) (padding : Padding) (place : Place) (h : Head) (b : Body) (used : ℕ)
    (bytes : List ℕ) → IsSteady framing padding place h b → AreBytes bytes → StandsAt framing place h b bytes
    → Answers framing bytes (step_at place (b.front + b.came) used)
answers Whole padding (Opening stage) h b used bytes is are at =
    subst (λ r. CanBecome r (length bytes)) (sym (opening_prefix padding stage h b bytes is are at)) tt
answers SelfDelimited padding (Opening stage) h b used bytes is are at =
    let read = opening_unsized padding stage h b bytes is are at in (
      subst (λ r. CanBecomeSelf r (length bytes)) (sym read) tt,
      λ v s size. not_sized bytes v s size unsized read sized≢unsized,
    )
answers Whole padding Filling h b used bytes is are at = filling_prefix padding h b bytes is.0 at
answers SelfDelimited padding Filling h b used bytes is are at = filling_self padding h b bytes is.0 is.1 at
answers Whole padding Full h b used bytes is are at = absurd at
answers SelfDelimited padding Full h b used bytes is are at = (_, _, _, full_begins padding h b bytes is are at)
answers Whole padding (Failed rule) h b used bytes is are at = failed_here Whole (fault_at rule b) bytes are at
answers SelfDelimited padding (Failed rule) h b used bytes is are at = failed_here SelfDelimited (fault_at rule b) bytes are at

-- how many bytes came, where more can come
pub reading_size : (framing : Framing) (padding : Padding) (place : Place) (h : Head) (b : Body) (bytes : List ℕ)
    → IsSteady framing padding place h b → StandsAt framing place h b bytes → IsReading place
    → length bytes ≡ b.front + b.came
reading_size framing padding (Opening stage) h b bytes is at reading =
    let front = is.front_is in
    let none = is.none in
    let size = ap (λ (l : List ℕ). length l) at in
    omega arith
reading_size framing padding Filling h b bytes is at reading =
    let size = holds_size at.holds in
    let all = at.all in
    let front = is.0.front_is in
    omega arith
reading_size framing padding Full h b bytes is at reading = absurd reading
reading_size framing padding (Failed rule) h b bytes is at reading = absurd reading

-- and where the packet ends
pub ends_at : (framing : Framing) (padding : Padding) (place : Place) (h : Head) (b : Body) (used before : ℕ)
    (bytes : List ℕ) → IsSteady framing padding place h b → AreBytes bytes → StandsAt framing place h b bytes
    → (IsWhole place → b.front + b.came ≡ before + used) → Ends before bytes (step_at place (b.front + b.came) used)
ends_at framing padding (Opening stage) h b used before bytes is are at moved = tt
ends_at framing padding Filling h b used before bytes is are at moved = tt
ends_at Whole padding Full h b used before bytes is are at moved = absurd at
ends_at SelfDelimited padding Full h b used before bytes is are at moved =
    λ v s size begins.
    begins_once v _ s _ size _ bytes begins (full_begins padding h b bytes is are at)
    ∙ sym (full_size padding h b is) ∙ moved tt
ends_at framing padding (Failed rule) h b used before bytes is are at moved = tt

-- what stands where more can come
pub reading_answers : (framing : Framing) (padding : Padding) (place : Place) (h : Head) (b : Body) (bytes : List ℕ)
    → IsSteady framing padding place h b → AreBytes bytes → StandsAt framing place h b bytes → IsReading place
    → Answers framing bytes More
reading_answers framing padding (Opening stage) h b bytes is are at reading = answers framing padding (Opening stage) h b 0 bytes is are at
reading_answers framing padding Filling h b bytes is are at reading = answers framing padding Filling h b 0 bytes is are at
reading_answers framing padding Full h b bytes is are at reading = absurd reading
reading_answers framing padding (Failed rule) h b bytes is are at reading = absurd reading

-- a packet that ends in a front begins the front
begins_front : (v : PacketValue) (s : Shape) (size : ℕ) (bytes piece : List ℕ) → size ≤ length bytes
    → BeginsWithSelf v s size (bytes ++ piece) → BeginsWithSelf v s size bytes
begins_front v s size bytes piece fits begins = record {
  within = fits;
  spelled = subst (SpellsSelf v s) (take-append-le size bytes piece fits) begins.spelled;
}

-- no packet was whole before the piece, so one that ends in it has a byte of it
pub takes_some : (framing : Framing) (bytes piece : List ℕ) (step : Step) → Answers framing bytes More
    → Answers framing (bytes ++ piece) step → Ends (length bytes) (bytes ++ piece) step → TakesSome step
takes_some framing bytes piece More before answer ends = tt
takes_some Whole bytes piece (Done used) before answer ends = absurd answer
takes_some SelfDelimited bytes piece (Done zero) before answer ends =
    let size = ends answer.0 answer.1 answer.2 answer.3 in
    absurd (before.1 answer.0 answer.1 answer.2 (begins_front answer.0 answer.1 answer.2 bytes piece (omega (arith, size)) answer.3))
takes_some SelfDelimited bytes piece (Done (suc used)) before answer ends = omega arith
takes_some framing bytes piece (Refused f) before answer ends = tt
