-- How many bytes a feed keeps.
use Rattle.std.proofs.Common.{◌≡◌, ℕ, ◌+◌, ◌-◌, ◌≤◌, List, ◌++◌, length, min, refl, sym, ap, ◌∙◌, arith, length-append, append_assoc}
use Rattle.opus_flen.specs.FrameLength.{length_bytes}
use Rattle.opus_packet.specs.declared.fault.Rule.{Rule}
use Rattle.opus_packet.specs.Value.{max_frame}
use Rattle.opus_packet.specs.Header.{Header, header_bytes, padding_data}
use Rattle.opus_packet.specs.HeaderRead.{HeaderRead, whole, partial, refused, header_read}
use Rattle.opus_packet.specs.PacketPrefix.{AreBytes, CanBecome}
use Rattle.opus_packet.specs.SelfPrefix.{SelfHeaderRead, sized, unsized, never, after_header, self_header_read, self_size, CanBecomeSelf}
use Rattle.opus_packet.proofs.BytesLemmas.{AreBytes-left}
use Rattle.opus_packet.proofs.HeaderLemmas.{header_read-refused_more}
use Rattle.opus_packet.proofs.HeaderSpelled.{header_read-more}
use Rattle.opus_self.proofs.SizedLemmas.{way_to, self_header_read-more}
use Rattle.opus_feed.specs.Heads.{spelling, header_in}
use Rattle.opus_feed.specs.Bodies.{kept_behind, Fills}
use Rattle.opus_feed.specs.Packets.{IsPrefix}
use Rattle.opus_feed.specs.Places.{IsOpening, IsFilling, IsFull, IsSteady}
use Rattle.opus_feed.specs.Stands.{Holds, Takes, StandsAt, fault_at}
use Rattle.opus_feed.specs.Steps.{IsOver}
use Rattle.opus_feed.specs.Holding.{held_whole, held_self, held_of}
use Rattle.opus_feed.specs.declared.framing.Framing.{Framing}
use Rattle.opus_feed.specs.declared.framing.Framing.TheVariants.{Whole, SelfDelimited}
use Rattle.opus_feed.specs.declared.padding.Padding.{Padding}
use Rattle.opus_feed.specs.declared.stage.Stage.{Stage}
use Rattle.opus_feed.specs.declared.stage.Stage.TheVariants.{Ready}
use Rattle.opus_feed.specs.declared.head.Head.{Head}
use Rattle.opus_feed.specs.declared.body.Body.{Body}
use Rattle.opus_feed.specs.declared.place.Place.{Place}
use Rattle.opus_feed.specs.declared.place.Place.TheVariants.{Opening, Filling, Full, Failed}
use Rattle.opus_feed.proofs.AnswerLemmas.{opening_prefix, opening_unsized, holds_sized, holds_size, front_whole, front_self, full_size, failed_here}
use Rattle.opus_feed.proofs.FillLemmas.{kept_tail-le, filled}
use Rattle.opus_feed.proofs.OpenLemmas.{ready_whole, ready_sized}

-- ---- in a header

pub held_opening : (framing : Framing) (padding : Padding) (stage : Stage) (h : Head) (b : Body) (bytes : List ℕ)
    → IsOpening framing padding stage h b → AreBytes bytes → bytes ≡ spelling framing stage h
    → b.kept ≡ held_of framing padding bytes
held_opening Whole padding stage h b bytes is are at =
    is.none_kept ∙ sym (ap (λ r. held_whole padding r (length bytes)) (opening_prefix padding stage h b bytes is are at))
held_opening SelfDelimited padding stage h b bytes is are at =
    is.none_kept ∙ sym (ap (λ r. held_self padding r (length bytes)) (opening_unsized padding stage h b bytes is are at))

pub held_refused : (framing : Framing) (padding : Padding) (bytes : List ℕ) (rule : Rule) (place : ℕ)
    → header_read bytes ≡ refused rule place → held_of framing padding bytes ≡ 0
held_refused Whole padding bytes rule place read = ap (λ r. held_whole padding r (length bytes)) read
held_refused SelfDelimited padding bytes rule place read =
    ap (λ r. held_self padding (after_header bytes r) (length bytes)) read

-- ---- behind one

-- of the bytes behind a header those are kept that there is room for
pub held_behind : (framing : Framing) (padding : Padding) (h : Head) (b : Body) (bytes behind : List ℕ)
    → IsFilling framing padding h b → bytes ≡ spelling framing Ready h ++ behind
    → b.came ≡ min b.limit (length behind) → b.kept ≡ held_of framing padding bytes
held_behind Whole padding h b bytes behind is are came =
    let read = ap header_read are ∙ ready_whole h is.sized behind in
    let sizes = ap (λ (l : List ℕ). length l) are ∙ length-append (spelling Whole Ready h) behind in
    let front = front_whole h is.sized in
    let limit_is = is.limit_is in
    let room_is = is.room_is in
    let kept_is = is.kept_is in
    let less = kept_tail-le padding (padding_data h.shape.pad) in
    let rest : length behind ≡ length bytes - length (header_bytes (header_in h)) = omega arith in
    let kept : b.kept ≡ min b.room (length behind) = omega arith in
    kept ∙ ap (λ r. min r (length behind)) (room_is ∙ ap (kept_behind padding (header_in h)) is.last)
    ∙ ap (min (kept_behind padding (header_in h) max_frame)) rest
    ∙ sym (ap (λ r. held_whole padding r (length bytes)) read)
held_behind SelfDelimited padding h b bytes behind is are came =
    let read = ap self_header_read are ∙ ready_sized h is.sized behind in
    let sizes = ap (λ (l : List ℕ). length l) are ∙ length-append (spelling SelfDelimited Ready h) behind in
    let front = front_self h is.sized in
    let limit_is = is.limit_is in
    let room_is = is.room_is in
    let kept_is = is.kept_is in
    let less = kept_tail-le padding (padding_data h.shape.pad) in
    let rest : length behind ≡ length bytes - (length (header_bytes (header_in h)) + length (length_bytes h.last)) =
    omega arith in
    let kept : b.kept ≡ min b.room (length behind) = omega arith in
    kept ∙ ap (λ r. min r (length behind)) room_is ∙ ap (min (kept_behind padding (header_in h) h.last)) rest
    ∙ sym (ap (λ r. held_self padding r (length bytes)) read)

-- a piece came behind those
pub held_filled : (framing : Framing) (padding : Padding) (h : Head) (old new : Body) (piece : List ℕ) (used : ℕ)
    (bytes : List ℕ) → IsFilling framing padding h old → Fills old piece used new → Takes framing h old bytes
    → new.kept ≡ held_of framing padding (bytes ++ piece)
held_filled framing padding h old new piece used bytes is f t =
    let behind = t.holds.behind in
    let joined = length-append behind piece in
    let all = t.all in
    let came = is.came in
    let came_is = f.came_is in
    let used_is = f.used_is in
    let limit_is = f.limit_is in
    held_behind framing padding h new (bytes ++ piece) (behind ++ piece) (filled is f)
    (ap (λ bs. bs ++ piece) t.holds.bytes_are ∙ append_assoc (spelling framing Ready h) behind piece) (omega arith)

-- ---- where nothing comes any more

-- all that a self-delimited header tells to keep came: bytes behind change nothing
held_self_full : (padding : Padding) (bytes more : List ℕ) (h : Header) (n : ℕ) → AreBytes bytes
    → self_header_read bytes ≡ sized h n → self_size h n ≤ length bytes
    → held_of SelfDelimited padding (bytes ++ more) ≡ held_self padding (sized h n) (length bytes)
held_self_full padding bytes more h n are read within =
    let sizes = length-append bytes more in
    let less = kept_tail-le padding (padding_data h.shape.pad) in
    let most = kept_behind padding h n in
    let front = length (header_bytes h) + length (length_bytes n) in
    let full : min most (length (bytes ++ more) - front) ≡ min most (length bytes - front) = omega arith in
    ap (λ r. held_self padding r (length (bytes ++ more))) (self_header_read-more bytes are h n read more) ∙ full

held_first : (padding : Padding) (h : Head) (b : Body) (bytes piece : List ℕ) → IsFull SelfDelimited padding h b
    → AreBytes bytes → Holds SelfDelimited h b bytes
    → held_of SelfDelimited padding (bytes ++ piece) ≡ held_of SelfDelimited padding bytes
held_first padding h b bytes piece is are holds =
    let sizes = holds_size holds in
    let front = is.front_is in
    let total = full_size padding h b is in
    let came = holds.came in
    let read = holds_sized is.sized holds in
    held_self_full padding bytes piece (header_in h) h.last are read (omega arith)
    ∙ sym (ap (λ r. held_self padding r (length bytes)) read)

-- bytes that none can follow keep as much with more behind them
held_whole_none : (padding : Padding) (bytes more : List ℕ) (r : HeaderRead) → AreBytes bytes → header_read bytes ≡ r
    → (CanBecome r (length bytes) → ⊥)
    → held_of Whole padding (bytes ++ more) ≡ held_whole padding r (length bytes)
held_whole_none padding bytes more (whole h) are read none =
    let sizes = length-append bytes more in
    let less = kept_tail-le padding (padding_data h.shape.pad) in
    let most = kept_behind padding h max_frame in
    let front = length (header_bytes h) in
    let full : min most (length (bytes ++ more) - front) ≡ min most (length bytes - front) = omega (arith, none) in
    ap (λ r. held_whole padding r (length (bytes ++ more))) (header_read-more bytes are h read more) ∙ full
held_whole_none padding bytes more partial are read none = absurd (none tt)
held_whole_none padding bytes more (refused rule place) are read none =
    held_refused Whole padding (bytes ++ more) rule place (header_read-refused_more bytes rule place read more)

held_self_none : (padding : Padding) (bytes more : List ℕ) (r : SelfHeaderRead) → AreBytes bytes
    → self_header_read bytes ≡ r → (CanBecomeSelf r (length bytes) → ⊥)
    → held_of SelfDelimited padding (bytes ++ more) ≡ held_self padding r (length bytes)
held_self_none padding bytes more (sized h n) are read none =
    held_self_full padding bytes more h n are read (omega (arith, none))
held_self_none padding bytes more unsized are read none = absurd (none tt)
held_self_none padding bytes more (never rule place) are read none =
    held_refused SelfDelimited padding (bytes ++ more) rule place
    (header_read-refused_more bytes rule place (way_to bytes (never rule place) read) more)

held_none : (framing : Framing) (padding : Padding) (bytes more : List ℕ) → AreBytes bytes
    → (IsPrefix framing bytes → ⊥) → held_of framing padding (bytes ++ more) ≡ held_of framing padding bytes
held_none Whole padding bytes more are none = held_whole_none padding bytes more (header_read bytes) are refl none
held_none SelfDelimited padding bytes more are none =
    held_self_none padding bytes more (self_header_read bytes) are refl none

pub held_over : (framing : Framing) (padding : Padding) (place : Place) (h : Head) (b : Body) (bytes piece : List ℕ)
    → IsOver place → IsSteady framing padding place h b → AreBytes (bytes ++ piece) → StandsAt framing place h b bytes
    → b.kept ≡ held_of framing padding bytes → b.kept ≡ held_of framing padding (bytes ++ piece)
held_over framing padding (Opening stage) h b bytes piece over is are at held = absurd over
held_over framing padding Filling h b bytes piece over is are at held = absurd over
held_over Whole padding Full h b bytes piece over is are at held = absurd at
held_over SelfDelimited padding Full h b bytes piece over is are at held =
    held ∙ sym (held_first padding h b bytes piece is (AreBytes-left bytes piece are) at)
held_over framing padding (Failed rule) h b bytes piece over is are at held =
    let left = AreBytes-left bytes piece are in
    held ∙ sym (held_none framing padding bytes piece left (failed_here framing (fault_at rule b) bytes left at).prefix)
