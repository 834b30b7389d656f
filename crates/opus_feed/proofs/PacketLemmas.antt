-- The packet that a feed holds is the one that was fed.
use Rattle.std.proofs.Common.{◌≡◌, ℕ, ◌+◌, ◌-◌, ◌≤◌, List, ◌++◌, length, take, drop, sym, ap, ◌∙◌, subst, arith, length-append, take_all, drop_at}
use Rattle.std.proofs.lemmas.List.{drop-take, take-take, length-take-le}
use Rattle.std.proofs.Math.Seq.{drop-append-add}
use Rattle.std.specs.List.{concat}
use Rattle.opus_packet.specs.Header.{header_bytes, body_size, padding_data}
use Rattle.opus_packet.specs.HeaderStands.{value_with, value_at}
use Rattle.opus_packet.specs.PacketPrefix.{AreBytes}
use Rattle.opus_packet.specs.PacketGrammar.{IsPacket}
use Rattle.opus_packet.specs.SelfGrammar.{IsSelfDelimited, self_header_bytes}
use Rattle.opus_packet.specs.SelfPrefix.{self_size}
use Rattle.opus_packet.specs.Read.{PacketRead}
use Rattle.opus_packet.proofs.GrammarLemmas.{found}
use Rattle.opus_self.specs.ValueBehind.{value_behind}
use Rattle.opus_feed.specs.Heads.{spelling, header_in, sizes_in}
use Rattle.opus_feed.specs.Places.{IsFull}
use Rattle.opus_feed.specs.Stands.{Holds, Takes, EndsWhole}
use Rattle.opus_feed.specs.Tails.{tail_kept, tail_by}
use Rattle.opus_feed.specs.Answers.{IsRead}
use Rattle.opus_feed.specs.declared.framing.Framing.{Framing}
use Rattle.opus_feed.specs.declared.framing.Framing.TheVariants.{Whole, SelfDelimited}
use Rattle.opus_feed.specs.declared.padding.Padding.{Padding}
use Rattle.opus_feed.specs.declared.stage.Stage.TheVariants.{Ready}
use Rattle.opus_feed.specs.declared.head.Head.{Head}
use Rattle.opus_feed.specs.declared.body.Body.{Body}
use Rattle.opus_feed.proofs.AnswerLemmas.{front_whole, front_self, holds_whole, holds_size, full_size, full_begins}
use Rattle.opus_feed.proofs.TailLemmas.{tail_by-is}

-- what is kept begins as what came
same_front : (items behind : List ℕ) (kept n : ℕ) → take kept items ≡ take kept behind → n ≤ kept
    → take n items ≡ take n behind
same_front items behind kept n same less =
    sym (take-take n kept items less) ∙ ap (take n) same ∙ take-take n kept behind less

same_part : (items behind : List ℕ) (kept n count : ℕ) → take kept items ≡ take kept behind → n + count ≤ kept
    → take count (drop n items) ≡ take count (drop n behind)
same_part items behind kept n count same less =
    sym (drop-take n count items) ∙ ap (drop n) (same_front items behind kept (n + count) same less)
    ∙ drop-take n count behind

-- the padding bytes are the last ones
last_ones : (all front q : List ℕ) (count : ℕ) → all ≡ front ++ q → length q ≡ count
    → q ≡ drop (length all - count) all
last_ones all front q count split size =
    let total = ap (λ (l : List ℕ). length l) split in
    let joined = length-append front q in
    let at : length front ≡ length all - count = omega arith in
    sym (ap (drop (length all - count)) split ∙ drop_at front q (length all - count) at)

-- what `packet_of` says
pub record IsMade (padding : Padding) (h : Head) (b : Body) (p : PacketRead) : Type 0 where
  pub value : p.value ≡ value_with (header_in h) h.last (take (body_size (sizes_in h) h.last) b.bytes.items)
  pub shape : p.shape ≡ h.shape
  pub size : p.size ≡ b.front + b.came
  pub tail : p.tail ≡ tail_by padding (padding_data h.shape.pad) (drop (body_size (sizes_in h) h.last) b.bytes.items)

-- value and tail, by what came
value_is : {framing : Framing} {padding : Padding} {h : Head} {b : Body} {p : PacketRead} {bytes : List ℕ}
    → IsFull framing padding h b → (holds : Holds framing h b bytes) → IsMade padding h b p
    → p.value ≡ value_with (header_in h) h.last (take (body_size (sizes_in h) h.last) holds.behind)
value_is {framing} {padding} {h} {b} is holds made =
    let kept = is.kept in
    made.value ∙ ap (value_with (header_in h) h.last)
    (same_front b.bytes.items holds.behind b.kept (body_size (sizes_in h) h.last) holds.kept_are (omega arith))

tail_is : {framing : Framing} {padding : Padding} {h : Head} {b : Body} {p : PacketRead} {bytes : List ℕ} (q : List ℕ)
    → IsFull framing padding h b → (holds : Holds framing h b bytes) → IsMade padding h b p
    → length q ≡ padding_data h.shape.pad
    → q ≡ take (padding_data h.shape.pad) (drop (body_size (sizes_in h) h.last) holds.behind)
    → p.tail ≡ tail_kept padding q
tail_is {framing} {padding} {h} {b} q is holds made size q_is =
    let kept = is.kept in
    let body = body_size (sizes_in h) h.last in
    let count = padding_data h.shape.pad in
    made.tail ∙ tail_by-is padding count (drop body b.bytes.items) q size
    (λ all. same_part b.bytes.items holds.behind b.kept body count holds.kept_are (omega arith) ∙ sym q_is)

whole_read : (padding : Padding) (h : Head) (b : Body) (p : PacketRead) (bytes : List ℕ) → IsFull Whole padding h b
    → AreBytes bytes → Takes Whole h b bytes → IsMade padding h b p → IsRead Whole padding bytes p
whole_read padding h b p bytes is are t made =
    let hs = header_in h in
    let body = body_size (sizes_in h) h.last in
    let count = padding_data h.shape.pad in
    let behind = t.holds.behind in
    let all = t.all in
    let sizes = holds_size t.holds in
    let front = is.front_is in
    let spelled = front_whole h is.sized in
    let came = is.came_is in
    let f = found bytes are hs (holds_whole is.sized t.holds) h.last is.last (omega arith) in
    let q = drop (length (header_bytes hs) + body) bytes in
    let there : length (spelling Whole Ready h) + body ≡ length (header_bytes hs) + body = ap (λ n. n + body) spelled in
    let q_is : q ≡ drop body behind =
    ap (λ n. drop n bytes) (sym there) ∙ ap (drop (length (spelling Whole Ready h) + body)) t.holds.bytes_are
    ∙ drop-append-add (spelling Whole Ready h) behind body in
    let frames : drop (length (header_bytes hs)) bytes ≡ behind =
    ap (drop (length (header_bytes hs))) t.holds.bytes_are
    ∙ drop_at (spelling Whole Ready h) behind (length (header_bytes hs)) spelled in
    let value : p.value ≡ value_at hs h.last bytes =
    value_is is t.holds made ∙ ap (λ bs. value_with hs h.last (take body bs)) (sym frames) in
    let short : length (drop body behind) ≤ count =
    (let d = ap (λ (l : List ℕ). length l) (sym q_is) in let f_size = f.padding in omega arith) in (
      q,
      subst (λ v. IsPacket v p.shape q bytes) (sym value)
          (subst (λ s. IsPacket (value_at hs h.last bytes) s q bytes) (sym made.shape) f),
      made.size ∙ omega arith,
      tail_is q is t.holds made f.padding (q_is ∙ sym (take_all count (drop body behind) short)),
    )

self_read : (padding : Padding) (h : Head) (b : Body) (p : PacketRead) (bytes : List ℕ)
    → IsFull SelfDelimited padding h b → AreBytes bytes → Holds SelfDelimited h b bytes → IsMade padding h b p
    → IsRead SelfDelimited padding bytes p
self_read padding h b p bytes is are holds made =
    let hs = header_in h in
    let body = body_size (sizes_in h) h.last in
    let count = padding_data h.shape.pad in
    let behind = holds.behind in
    let begins = full_begins padding h b bytes is are holds in
    let total = self_size hs h.last in
    let size : p.size ≡ total = made.size ∙ full_size padding h b is in
    let first = take total bytes in
    let (q, spelled) = begins.spelled in
    let within = begins.within in
    let first_size = length-take-le total bytes within in
    let before = front_self h is.sized in
    let v = value_behind hs h.last behind in
    let at : length first - count ≡ length (spelling SelfDelimited Ready h) + body = omega arith in
    let whole : total ≡ length (spelling SelfDelimited Ready h) + body + count = omega arith in
    let q_is : q ≡ take count (drop body behind) =
    last_ones first (self_header_bytes v h.shape ++ concat v.frames) q count spelled.spelled spelled.padding
    ∙ ap (λ n. drop n first) at
    ∙ ap (λ n. drop (length (spelling SelfDelimited Ready h) + body) (take n bytes)) whole
    ∙ drop-take (length (spelling SelfDelimited Ready h) + body) count bytes
    ∙ ap (λ bs. take count (drop (length (spelling SelfDelimited Ready h) + body) bs)) holds.bytes_are
    ∙ ap (take count) (drop-append-add (spelling SelfDelimited Ready h) behind body) in
    let value : p.value ≡ v = value_is is holds made in (
      q,
      subst (λ n. IsSelfDelimited p.value p.shape q (take n bytes)) (sym size)
          (subst (λ w. IsSelfDelimited w p.shape q first) (sym value)
          (subst (λ s. IsSelfDelimited v s q first) (sym made.shape) spelled)),
      omega arith,
      tail_is q is holds made spelled.padding q_is,
    )

pub packet_read : (framing : Framing) (padding : Padding) (h : Head) (b : Body) (p : PacketRead) (bytes : List ℕ)
    → IsFull framing padding h b → AreBytes bytes → EndsWhole framing h b bytes → IsMade padding h b p
    → IsRead framing padding bytes p
packet_read Whole padding h b p bytes is are t made = whole_read padding h b p bytes is are t made
packet_read SelfDelimited padding h b p bytes is are holds made = self_read padding h b p bytes is are holds made
