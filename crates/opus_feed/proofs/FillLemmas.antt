-- Bytes behind a header: what is kept of them, and where a feed stands behind them.
use Rattle.std.proofs.Common.{◌≡◌, ℕ, ◌+◌, ◌-◌, ◌^◌, ◌<◌, ◌≤◌, Bool, true, false, nat_le, if◌then◌else◌, List, ◌++◌, length, take, min, vec_len, refl, sym, ap, ◌∙◌, subst, arith, append_assoc, length-append, take_all, ⊎_elim, leb-true}
use Rattle.std.proofs.lemmas.Bool.{cases_lt}
use Rattle.std.proofs.lemmas.List.{take-append-le, append-nil}
use Rattle.std.proofs.Math.Seq.{take-append-add}
use Rattle.opus_packet.specs.Value.{max_frame}
use Rattle.opus_packet.specs.Header.{body_size, padding_data}
use Rattle.opus_packet.specs.PacketPrefix.{most_bytes}
use Rattle.opus_packet.specs.PacketFault.{fault}
use Rattle.opus_packet.specs.declared.fault.Rule.TheVariants.{R2}
use Rattle.opus_packet.specs.declared.fault.Rule.{Rule}
use Rattle.opus_packet.specs.HeaderRead.{header_read}
use Rattle.opus_feed.specs.Heads.{IsSound, IsLast, spelling, header_in, sizes_in}
use Rattle.opus_feed.specs.Bodies.{memory_of, kept_tail, bytes_behind, Fills, StandsBehind}
use Rattle.opus_feed.specs.Places.{IsFilling, IsFull, IsSteady}
use Rattle.opus_feed.specs.Packets.{Refuses}
use Rattle.opus_feed.specs.Stands.{Holds, Takes, StandsAt, fault_at}
use Rattle.opus_feed.specs.declared.framing.Framing.{Framing}
use Rattle.opus_feed.specs.declared.framing.Framing.TheVariants.{Whole, SelfDelimited}
use Rattle.opus_feed.specs.declared.padding.Padding.{Padding}
use Rattle.opus_feed.specs.declared.padding.Padding.TheVariants.{Drop, Keep}
use Rattle.opus_feed.specs.declared.stage.Stage.TheVariants.{Ready}
use Rattle.opus_feed.specs.declared.head.Head.{Head}
use Rattle.opus_feed.specs.declared.body.Body.{Body}
use Rattle.opus_feed.specs.declared.place.Place.{Place}
use Rattle.opus_feed.specs.declared.place.Place.TheVariants.{Opening, Filling, Full, Failed}
use Rattle.opus_feed.proofs.HeadLemmas.{taken}
use Rattle.opus_feed.proofs.OpenLemmas.{ready_whole}
use Rattle.opus_feed.proofs.RefuseLemmas.{refused_long}

-- no more padding is kept than there is
pub kept_tail-le : (padding : Padding) (count : ℕ) → kept_tail padding count ≤ count
kept_tail-le Drop count = omega arith
kept_tail-le Keep count = go (nat_le count 65535)
  where
    go : (b : Bool) → (if b then count else 0) ≤ count
    go true = omega arith
    go false = omega arith

-- and no more than there is memory for, beside all frames
pub kept_tail-fits : (padding : Padding) (count : ℕ) → 61200 + kept_tail padding count ≤ memory_of padding
kept_tail-fits Drop count = omega arith
kept_tail-fits Keep count = go (nat_le count 65535) refl
  where
    go : (b : Bool) → nat_le count 65535 ≡ b → 61200 + (if b then count else 0) ≤ 126735
    go true few = let most : count ≤ 65535 = leb-true count 65535 few in omega arith
    go false few = omega arith

pub last_small : (framing : Framing) (last : ℕ) → IsLast framing last → last ≤ max_frame
last_small Whole last is = omega arith
last_small SelfDelimited last is = is

-- behind the header
pub begun : (framing : Framing) (padding : Padding) (h : Head) (b : Body) (size tail : ℕ)
    → IsSound framing Ready h → b.front ≡ length (spelling framing Ready h) → b.front ≤ 65891
    → b.came ≡ 0 → b.kept ≡ 0 → vec_len b.bytes ≡ memory_of padding
    → size ≡ body_size (sizes_in h) h.last → size ≤ 61200 → tail ≡ padding_data h.shape.pad → tail < 2 ^ 24
    → b.limit ≡ size + tail → b.room ≡ size + kept_tail padding tail → IsFilling framing padding h b
begun framing padding h b size tail sound front small none none_kept memory size_is size_small tail_is tail_small limit room =
    let fits = kept_tail-fits padding tail in
    record {
      sized = sound.0;
      last = sound.1;
      front_is = front;
      small = small;
      limit_is = limit ∙ ap (λ n. n + tail) size_is ∙ ap (λ n. body_size (sizes_in h) h.last + n) tail_is;
      room_is = room ∙ ap (λ n. n + kept_tail padding tail) size_is
          ∙ ap (λ n. body_size (sizes_in h) h.last + kept_tail padding n) tail_is;
      limit_small = omega arith;
      fits = omega arith;
      came = omega arith;
      kept_is = omega arith;
      memory = memory;
    }

pub filled : {framing : Framing} {padding : Padding} {h : Head} {old new : Body} {piece : List ℕ} {used : ℕ}
    → IsFilling framing padding h old → Fills old piece used new → IsFilling framing padding h new
filled {framing} {padding} {h} {old} {new} {piece} {used} is f =
    let came = is.came in
    let came_is = f.came_is in
    let used_is = f.used_is in
    let limit_is = f.limit_is in
    let room_is = f.room_is in
    let front_is = f.front_is in
    let memory = f.memory in
    let small = is.small in
    let limit_small = is.limit_small in
    let fits = is.fits in
    record {
      sized = is.sized;
      last = is.last;
      front_is = f.front_is ∙ is.front_is;
      small = omega arith;
      limit_is = f.limit_is ∙ is.limit_is;
      room_is = f.room_is ∙ is.room_is;
      limit_small = omega arith;
      fits = omega arith;
      came = omega arith;
      kept_is = f.kept_is;
      memory = f.memory ∙ is.memory;
    }

-- all came
full_from : (padding : Padding) (h : Head) (b : Body) → IsFilling SelfDelimited padding h b → b.came ≡ b.limit
    → IsFull SelfDelimited padding h b
full_from padding h b is all =
    let kept_is = is.kept_is in
    let limit_is = is.limit_is in
    let room_is = is.room_is in
    let fits = is.fits in
    let less = kept_tail-le padding (padding_data h.shape.pad) in
    let small = is.limit_small in
    record {
      sized = is.sized;
      last = is.last;
      front_is = is.front_is;
      small = is.small;
      came_is = all ∙ is.limit_is;
      came_small = omega arith;
      kept = omega arith;
      fits = omega arith;
      memory = is.memory;
    }

pub steady_behind : (framing : Framing) (padding : Padding) (h : Head) (b : Body) (size used : ℕ) (place : Place)
    → IsFilling framing padding h b → StandsBehind framing b size used place → IsSteady framing padding place h b
steady_behind framing padding h b size used (Opening stage) is at = absurd at
steady_behind framing padding h b size used Filling is at = (is, at.1)
steady_behind Whole padding h b size used Full is at = cc
steady_behind SelfDelimited padding h b size used Full is at = full_from padding h b is at.1
steady_behind framing padding h b size used (Failed rule) is at =
    let kept_is = is.kept_is in
    let fits = is.fits in
    let came = is.came in
    let small = is.limit_small in
    record { small = is.small; came_small = omega arith; fits = omega arith; memory = is.memory }

-- what is kept of some bytes, and of more
kept_more : (behind piece : List ℕ) (room used old new : ℕ) → old ≡ min room (length behind)
    → new ≡ min room (length behind + used)
    → take old behind ++ take (new - old) piece ≡ take new (behind ++ piece)
kept_more behind piece room used old new old_is new_is =
    ⊎_elim there_is_room no_room (cases_lt room (length behind))
  where
    there_is_room : room < length behind → take old behind ++ take (new - old) piece ≡ take new (behind ++ piece)
    there_is_room full =
        let none : new - old ≡ 0 = omega arith in
        let same : new ≡ old = omega arith in
        ap (λ n. take old behind ++ take n piece) none ∙ append-nil (take old behind)
        ∙ sym (take-append-le old behind piece (omega arith)) ∙ ap (λ n. take n (behind ++ piece)) (sym same)

    no_room : length behind ≤ room → take old behind ++ take (new - old) piece ≡ take new (behind ++ piece)
    no_room fits =
        let all : old ≡ length behind = omega arith in
        let more : new ≡ length behind + (new - old) = omega arith in
        ap (λ bs. bs ++ take (new - old) piece) (take_all old behind (omega arith))
        ∙ sym (take-append-add behind piece (new - old)) ∙ ap (λ n. take n (behind ++ piece)) (sym more)

-- and the bytes that came are those before, and the piece
record HoldsMore (framing : Framing) (h : Head) (new : Body) (behind piece bytes : List ℕ) : Type 0 where
  holds : Holds framing h new (bytes ++ piece)
  behind_is : holds.behind ≡ behind ++ piece

holds_more : {framing : Framing} {h : Head} {old new : Body} {piece bytes : List ℕ} {used : ℕ}
    → old.kept ≡ min old.room old.came → old.came ≤ old.limit → (t : Takes framing h old bytes) → Fills old piece used new
    → HoldsMore framing h new t.holds.behind piece bytes
holds_more {framing} {h} {old} {new} {piece} {bytes} {used} kept came t f =
    let behind = t.holds.behind in
    let all = t.all in
    let joined = length-append behind piece in
    let used_is = f.used_is in
    let came_is = f.came_is in
    let holds : Holds framing h new (bytes ++ piece) = record {
      behind = behind ++ piece;
      bytes_are = ap (λ bs. bs ++ piece) t.holds.bytes_are ∙ append_assoc (spelling framing Ready h) behind piece;
      came = omega arith;
      kept_are = f.bytes_are ∙ ap (λ bs. bs ++ take (new.kept - old.kept) piece) t.holds.kept_are
          ∙ kept_more behind piece new.room used old.kept new.kept
          (kept ∙ ap (λ r. min r old.came) (sym f.room_is) ∙ ap (λ n. min new.room n) (sym all))
          (f.kept_is ∙ ap (λ n. min new.room n) f.came_is ∙ ap (λ n. min new.room (n + used)) (sym all));
    } in
    record { holds = holds; behind_is = refl }

-- too many bytes came
too_many : (padding : Padding) (h : Head) (b : Body) (bytes behind : List ℕ) → IsFilling Whole padding h b
    → bytes ≡ spelling Whole Ready h ++ behind → b.limit < length behind
    → Refuses Whole (fault R2 (b.front + b.limit)) bytes
too_many padding h b bytes behind is bytes_are long =
    let read = ap header_read bytes_are ∙ ready_whole h is.sized behind in
    let size = ap (λ (l : List ℕ). length l) bytes_are in
    let joined = length-append (spelling Whole Ready h) behind in
    let spelled = ap (λ (l : List ℕ). length l) (taken h is.sized).spelled in
    let front = is.front_is in
    let limit = is.limit_is ∙ ap (bytes_behind (header_in h)) is.last in
    let most : most_bytes (header_in h) ≡ b.front + b.limit = omega arith in
    subst (λ n. Refuses Whole (fault R2 n) bytes) most (refused_long (header_in h) bytes read (omega arith))

-- the bytes that a feed stands for behind a piece
pub stands_behind : (framing : Framing) (padding : Padding) (h : Head) (old new : Body) (piece : List ℕ)
    (used : ℕ) (place : Place) (bytes : List ℕ) → IsFilling framing padding h old → Fills old piece used new
    → StandsBehind framing new (length piece) used place → Takes framing h old bytes
    → StandsAt framing place h new (bytes ++ piece)
stands_behind framing padding h old new piece used (Opening stage) bytes is f at t = absurd at
stands_behind framing padding h old new piece used Filling bytes is f at t =
    let all = t.all in
    let joined = length-append t.holds.behind piece in
    let came_is = f.came_is in
    let used_is = at.0 in
    let more = holds_more is.kept_is is.came t f in
    let size = ap (λ (l : List ℕ). length l) more.behind_is in
    record { holds = more.holds; all = omega arith }
stands_behind Whole padding h old new piece used Full bytes is f at t = cc
stands_behind SelfDelimited padding h old new piece used Full bytes is f at t = (holds_more is.kept_is is.came t f).holds
stands_behind SelfDelimited padding h old new piece used (Failed rule) bytes is fills at t = cc
stands_behind Whole padding h old new piece used (Failed rule) bytes is fills at t =
    λ more are.
    let all = t.all in
    let behind = t.holds.behind in
    let rest = piece ++ more in
    let joined = length-append behind rest in
    let second = length-append piece more in
    let came = is.came in
    let used_is = fills.used_is in
    let limit_is = fills.limit_is in
    let less = at.1 in
    let spelled : bytes ++ piece ++ more ≡ spelling Whole Ready h ++ (behind ++ rest) =
    append_assoc bytes piece more ∙ ap (λ bs. bs ++ rest) t.holds.bytes_are
    ∙ append_assoc (spelling Whole Ready h) behind rest in
    let came_is = fills.came_is in
    let full : new.limit ≡ new.came = omega arith in
    subst (λ (g : Rule). Refuses Whole (fault_at g new) (bytes ++ piece ++ more)) (sym at.2)
    (subst (λ n. Refuses Whole (fault R2 (new.front + n)) (bytes ++ piece ++ more)) full
    (too_many padding h new (bytes ++ piece ++ more) (behind ++ rest) (filled is fills) spelled (omega arith)))
