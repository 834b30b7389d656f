-- A header's bytes, and what follows them in a piece.
use Rattle.std.proofs.Common.{◌≡◌, ℕ, ◌+◌, ◌-◌, ◌≤◌, List, [], ◌++◌, length, take, drop, vec_len, refl, sym, ap, ◌∙◌, subst, arith, append_assoc, length-append, take-append-drop, take_all}
use Rattle.std.proofs.lemmas.List.{append-nil, length-take-le, length-replicate}
use Rattle.opus_flen.specs.PaddingLength.{most_full}
use Rattle.opus_packet.specs.declared.fault.Rule.{Rule}
use Rattle.opus_packet.specs.declared.fault.Rule.TheVariants.{R5, PadLimit}
use Rattle.opus_packet.specs.PacketFault.{fault}
use Rattle.opus_packet.specs.HeaderRead.{refused, header_read}
use Rattle.opus_feed.specs.Stage.{IsOpen}
use Rattle.opus_feed.specs.Heads.{IsSound, spelling}
use Rattle.opus_feed.specs.Bodies.{Fills, StandsBehind}
use Rattle.opus_feed.specs.Holding.{held_of}
use Rattle.opus_feed.specs.Places.{IsOpening, IsFilling, IsSteady}
use Rattle.opus_feed.specs.Packets.{Refuses}
use Rattle.opus_feed.specs.Stands.{Takes, StandsAt}
use Rattle.opus_feed.specs.declared.framing.Framing.{Framing}
use Rattle.opus_feed.specs.declared.padding.Padding.{Padding}
use Rattle.opus_feed.specs.declared.stage.Stage.{Stage}
use Rattle.opus_feed.specs.declared.stage.Stage.TheVariants.{Toc, Count, PadLength, Length, LengthEnd, Last, LastEnd, Ready, BadCount, BadPadding}
use Rattle.opus_feed.specs.declared.head.Head.{Head}
use Rattle.opus_feed.specs.declared.body.Body.{Body}
use Rattle.opus_feed.specs.declared.place.Place.{Place}
use Rattle.opus_feed.specs.declared.place.Place.TheVariants.{Failed}
use Rattle.opus_feed.proofs.OpenLemmas.{bad_count_refused, bad_padding_refused}
use Rattle.opus_feed.proofs.RefuseLemmas.{refused_header}
use Rattle.opus_feed.proofs.FillLemmas.{filled, stands_behind}
use Rattle.opus_feed.proofs.HoldingLemmas.{held_behind, held_refused}
use Rattle.opus_feed.proofs.SmallLemmas.{sound_small}

-- how many bytes of the header came
pub opened_front : (framing : Framing) (old new : Stage) (h k : Head) (piece : List ℕ) (front used : ℕ)
    → front ≡ length (spelling framing old h) → used ≤ length piece
    → spelling framing new k ≡ spelling framing old h ++ take used piece
    → front + used ≡ length (spelling framing new k)
opened_front framing old new h k piece front used front_is within spelled =
    let size = ap (λ (l : List ℕ). length l) spelled in
    let joined = length-append (spelling framing old h) (take used piece) in
    let short = length-take-le used piece within in
    omega arith

pub opened_small : (framing : Framing) (old new : Stage) (h k : Head) (piece : List ℕ) (front used : ℕ)
    → front ≡ length (spelling framing old h) → used ≤ length piece
    → spelling framing new k ≡ spelling framing old h ++ take used piece → IsSound framing new k
    → front + used ≤ 65891
opened_small framing old new h k piece front used front_is within spelled sound =
    let size = opened_front framing old new h k piece front used front_is within spelled in
    let small = sound_small framing new k sound in
    omega arith

-- the bytes, in two parts
parts : (framing : Framing) (old new : Stage) (h k : Head) (piece bytes : List ℕ) (used : ℕ)
    → spelling framing new k ≡ spelling framing old h ++ take used piece → bytes ≡ spelling framing old h
    → bytes ++ piece ≡ spelling framing new k ++ drop used piece
parts framing old new h k piece bytes used spelled are =
    ap (λ bs. bs ++ piece) are ∙ ap (λ bs. spelling framing old h ++ bs) (sym (take-append-drop used piece))
    ∙ sym (append_assoc (spelling framing old h) (take used piece) (drop used piece))
    ∙ ap (λ bs. bs ++ drop used piece) (sym spelled)

-- the header is whole, and the rest of the piece came behind it
pub opened_stands : (framing : Framing) (padding : Padding) (old : Stage) (h k : Head) (piece rest : List ℕ) (used : ℕ)
    (before after : Body) (came : ℕ) (place : Place)
    → spelling framing Ready k ≡ spelling framing old h ++ take used piece → rest ≡ drop used piece
    → before.came ≡ 0 → before.kept ≡ 0
    → IsFilling framing padding k before → Fills before rest came after
    → StandsBehind framing after (length rest) came place
    → (bytes : List ℕ) → bytes ≡ spelling framing old h → StandsAt framing place k after (bytes ++ piece)
opened_stands framing padding old h k piece rest used before after came place spelled rest_is none none_kept is f at bytes are =
    let front = spelling framing Ready k in
    let first : Takes framing k before front = record {
      holds = record {
        behind = [];
        bytes_are = sym (append-nil front);
        came = omega arith;
        kept_are = ap (λ n. take n before.bytes.items) none_kept ∙ sym (ap (λ n. take {A = ℕ} n []) none_kept);
      };
      all = sym none;
    } in
    let all : front ++ rest ≡ bytes ++ piece =
    ap (λ bs. front ++ bs) rest_is ∙ sym (parts framing old Ready h k piece bytes used spelled are) in
    subst (StandsAt framing place k after) all
    (stands_behind framing padding k before after rest came place front is f at first)

-- and what is kept of it
pub opened_held : (framing : Framing) (padding : Padding) (old : Stage) (h k : Head) (piece rest : List ℕ) (used : ℕ)
    (before after : Body) (came : ℕ)
    → spelling framing Ready k ≡ spelling framing old h ++ take used piece → rest ≡ drop used piece
    → before.came ≡ 0 → IsFilling framing padding k before → Fills before rest came after
    → (bytes : List ℕ) → bytes ≡ spelling framing old h → after.kept ≡ held_of framing padding (bytes ++ piece)
opened_held framing padding old h k piece rest used before after came spelled rest_is none is f bytes are =
    let came_is = f.came_is in
    let used_is = f.used_is in
    let limit_is = f.limit_is in
    held_behind framing padding k after (bytes ++ piece) rest (filled is f)
    (parts framing old Ready h k piece bytes used spelled are ∙ ap (λ bs. spelling framing Ready k ++ bs) (sym rest_is))
    (omega arith)

-- a stage that is none of these is open
pub open_from : (stage : Stage) → (stage ≡ Ready → ⊥) → (stage ≡ BadCount → ⊥) → (stage ≡ BadPadding → ⊥)
    → IsOpen stage
open_from Toc a b c = tt
open_from Count a b c = tt
open_from PadLength a b c = tt
open_from Length a b c = tt
open_from LengthEnd a b c = tt
open_from Last a b c = tt
open_from LastEnd a b c = tt
open_from Ready a b c = absurd (a refl)
open_from BadCount a b c = absurd (b refl)
open_from BadPadding a b c = absurd (c refl)

-- all of the piece belongs to the header
pub opened_all : (framing : Framing) (old new : Stage) (h k : Head) (piece : List ℕ) (used : ℕ)
    → spelling framing new k ≡ spelling framing old h ++ take used piece → used ≡ length piece
    → (bytes : List ℕ) → bytes ≡ spelling framing old h → bytes ++ piece ≡ spelling framing new k
opened_all framing old new h k piece used spelled all bytes are =
    ap (λ bs. bs ++ piece) are ∙ ap (λ bs. spelling framing old h ++ bs) (sym (take_all used piece (omega arith)))
    ∙ sym spelled

-- ---- a header that can't stand

-- the rule that the last byte of it breaks
abbrev pub Breaks : Stage → Rule → Type 0
Breaks Toc rule = ⊥
Breaks Count rule = ⊥
Breaks PadLength rule = ⊥
Breaks Length rule = ⊥
Breaks LengthEnd rule = ⊥
Breaks Last rule = ⊥
Breaks LastEnd rule = ⊥
Breaks Ready rule = ⊥
Breaks BadCount rule = rule ≡ R5
Breaks BadPadding rule = rule ≡ PadLimit

broken_read : (framing : Framing) (stage : Stage) (h : Head) (rule : Rule) (size : ℕ) → Breaks stage rule
    → IsSound framing stage h → size ≡ length (spelling framing stage h) → (more : List ℕ)
    → header_read (spelling framing stage h ++ more) ≡ refused rule (size - 1)
broken_read framing Toc h rule size breaks sound is more = absurd breaks
broken_read framing Count h rule size breaks sound is more = absurd breaks
broken_read framing PadLength h rule size breaks sound is more = absurd breaks
broken_read framing Length h rule size breaks sound is more = absurd breaks
broken_read framing LengthEnd h rule size breaks sound is more = absurd breaks
broken_read framing Last h rule size breaks sound is more = absurd breaks
broken_read framing LastEnd h rule size breaks sound is more = absurd breaks
broken_read framing Ready h rule size breaks sound is more = absurd breaks
broken_read framing BadCount h rule size breaks sound is more =
    let place : 1 ≡ size - 1 = omega arith in
    bad_count_refused h sound.2 sound.3 more ∙ ap (λ r. refused r 1) (sym breaks) ∙ ap (refused rule) place
broken_read framing BadPadding h rule size breaks sound is more =
    let full = length-replicate {A = ℕ} (most_full + 1) 255 in
    let place : most_full + 2 ≡ size - 1 = omega arith in
    bad_padding_refused h sound more ∙ ap (λ r. refused r (most_full + 2)) (sym breaks) ∙ ap (refused rule) place

-- the place and the body of a feed that failed in the header
pub record HasBroken (framing : Framing) (padding : Padding) (first : List ℕ) (h : Head) (b : Body) (place : Place)
    (piece : List ℕ) : Type 0 where
  pub steady : IsSteady framing padding place h b
  pub stands : (bytes : List ℕ) → bytes ≡ first → StandsAt framing place h b (bytes ++ piece)
  pub held : (bytes : List ℕ) → bytes ≡ first → b.kept ≡ held_of framing padding (bytes ++ piece)

pub broken : (framing : Framing) (padding : Padding) (old new : Stage) (h k : Head) (piece : List ℕ) (used : ℕ)
    (rule : Rule) (b after : Body) (place : Place) → Breaks new rule → IsOpening framing padding old h b
    → used ≤ length piece → spelling framing new k ≡ spelling framing old h ++ take used piece
    → IsSound framing new k → place ≡ Failed rule
    → after ≡ record b { front = b.front + used - 1 }
    → HasBroken framing padding (spelling framing old h) k after place piece
broken framing padding old new h k piece used rule b after place breaks is within spelled sound there same =
    let size = opened_front framing old new h k piece b.front used is.front_is within spelled in
    let small = opened_small framing old new h k piece b.front used is.front_is within spelled sound in
    let front_is : after.front ≡ b.front + used - 1 = ap (λ (x : Body). x.front) same in
    let came_is : after.came ≡ 0 = ap (λ (x : Body). x.came) same ∙ is.none in
    let kept_is : after.kept ≡ 0 = ap (λ (x : Body). x.kept) same ∙ is.none_kept in
    let bytes_are : vec_len after.bytes ≡ vec_len b.bytes = ap (λ (x : Body). vec_len x.bytes) same in
    let at : b.front + used - 1 ≡ after.front + after.came = omega arith in
    let read : (bytes : List ℕ) → bytes ≡ spelling framing old h → (more : List ℕ)
    → header_read (bytes ++ piece ++ more) ≡ refused rule (b.front + used - 1) =
    λ bytes are more.
    ap (λ bs. header_read (bs ++ more)) (parts framing old new h k piece bytes used spelled are)
    ∙ ap header_read (append_assoc (spelling framing new k) (drop used piece) more)
    ∙ broken_read framing new k rule (b.front + used) breaks sound size (drop used piece ++ more) in
    record {
      steady = subst (λ p. IsSteady framing padding p k after) (sym there)
          (record {
            small = omega arith;
            came_small = omega arith;
            fits = omega arith;
            memory = bytes_are ∙ is.memory;
          });
      stands = λ bytes are.
          subst (λ p. StandsAt framing p k after (bytes ++ piece)) (sym there)
          (λ more all. subst (λ n. Refuses framing (fault rule n) (bytes ++ piece ++ more)) at
          (refused_header framing (bytes ++ piece ++ more) rule (b.front + used - 1) (read bytes are more)));
      held = λ bytes are.
          kept_is ∙ sym (held_refused framing padding (bytes ++ piece) rule (b.front + used - 1)
          (ap header_read (sym (append-nil (bytes ++ piece))) ∙ read bytes are []));
    }
