use Rattle.std.proofs.Common.{◌≡◌, ◌++◌, length, take, vec_len, vec_capacity, refl, sym, arith, subst, ap, ◌∙◌}
use Rattle.std.proofs.lemmas.List.{take_rest}
use Rattle.opus_packet.specs.Header.{Header, body_size}
use Rattle.opus_feed.specs.Heads.{IsSound, spelling}
use Rattle.opus_feed.specs.Places.{IsOpening, IsFilling}
use Rattle.opus_feed.specs.Steps.{IsWhole}
use Rattle.opus_packet.specs.declared.fault.Rule.TheVariants.{R5, PadLimit}
use Rattle.opus_feed.specs.declared.body.Body.{Body}
use Rattle.opus_feed.proofs.FillLemmas.{begun, filled, steady_behind}
use Rattle.opus_feed.proofs.HoldingLemmas.{held_opening}
use Rattle.opus_feed.proofs.OpenedLemmas.{opened_front, opened_small, opened_stands, opened_held, opened_all, open_from, Breaks, broken}
use Rattle.opus_feed.proofs.advance.open.Goals as goal

pub fill-moved-requires-clause-front : goal.fill-moved-requires-clause-front
fill-moved-requires-clause-front c =
    let a = c.args in
    let t = c.take-taken in
    let small = opened_small a.framing a.stage t.result.stage a.head.now t.new.self a.piece.now a.body.now.front t.result.used
    c.requires.front_is t.ensures.within t.ensures.spelled t.ensures.sound in
    omega (arith, c.start.ensures.others.front_is)

-- the body behind the header
started : (c : goal.After-struct_known-in-Ready-2-1)
    → IsFilling c.args.framing c.args.padding c.take-taken.new.self c.start.new.self
started c =
    let a = c.args in
    let t = c.take-taken in
    let others = c.start.ensures.others in
    let sound = subst (λ s. IsSound a.framing s t.new.self) c.in-Ready.is t.ensures.sound in
    let front = opened_front a.framing a.stage t.result.stage a.head.now t.new.self a.piece.now a.body.now.front t.result.used
    c.requires.front_is t.ensures.within t.ensures.spelled in
    let small = opened_small a.framing a.stage t.result.stage a.head.now t.new.self a.piece.now a.body.now.front t.result.used
    c.requires.front_is t.ensures.within t.ensures.spelled t.ensures.sound in
    begun a.framing a.padding t.new.self c.start.new.self c.body_size.result c.header-header.result.tail sound
    (others.front_is ∙ front ∙ ap (λ s. length (spelling a.framing s t.new.self)) c.in-Ready.is)
    (omega (arith, others.front_is, small)) (others.came_is ∙ c.requires.none) (others.kept_is ∙ c.requires.none_kept)
    (ap (λ b. vec_len b) others.bytes_are ∙ c.requires.memory)
    (c.body_size.ensures.size ∙ ap (λ (h : Header). body_size h.sizes t.new.self.last) c.header-header.ensures.value) c.body_size.ensures.small c.header-header.ensures.tail c.header-header.ensures.small
    c.start.ensures.limit c.start.ensures.room

pub returns-in-Ready-clause-steady : goal.returns-in-Ready-clause-steady
returns-in-Ready-clause-steady c =
    let f = c.fill-moved in
    steady_behind c.args.framing c.args.padding c.take-taken.new.self f.new.body _ f.result.used f.result.place
    (filled (started c) f.ensures.fills) f.ensures.place

pub returns-in-Ready-clause-stands : goal.returns-in-Ready-clause-stands
returns-in-Ready-clause-stands c =
    let a = c.args in
    let t = c.take-taken in
    let f = c.fill-moved in
    let others = c.start.ensures.others in
    let spelled = subst (λ s. spelling a.framing s t.new.self ≡ spelling a.framing a.stage a.head.now ++ take t.result.used a.piece.now) c.in-Ready.is t.ensures.spelled in
    λ bytes are_bytes are.
    opened_stands a.framing a.padding a.stage a.head.now t.new.self a.piece.now _ t.result.used
    c.start.new.self f.new.body f.result.used f.result.place spelled (take_rest a.piece.now t.result.used)
    (others.came_is ∙ c.requires.none) (others.kept_is ∙ c.requires.none_kept) (started c)
    f.ensures.fills f.ensures.place bytes are

pub returns-in-Ready-clause-held : goal.returns-in-Ready-clause-held
returns-in-Ready-clause-held c =
    let a = c.args in
    let t = c.take-taken in
    let f = c.fill-moved in
    let spelled = subst (λ s. spelling a.framing s t.new.self ≡ spelling a.framing a.stage a.head.now ++ take t.result.used a.piece.now) c.in-Ready.is t.ensures.spelled in
    λ bytes are_bytes are.
    opened_held a.framing a.padding a.stage a.head.now t.new.self a.piece.now _ t.result.used c.start.new.self f.new.body
    f.result.used spelled (take_rest a.piece.now t.result.used) (c.start.ensures.others.came_is ∙ c.requires.none)
    (started c) f.ensures.fills bytes are

pub returns-in-BadCount : goal.returns-in-BadCount
returns-in-BadCount c =
    let a = c.args in
    let t = c.take-taken in
    let r = c.refuse in
    let has = broken a.framing a.padding a.stage t.result.stage a.head.now t.new.self a.piece.now t.result.used R5
    a.body.now r.new.body r.result.place (subst (λ s. Breaks s R5) (sym c.in-BadCount.is) refl) c.requires
    t.ensures.within t.ensures.spelled t.ensures.sound r.ensures.place r.ensures.front in
    record {
      steady = has.steady;
      stands = λ bytes are_bytes are. has.stands bytes are;
      held = λ bytes are_bytes are. has.held bytes are;
      moved = λ is. absurd (subst IsWhole r.ensures.place is);
      within = omega (arith, t.ensures.within, r.ensures.used);
      room = ap (λ (b : Body). vec_capacity b.bytes) r.ensures.front;
    }

pub returns-in-BadPadding : goal.returns-in-BadPadding
returns-in-BadPadding c =
    let a = c.args in
    let t = c.take-taken in
    let r = c.refuse-in-BadPadding in
    let has = broken a.framing a.padding a.stage t.result.stage a.head.now t.new.self a.piece.now t.result.used PadLimit
    a.body.now r.new.body r.result.place (subst (λ s. Breaks s PadLimit) (sym c.in-BadPadding.is) refl) c.requires
    t.ensures.within t.ensures.spelled t.ensures.sound r.ensures.place r.ensures.front in
    record {
      steady = has.steady;
      stands = λ bytes are_bytes are. has.stands bytes are;
      held = λ bytes are_bytes are. has.held bytes are;
      moved = λ is. absurd (subst IsWhole r.ensures.place is);
      within = omega (arith, t.ensures.within, r.ensures.used);
      room = ap (λ (b : Body). vec_capacity b.bytes) r.ensures.front;
    }

pub returns-in_default : goal.returns-in_default
returns-in_default c =
    let a = c.args in
    let t = c.take-taken in
    let open_is = open_from t.result.stage c.in_default.not-Ready c.in_default.not-BadCount c.in_default.not-BadPadding in
    let front = opened_front a.framing a.stage t.result.stage a.head.now t.new.self a.piece.now a.body.now.front t.result.used
    c.requires.front_is t.ensures.within t.ensures.spelled in
    let small = opened_small a.framing a.stage t.result.stage a.head.now t.new.self a.piece.now a.body.now.front t.result.used
    c.requires.front_is t.ensures.within t.ensures.spelled t.ensures.sound in
    let opening : IsOpening a.framing a.padding t.result.stage t.new.self _ = record {
      open_is = open_is;
      sound = t.ensures.sound;
      front_is = front;
      small = small;
      none = c.requires.none;
      none_kept = c.requires.none_kept;
      memory = c.requires.memory;
    } in
    record {
      steady = opening;
      stands = λ bytes are_bytes are.
          opened_all a.framing a.stage t.result.stage a.head.now t.new.self a.piece.now t.result.used
          t.ensures.spelled (t.ensures.all open_is) bytes are;
      held = λ bytes are_bytes are.
          held_opening a.framing a.padding t.result.stage t.new.self _ (bytes ++ a.piece.now) opening are_bytes
          (opened_all a.framing a.stage t.result.stage a.head.now t.new.self a.piece.now t.result.used
          t.ensures.spelled (t.ensures.all open_is) bytes are);
      moved = omega arith;
      within = t.ensures.within;
      room = refl;
    }
