-- One arrival more.
use Rattle.std.proofs.Common.{◌≡◌, ℕ, ◌+◌, ◌<◌, ◌≤◌, max, Bool, true, false, if◌then◌else◌, List, [], ◌∷◌, ◌++◌, None, ap, sym, subst, ◌∙◌, append_assoc, append-nil, length-append, arith}
use Rattle.std.specs.List.{AllByRecursion}
use Rattle.rtp_ends.specs.declared.event.Event.{Event}
use Rattle.rtp_ends.specs.declared.event.Arrival.{Arrival}
use Rattle.rtp_ends.specs.declared.event.Arrival.TheVariants.{New, Repeat}
use Rattle.rtp_ends.specs.declared.ring.Kept.{Kept}
use Rattle.rtp_ends.specs.Numbers.{Heard, Placed, number_at, placed_at, placed, next_place}
use Rattle.rtp_ends.specs.Order.{put, ordered}
use Rattle.rtp_ends.specs.Report.{events_of, certain_events}
use Rattle.rtp_ends.specs.Slots.{with_place, has_place}
use Rattle.rtp_ends.specs.Holding.{AreSettled, events_since, last_of}
use Rattle.rtp_ends.specs.Receives.{ReceiverState, StandsHaving, ReceiverStands, IsGreatest, Keeps, HasArrived, answer_to, counted}
use Rattle.rtp_ends.proofs.OrderLemmas.{put-behind}
use Rattle.rtp_ends.proofs.AscendLemmas.{ordered-ascends, put-held}
use Rattle.rtp_ends.proofs.EventLemmas.{events_since-append, last_of-append}
use Rattle.rtp_ends.proofs.HoldingLemmas.{AreSettled-weaker, AreSettled-append}
use Rattle.rtp_ends.proofs.CertainLemmas.{settled-less, within-most}
use Rattle.rtp_ends.proofs.ReceiverLemmas.{has-is, certain-is, greatest-more, order-more}
use Rattle.rtp_ends.proofs.OrderLemmas.{has_place-ordered}

-- the answer, from whether the place is kept
pub answer-is : (s : ReceiverState) (heard : List Heard) (told : List Placed) (seq place : ℕ) (b : Bool)
    → StandsHaving s heard told → place ≡ next_place heard seq → (0 < s.arrivals → s.top < place + 32768)
    → has_place place s.kept ≡ b
    → (if b then Repeat (number_at place) else New (number_at place)) ≡ answer_to heard seq
answer-is s heard told seq place b is next near has =
    ap (λ v. if v then Repeat (number_at place) else New (number_at place))
    (sym has ∙ has-is s heard told place is near)
    ∙ ap (λ p. if has_place p (placed heard) then Repeat (number_at p) else New (number_at p)) next

settled-all-less : (top place : ℕ) (xs : List Placed) → AreSettled (max top place) xs → top < place + 32768
    → AllByRecursion (λ x. x.place < place) xs
settled-all-less top place [] all above = tt
settled-all-less top place (x ∷ xs) all above =
    let first : x.place + 32768 ≤ max top place = all.0 in
    (omega arith, settled-all-less top place xs all.1 above)

-- a repeat changes the count alone
repeat-stands : (s : ReceiverState) (heard : List Heard) (told : List Placed) (x : Heard) (place : ℕ)
    → StandsHaving s heard told → place ≡ next_place heard x.seq → (0 < s.arrivals → s.top < place + 32768)
    → (heard ≡ [] → s.top ≡ place) → has_place place s.kept ≡ true
    → StandsHaving (counted s) (heard ++ x ∷ []) told
repeat-stands s heard told x place is next near first has =
    let most : place ≤ s.top = within-most s.top place s.kept is.within has in
    let same : put (placed_at place x) (ordered (placed heard)) ≡ ordered (placed heard) =
    put-held (placed_at place x) (ordered (placed heard)) (ordered-ascends (placed heard))
    (has_place-ordered place (placed heard) ∙ sym (has-is s heard told place is near) ∙ has) in
    record {
      count = ap (λ n. n + 1) is.count ∙ sym (length-append heard (x ∷ []));
      greatest = subst (λ t. IsGreatest t (heard ++ x ∷ [])) (omega arith)
          (greatest-more s.top place heard x next is.greatest first);
      order = order-more heard x place next ∙ same ∙ is.order;
      settled = is.settled;
      within = is.within;
      last_is = is.last_is;
    }

nothing-has : (place : ℕ) (xs : List Placed) → xs ≡ [] → has_place place xs ≡ true → ⊥
nothing-has place [] none has = absurd cc
nothing-has place (x ∷ xs) none has = absurd cc

pub arrived-repeat : (s new : ReceiverState) (heard : List Heard) (x : Heard) (place : ℕ) (answer : Arrival) (out : List Event)
    → ReceiverStands s heard → place ≡ next_place heard x.seq → (0 < s.arrivals → s.top < place + 32768)
    → (heard ≡ [] → s.kept ≡ []) → has_place place s.kept ≡ true → new ≡ counted s → answer ≡ Repeat (number_at place)
    → HasArrived new heard x answer out out
arrived-repeat s new heard x place answer out is next near first has counts said =
    let told = is.0 in
    let stands = repeat-stands s heard told x place is.1 next near
    (λ none. absurd (nothing-has place s.kept (first none) has)) has in
    record {
      stands = (told, subst (λ t. StandsHaving t (heard ++ x ∷ []) told) (sym counts) stands);
      answer_is = said ∙ answer-is s heard told x.seq place true is.1 next near has;
      gives = record {
        gained = [];
        more = certain-is (counted s) (heard ++ x ∷ []) told stands
            ∙ sym (certain-is s heard told is.1)
            ∙ sym (append-nil (certain_events heard));
        out_is = sym (append-nil out);
      };
    }

-- a packet that is kept
new-stands : (s new : ReceiverState) (heard : List Heard) (told : List Placed) (x : Heard) (place : ℕ) (k : Kept)
    (before after : List Event) → StandsHaving s heard told → place ≡ next_place heard x.seq → s.top < place + 32768
    → (heard ≡ [] → s.top ≡ place) → with_place place k ≡ placed_at place x
    → (keeps : Keeps s new place k before after) → StandsHaving new (heard ++ x ∷ []) (told ++ keeps.gave.0)
new-stands s new heard told x place k before after is next above first same keeps =
    let mid = keeps.mid in
    let gone = keeps.gave.0 in
    let gave = keeps.gave.1 in
    let top : new.top ≡ max s.top place = keeps.keeps.top_is ∙ keeps.reached in
    let told_less = settled-less s.top place told above is.settled in
    let far : AreSettled (max s.top place) gone = subst (λ t. AreSettled t gone) keeps.reached gave.settled in
    let gone_less = settled-all-less s.top place gone far above in
    record {
      count = keeps.counts ∙ ap (λ n. n + 1) is.count ∙ sym (length-append heard (x ∷ []));
      greatest = subst (λ t. IsGreatest t (heard ++ x ∷ [])) (sym top) (greatest-more s.top place heard x next is.greatest first);
      order = order-more heard x place next
          ∙ ap (put (placed_at place x)) (is.order ∙ ap (λ l. told ++ l) gave.kept_are)
          ∙ put-behind (placed_at place x) told (gone ++ mid.kept) told_less
          ∙ ap (λ l. told ++ l) (put-behind (placed_at place x) gone mid.kept gone_less)
          ∙ sym (append_assoc told gone (put (placed_at place x) mid.kept))
          ∙ ap (λ a. (told ++ gone) ++ put a mid.kept) (sym same)
          ∙ ap (λ l. (told ++ gone) ++ l) (sym keeps.keeps.kept_is);
      settled = subst (λ t. AreSettled t (told ++ gone)) (sym top)
          (AreSettled-append (max s.top place) told gone
          (AreSettled-weaker s.top (max s.top place) told (omega arith) is.settled) far);
      within = keeps.within;
      last_is = keeps.keeps.last_is
          ∙ gave.last_is
          ∙ ap (λ l. last_of l gone) is.last_is
          ∙ sym (last_of-append None told gone);
    }

pub arrived-new : (s new : ReceiverState) (heard : List Heard) (x : Heard) (place : ℕ) (k : Kept) (answer : Arrival)
    (before after : List Event) → ReceiverStands s heard → place ≡ next_place heard x.seq → s.top < place + 32768
    → (heard ≡ [] → s.top ≡ place) → has_place place s.kept ≡ false → with_place place k ≡ placed_at place x
    → Keeps s new place k before after → answer ≡ New (number_at place)
    → HasArrived new heard x answer before after
arrived-new s new heard x place k answer before after is next above first has same keeps said =
    let told = is.0 in
    let gone = keeps.gave.0 in
    let stands = new-stands s new heard told x place k before after is.1 next above first same keeps in
    record {
      stands = (told ++ gone, stands);
      answer_is = said ∙ answer-is s heard told x.seq place false is.1 next (λ some. above) has;
      gives = record {
        gained = events_since s.last gone;
        more = certain-is new (heard ++ x ∷ []) (told ++ gone) stands
            ∙ events_since-append None told gone
            ∙ ap (λ l. events_of told ++ events_since l gone) (sym is.1.last_is)
            ∙ ap (λ l. l ++ events_since s.last gone) (sym (certain-is s heard told is.1));
        out_is = keeps.gave.1.out_is;
      };
    }
