-- Lengths that are drawn one after another.
use Rattle.std.proofs.Common.{◌≡◌, ℕ, ◌+◌, ◌%◌, ◌<◌, List, [], ◌∷◌, ◌++◌, length, map, All, length-append, add-one, refl, sym, ap, ◌∙◌, arith}
use Rattle.std.proofs.lemmas.List.{map_push}
use Rattle.std.proofs.lemmas.List.Elements.{All-push}
use Rattle.std.proofs.lemmas.List.FromFn.{map-range_with_len_more}
use Rattle.opus_make.specs.Draws.{next_state, state_after, drawn, draws}

-- so many lengths were drawn from a state on
pub record DrawnSoFar (state count : ℕ) (lengths : List ℕ) (now : ℕ) : Type 0 where
  pub lengths_are : lengths ≡ map (λ number. number % 300) (draws count state)
  pub counted : length lengths ≡ count
  pub short : All (λ n. n < 300) lengths
  pub state_is : now ≡ state_after state count

draws-more : (count state : ℕ) → draws (count + 1) state ≡ draws count state ++ drawn (state_after state count) ∷ []
draws-more count state = map-range_with_len_more (λ i. drawn (state_after state i)) 0 count count (omega arith)

pub DrawnSoFar-more : (state count : ℕ) (lengths : List ℕ) (now : ℕ) → DrawnSoFar state count lengths now
    → DrawnSoFar state (count + 1) (lengths ++ (drawn now % 300) ∷ []) (next_state now)
DrawnSoFar-more state count lengths now so_far =
    let short : drawn now % 300 < 300 = omega arith in
    record {
      lengths_are = ap (λ l. l ++ (drawn now % 300) ∷ []) so_far.lengths_are
          ∙ ap (λ s. map (λ number. number % 300) (draws count state) ++ (drawn s % 300) ∷ []) so_far.state_is
          ∙ sym (map_push (λ number. number % 300) (draws count state) (drawn (state_after state count)))
          ∙ ap (map (λ number. number % 300)) (sym (draws-more count state));
      counted = length-append lengths ((drawn now % 300) ∷ []) ∙ ap (λ n. n + 1) so_far.counted;
      short = All-push (λ n. n < 300) lengths (drawn now % 300) so_far.short short;
      state_is = ap next_state so_far.state_is ∙ rw (add-one count) refl;
    }
