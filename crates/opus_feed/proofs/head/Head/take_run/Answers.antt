use Rattle.std.proofs.Common.{arith, ◌≡◌, ℕ, ◌+◌, ◌<◌, List, ◌++◌, ◌∷◌, [], ◌∙◌, length, take, sym, ap, append_assoc, slice_index_or}
use Rattle.std.proofs.lemmas.Grind.{take_at_read}
use Rattle.opus_feed.specs.Heads.{spelling}
use Rattle.opus_feed.specs.contracts.stage.Stage.{the_type}
use Rattle.opus_feed.proofs.head.Head.take_run.Goals as goal
use denote.Enum.Bare.{same_true}

-- one byte more is taken of a piece
one_more : (xs : List ℕ) (n : ℕ) (first a b : List ℕ) → n < length xs → a ≡ first ++ take n xs
    → b ≡ a ++ slice_index_or xs n 0 ∷ [] → b ≡ first ++ take (n + 1) xs
one_more xs n first a b within at is =
    let byte = slice_index_or xs n 0 ∷ [] in
    is ∙ ap (λ l. l ++ byte) at ∙ append_assoc first (take n xs) byte ∙ ap (λ l. first ++ l) (sym (take_at_read xs n 0 within).1)

pub run-preserved : goal.run-preserved
run-preserved c =
    let same : c.run.taken.stage ≡ c.args.of = same_true the_type tt _ _ (sym c.if-eq.ensures) in
    let n = c.run.taken.used in
    let piece = c.args.piece.now in
    let within : n < length piece = c.run-test.true in
    record {
      taking = record { within = omega (arith, within); sound = c.next-taken.ensures.sound };
      spelled = λ first at.
          one_more piece n first (spelling c.args.framing c.args.of c.run.self) _ within
          (ap (λ s. spelling c.args.framing s c.run.self) (sym same) ∙ c.run.invariant.spelled first at)
          c.next-taken.ensures.spelled;
    }
