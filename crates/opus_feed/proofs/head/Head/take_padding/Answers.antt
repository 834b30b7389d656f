use Rattle.std.proofs.Common.{◌≡◌, ℕ, arith, ap, ◌∙◌, ◌+◌, [], ◌∷◌, ◌++◌, replicate, sym}
use Rattle.opus_flen.specs.PaddingLength.{most_full}
use Rattle.opus_flen.proofs.PaddingLemmas.{most_full-is}
use Rattle.opus_feed.proofs.LedLemmas.{full_more, padded_more}
use Rattle.opus_feed.proofs.head.Head.take_padding.Goals as goal

pub returns-then-self-eq-MOST_FULL-clause-spelled : goal.returns-then-self-eq-MOST_FULL-clause-spelled
returns-then-self-eq-MOST_FULL-clause-spelled c =
    let h = c.args.self.now in
    let most : h.full ≡ most_full = omega (arith, most_full-is) in
    ap (λ n. h.first ∷ h.count ∷ replicate {A = ℕ} (n + 1) 255) (sym most)
    ∙ ap (λ bs. h.first ∷ h.count ∷ bs) (full_more h.full)
    ∙ ap (λ n. h.first ∷ h.count ∷ replicate {A = ℕ} h.full 255 ++ n ∷ []) (sym c.if-byte-eq255.true)

pub overflow_add-self : goal.overflow_add-self
overflow_add-self c = omega (arith, most_full-is)

pub returns-then-byte-eq255-clause-sound : goal.returns-then-byte-eq255-clause-sound
returns-then-byte-eq255-clause-sound c = padded_more c.args.self.now c.requires (omega (arith, most_full-is))

pub overflow_mul-self : goal.overflow_mul-self
overflow_mul-self c = omega (arith, most_full-is)

pub overflow_add-self-2 : goal.overflow_add-self-2
overflow_add-self-2 c = omega (arith, most_full-is, c.from.ensures)

pub overflow_add-self-3 : goal.overflow_add-self-3
overflow_add-self-3 c = omega (arith, most_full-is, c.from.ensures)

pub behind_padding-requires-clause-pad : goal.behind_padding-requires-clause-pad
behind_padding-requires-clause-pad c = omega (arith, most_full-is, c.from.ensures)
