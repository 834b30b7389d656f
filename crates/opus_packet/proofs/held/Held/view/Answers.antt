use Rattle.std.proofs.Common.{◌*◌, ◌≤◌, ℕ, length, map, take, drop, sym, ap, ◌∙◌, subst}
use Rattle.opus_toc.specs.Configuration.{samples_of}
use Rattle.opus_packet.specs.Value.{max_duration}
use Rattle.opus_packet.specs.Held.{HeldRead}
use Rattle.opus_packet.specs.Cut.{cut}
use Rattle.opus_packet.specs.Canonical.{keep_shape}
use Rattle.opus_packet.proofs.CutLemmas.{length-cut}
use Rattle.opus_packet.proofs.HeldLemmas.{lens-held}
use Rattle.opus_packet.proofs.held.Held.view.Goals as goal

pub of_kept-requires-clause-lasts : goal.of_kept-requires-clause-lasts
of_kept-requires-clause-lasts c =
    let h = c.self.inside in
    subst (λ k. k * samples_of h.config ≤ max_duration) (length-cut (take h.body h.bytes.items) h.lens.items ∙ ap length (sym c.as_slice.ensures.value)) c.self.invariant.value.duration

pub returns-clause-shape : goal.returns-clause-shape
returns-clause-shape c =
    let h = c.self.inside in
    let i = c.self.invariant in
    c.of_kept.ensures.shape
    ∙ ap (λ l. keep_shape l (length c.split_at.result.1.now)) (c.as_slice.ensures.value ∙ sym (lens-held h.bytes.items h.lens.items h.body i.fills i.within))
    ∙ ap (λ t. keep_shape (map (length {A = ℕ}) (cut (take h.body h.bytes.items) h.lens.items)) (length t)) (c.split_at.ensures.back ∙ ap (λ l. drop h.body l) c.deref.ensures.value)
    ∙ ap (λ (r : HeldRead). keep_shape (map (length {A = ℕ}) r.value.frames) (length r.tail)) c.self.view_is
