use Rattle.std.proofs.Common.{◌≡◌, ◌≤◌, ◌++◌, ℕ, length, map, drop, All, refl, sym, ap, ◌∙◌, subst, append-nil, drop_at, length-append, arith}
use Rattle.opus_packet.specs.Value.{IsPacketValue, max_frame}
use Rattle.opus_packet.proofs.HeldLemmas.{frames-copied, value-copied, sum-copied}
use Rattle.opus_packet.proofs.held.Held.copy_with.Goals as goal

lens_are : (c : goal.After-toc-toc) → c.loop-len.lens.items ≡ map (length {A = ℕ}) c.args.packet.now.value.frames
lens_are c =
    sym (append-nil c.loop-len.lens.items) ∙ ap (λ l. c.loop-len.lens.items ++ l) (sym c.in-None.ensures.steps.0)
    ∙ c.loop-len.invariant

bytes_are : (c : goal.After-toc-toc) → c.extend_from_slice.new.self.items ≡ c.body-body.result.now ++ c.args.tail.now
bytes_are c = c.in_ok-extend_from_slice.ensures.items ∙ ap (λ l. l ++ c.args.tail.now) c.in_ok-bytes.ensures.items

pub overflow_cast-result : goal.overflow_cast-result
overflow_cast-result c = omega (arith, c.body-body.ensures.most)

pub returns-clause-value : goal.returns-clause-value
returns-clause-value c =
    let v = c.args.packet.now.value in
    value-copied v _ _ _ c.toc-toc.ensures.config c.toc-toc.ensures.stereo
    (frames-copied v.frames c.body-body.result.now c.extend_from_slice.new.self.items c.args.tail.now c.loop-len.lens.items c.body-body.ensures.bytes (bytes_are c) (lens_are c))

pub invariant_of-result : goal.invariant_of-result
invariant_of-result c =
    let v = c.args.packet.now.value in
    let body = c.body-body.result.now in
    let size = ap length (bytes_are c) ∙ length-append body c.args.tail.now in
    let rest : drop (length body) c.extend_from_slice.new.self.items ≡ c.args.tail.now = ap (λ l. drop (length body) l) (bytes_are c) ∙ drop_at body c.args.tail.now (length body) refl in
    record {
      value = subst IsPacketValue (sym (returns-clause-value c)) c.body-body.ensures.value;
      fills = sum-copied v.frames body c.loop-len.lens.items c.body-body.ensures.bytes (lens_are c);
      within = omega (arith, size);
      tail = omega (arith, ap length rest, c.requires);
      each = subst (λ l. All (λ n. n ≤ max_frame) l) (c.lens-len-items.ensures.are ∙ sym (lens_are c)) c.lens-len-items.ensures.each;
    }
