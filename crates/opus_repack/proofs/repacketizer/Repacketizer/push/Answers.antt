use Rattle.std.proofs.Common.{◌≡◌, ◌≤◌, ◌+◌, ◌++◌, ℕ, length, take, All, Some, sym, ap, ◌∙◌, subst, arith}
use Rattle.std.proofs.lemmas.List.{length-map, with_items_is}
use Rattle.std.specs.Vec.{with_items}
use Rattle.opus_packet.specs.Value.{max_frame}
use Rattle.opus_repack.specs.Collected.{GoesBehind, with_frames}
use Rattle.opus_repack.specs.declared.repacketizer.Repacketizer.TheInside.{Inside}
use Rattle.opus_repack.proofs.PushLemmas.{IsPushed, most-pushed, size-pushed, Pushed-collected, Pushed-value}
use Rattle.opus_repack.proofs.repacketizer.Repacketizer.push.Goals as goal

pub put_lens-self-inside-requires : goal.put_lens-self-inside-requires
put_lens-self-inside-requires c =
    let w = c.args.packet.now.value in
    let most = most-pushed c.self.inside w c.self.invariant c.body-body.ensures.value (subst (λ h. GoesBehind h w) (sym c.self.view_is) c.requires) in
    omega (arith, most, ap length c.lens.ensures.are, length-map w.frames (length {A = ℕ}))

pub put-requires : goal.put-requires
put-requires c =
    let w = c.args.packet.now.value in
    let each = subst (λ l. All (λ k. k ≤ max_frame) l) c.lens.ensures.are c.lens.ensures.each in
    let size = size-pushed c.self.inside w c.self.invariant c.body-body.ensures.value (subst (λ h. GoesBehind h w) (sym c.self.view_is) c.requires) each in
    omega (arith, size, ap length c.body-body.ensures.bytes, c.deref_mut.ensures.len, c.self.invariant.memory)

abbrev new_inside : (c : goal.After-self-5-1) → Inside
new_inside c = record {
  config = c.toc-toc.result.config;
  stereo = c.toc-toc.result.stereo;
  count = c.put_lens-self-inside.result;
  lens = c.put_lens-self-inside.new.lens;
  size = c.self.inside.size + length c.body-body.result.now;
  bytes = with_items c.self.inside.bytes c.put.new.bytes;
}

is_pushed : (c : goal.After-self-5-1) → IsPushed c.self.inside c.args.packet.now.value (new_inside c)
is_pushed c =
    let r = c.self.inside in
    let w = c.args.packet.now.value in
    let items : (new_inside c).bytes.items ≡ c.put.new.bytes = with_items_is r.bytes c.put.new.bytes (c.put.ensures.size ∙ c.deref_mut.ensures.len) in
    record {
      memory = c.self.invariant.memory;
      capacity = c.self.invariant.capacity;
      config_is = c.toc-toc.ensures.config;
      stereo_is = c.toc-toc.ensures.stereo;
      count_is = omega (arith, c.put_lens-self-inside.ensures.count, ap length c.lens.ensures.are, length-map w.frames (length {A = ℕ}));
      lens_are = c.put_lens-self-inside.ensures.put ∙ ap (λ l. take r.count r.lens ++ l) c.lens.ensures.are;
      each = subst (λ l. All (λ k. k ≤ max_frame) l) c.lens.ensures.are c.lens.ensures.each;
      size_is = ap (λ l. r.size + length l) c.body-body.ensures.bytes;
      bytes_are =
          ap (λ l. take (r.size + length c.body-body.result.now) l) items ∙ c.put.ensures.put
          ∙ ap (λ l. take r.size l ++ c.body-body.result.now) c.deref_mut.ensures.value
          ∙ ap (λ l. take r.size r.bytes.items ++ l) c.body-body.ensures.bytes;
    }

pub invariant_of-self : goal.invariant_of-self
invariant_of-self c =
    let w = c.args.packet.now.value in
    Pushed-collected c.self.inside w (new_inside c) c.self.invariant c.body-body.ensures.value (subst (λ h. GoesBehind h w) (sym c.self.view_is) c.requires) (is_pushed c)

pub returns : goal.returns
returns c =
    let w = c.args.packet.now.value in
    Pushed-value c.self.inside w (new_inside c) c.self.invariant c.body-body.ensures.value (subst (λ h. GoesBehind h w) (sym c.self.view_is) c.requires) (is_pushed c)
    ∙ ap (λ h. Some (with_frames h w)) c.self.view_is
