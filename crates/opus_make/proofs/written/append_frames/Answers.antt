use Rattle.std.proofs.Common.{◌≡◌, ◌+◌, ◌%◌, ◌≤◌, ◌++◌, ◌∙◌, length, get_or, vec_len, vec_capacity, ap, arith}
use Rattle.std.proofs.lemmas.Grind.{common_steps}
use Rattle.std.proofs.lemmas.List.FromFn.{length-map-range_with_len}
use Rattle.opus_make.specs.Written.{frame_bytes}
use Rattle.opus_make.proofs.FrameLemmas.{FramesSoFar-more, sum-within}
use Rattle.opus_make.proofs.written.append_frames.Goals as goal

pub cut-frame-requires-clause-within : goal.cut-frame-requires-clause-within
cut-frame-requires-clause-within c =
    omega (arith, c.requires.short c.loop-number.number 0 c.loop-number-test.true, c.from.ensures)

pub unwrap-requires : goal.unwrap-requires
unwrap-requires c =
    let l = c.loop-number in
    let sizes = c.args.lengths.now in
    let frame = c.cut-frame.result.now in
    let long : length frame ≡ get_or sizes l.number 0 =
    ap length c.cut-frame.ensures
    ∙ length-map-range_with_len (λ t. (l.number + t) % 256) 0 c.from.result ∙ c.from.ensures in
    let room : vec_len l.out + length frame ≤ vec_capacity l.out =
    omega (
      arith,
      long,
      sum-within sizes l.number c.loop-number-test.true,
      l.invariant.appended.size_is,
      l.invariant.capacity,
      c.requires.room,
      l.out.ok.0,
      c.args.out.now.ok.0,
    ) in
    grind (arith, common_steps)

pub loop-number-preserved : goal.loop-number-preserved
loop-number-preserved c =
    let l = c.loop-number in
    let sizes = c.args.lengths.now in
    let frame = c.cut-frame.result.now in
    let appended : c.extend_from_slice.new.self.items ≡ l.out.items ++ frame =
    rw c.unwrap.ensures at c.extend_from_slice.ensures.items in
    let is : frame ≡ frame_bytes l.number (get_or sizes l.number 0) =
    c.cut-frame.ensures ∙ ap (frame_bytes l.number) c.from.ensures in
    record {
      appended = rw appended (FramesSoFar-more sizes c.args.out.now.items l.number l.out.items frame
          c.loop-number-test.true is l.invariant.appended);
      capacity = omega (arith, l.invariant.capacity, c.extend_from_slice.ensures.capacity);
    }
