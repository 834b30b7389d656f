use Rattle.std.proofs.Common.{◌∷◌, [], ◌++◌, length, map, flat_map, replicate, ℕ, ap, ◌∙◌, arith}
use Rattle.opus_toc.specs.Toc.{toc_byte}
use Rattle.opus_flen.specs.FrameLength.{length_bytes}
use Rattle.opus_packet.specs.Header.{count_byte, given_lengths}
use Rattle.opus_packet.specs.PacketGrammar.{sizes_for}
use Rattle.opus_writer.proofs.PaddedLemmas.{padded-joined, pieces-size}
use Rattle.opus_writer.proofs.padded.append_padded.Goals as goal

pub returns-clause-ok : goal.returns-clause-ok
returns-clause-ok c =
    let a = c.args in
    let v = a.packet.now.value in
    let shape = c.shape_with-shape.ensures in
    let front = c.as_slice.ensures.value ∙ c.front_of-front.ensures ∙ ap (λ s. toc_byte v.config v.stereo 3 ∷ count_byte s (length v.frames) ∷ []) shape in
    let lens = c.as_slice-2.ensures.value ∙ c.lens_of-lens.ensures.bytes ∙ ap (λ s. flat_map length_bytes (given_lengths (sizes_for s (map (length {A = ℕ}) v.frames)))) shape in
    padded-joined v a.pad a.out.now.items c.push_all.new.out.items c.push_pad.new.out.items c.push_all-2.new.out.items c.push_all-3.new.out.items c.push_zeros.new.out.items
    c.as_slice-2.result.now c.body-body.result.now
    (c.push_all.ensures.bytes ∙ ap (λ l. l ++ c.as_slice.result.now) c.in-Ok.ensures.items ∙ ap (λ l. a.out.now.items ++ l) front)
    c.push_pad.ensures.bytes c.push_all-2.ensures.bytes lens c.push_all-3.ensures.bytes c.body-body.ensures.bytes
    (c.push_zeros.ensures.bytes ∙ ap (λ n. c.push_all-3.new.out.items ++ replicate n 0) c.padding_len-zeros.ensures.data)
    c.body-body.ensures.value.some

pub returns-in_default-clause-full : goal.returns-in_default-clause-full
returns-in_default-clause-full c =
    let v = c.args.packet.now.value in
    let lens = c.lens_of-lens.ensures.bytes ∙ ap (λ s. flat_map length_bytes (given_lengths (sizes_for s (map (length {A = ℕ}) v.frames)))) c.shape_with-shape.ensures in
    omega (arith, c.in_default.ensures.full, pieces-size v c.args.pad c.lens_of-lens.result.items lens, ap length c.front_of-front.ensures, c.len.ensures.value, c.len-2.ensures.value, c.pad_size.ensures.size, ap length c.body-body.ensures.bytes, c.padding_len-zeros.ensures.data)
