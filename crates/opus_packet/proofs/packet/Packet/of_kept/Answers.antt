use Rattle.std.proofs.Common.{ℕ, length, ap, ◌∙◌, arith}
use Rattle.std.proofs.lemmas.List.Sums.{sum_by-le}
use Rattle.opus_packet.specs.Value.{max_frame}
use Rattle.opus_packet.specs.Header.{header_bytes}
use Rattle.opus_packet.specs.PacketGrammar.{header_in}
use Rattle.opus_packet.specs.Cut.{cut}
use Rattle.opus_packet.specs.Canonical.{keep_shape}
use Rattle.opus_packet.proofs.SpellingLemmas.{kept-size}
use Rattle.opus_packet.proofs.packet.Packet.of_kept.Goals as goal

pub overflow_cast-size : goal.overflow_cast-size
overflow_cast-size c =
    omega (arith, c.requires.whole, c.requires.most, c.requires.tail, sum_by-le (λ (x : ℕ). x) max_frame c.args.lens.now c.requires.each)

pub overflow_add-size-2 : goal.overflow_add-size-2
overflow_add-size-2 c =
    omega (arith, c.header_size.ensures.most, c.requires.whole, c.requires.most, c.requires.tail, sum_by-le (λ (x : ℕ). x) max_frame c.args.lens.now c.requires.each)

pub returns-clause-size : goal.returns-clause-size
returns-clause-size c =
    let a = c.args in
    let read = c.of_lens.result in
    let lens = c.of_list-lens.ensures in
    c.of_lens.ensures.size
    ∙ kept-size read.value a.body.now a.lens.now a.tail.now c.keep_shape-shape.result c.header_size.result
    (c.of_lens.ensures.frames ∙ ap (λ l. cut a.body.now l) lens) c.requires.whole
    (c.keep_shape-shape.ensures ∙ ap (λ l. keep_shape l (length a.tail.now)) lens)
    (c.header_size.ensures.size read.value.config read.value.stereo ∙ ap (λ l. length (header_bytes (header_in read.value.config read.value.stereo c.keep_shape-shape.result l))) lens)
