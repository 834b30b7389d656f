use Rattle.std.proofs.Common.{◌≡◌, ◌-◌, [], ◌++◌, length, take, flat_map, refl, sym, ap, ◌∙◌, append-nil}
use Rattle.opus_toc.specs.Toc.{toc_byte}
use Rattle.opus_flen.specs.FrameLength.{length_bytes}
use Rattle.opus_packet.specs.Header.{count_and_padding}
use Rattle.opus_writer.proofs.HeaderLemmas.{header-made, given-if}
use Rattle.opus_writer.proofs.header.push_header.Goals as goal

pub returns-then-gives_lens-clause-bytes : goal.returns-then-gives_lens-clause-bytes
returns-then-gives_lens-clause-bytes g c =
    let a = c.args in
    let toc : c.to_byte.result ≡ toc_byte a.toc.config a.toc.stereo a.shape.code = rw (c.to_byte.ensures, c.new.ensures.config, c.new.ensures.stereo, c.new.ensures.code) refl in
    let lens = given-if _ a.shape a.lens.now (sym c.if-gives_lens.true ∙ c.gives_lens.ensures) in
    header-made a.toc.config a.toc.stereo a.shape a.lens.now c.requires.some a.header.now.items c.push.new.self.items c.push_count.new.header.items c.push_lens.new.header.items
    (flat_map length_bytes (take (length a.lens.now - 1) a.lens.now)) c.to_byte.result toc c.push.ensures.items
    (c.push_count.ensures.bytes ∙ ap (λ n. c.push.new.self.items ++ count_and_padding a.shape n) c.len.ensures.count)
    c.push_lens.ensures.bytes (ap (λ l. flat_map length_bytes l) (sym lens))

pub returns-else-gives_lens-clause-bytes : goal.returns-else-gives_lens-clause-bytes
returns-else-gives_lens-clause-bytes g c =
    let a = c.args in
    let toc : c.to_byte.result ≡ toc_byte a.toc.config a.toc.stereo a.shape.code = rw (c.to_byte.ensures, c.new.ensures.config, c.new.ensures.stereo, c.new.ensures.code) refl in
    let lens = given-if _ a.shape a.lens.now (sym c.if-gives_lens.false ∙ c.gives_lens.ensures) in
    header-made a.toc.config a.toc.stereo a.shape a.lens.now c.requires.some a.header.now.items c.push.new.self.items c.push_count.new.header.items c.push_count.new.header.items
    [] c.to_byte.result toc c.push.ensures.items
    (c.push_count.ensures.bytes ∙ ap (λ n. c.push.new.self.items ++ count_and_padding a.shape n) c.len.ensures.count)
    (sym (append-nil c.push_count.new.header.items)) (ap (λ l. flat_map length_bytes l) (sym lens))
