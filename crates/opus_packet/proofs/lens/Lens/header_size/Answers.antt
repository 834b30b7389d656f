use Rattle.std.proofs.Common.{◌≡◌, ◌-◌, ◌==◌, ◌||◌, if◌then◌else◌, length, take, flat_map, sym, ◌∙◌, arith}
use Rattle.opus_flen.specs.FrameLength.{length_bytes}
use Rattle.opus_packet.specs.Header.{frame_count}
use Rattle.opus_packet.specs.PacketGrammar.{header_in}
use Rattle.opus_packet.proofs.Made.{length-header_bytes}
use Rattle.opus_packet.proofs.SpellingLemmas.{given-size}
use Rattle.opus_packet.proofs.lens.Lens.header_size.Goals as goal
use Rattle.opus_packet.proofs.lens.Lens.header_size.Goals.{then-gives_lens, else-gives_lens}

lens_is : (c : goal.After-row_known-1)
    → c.if-gives_lens.lens
    ≡ (if (c.args.shape.code == 2) || c.args.shape.vbr
    then length (flat_map length_bytes (take (length c.args.self.now - 1) c.args.self.now)) else 0)
lens_is c =
    elim c.if-gives_lens.branch [
      | then-gives_lens w ↦ rw (sym c.gives_lens.ensures ∙ w.if-gives_lens.true) (w.lens-is ∙ w.spelled_size-lens.ensures.size)
      | else-gives_lens w ↦ rw (sym c.gives_lens.ensures ∙ w.if-gives_lens.false) w.lens-is
    ]

pub returns-clause-size : goal.returns-clause-size
returns-clause-size c config stereo =
    let shape = c.args.shape in
    let h = header_in config stereo shape c.args.self.now in
    omega (arith, length-header_bytes h, c.count_size.ensures.size (frame_count h.sizes), lens_is c, given-size ((shape.code == 2) || shape.vbr) c.args.self.now)
