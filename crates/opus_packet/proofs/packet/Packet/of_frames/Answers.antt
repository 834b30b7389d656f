use Rattle.std.proofs.Common.{length, ap, ◌∙◌}
use Rattle.opus_packet.proofs.SpellingLemmas.{kept_form-nil}
use Rattle.opus_packet.proofs.packet.Packet.of_frames.Goals as goal

pub returns-clause-size : goal.returns-clause-size
returns-clause-size c = c.of_kept.ensures.size ∙ ap length (kept_form-nil c.of_kept.result.value)
