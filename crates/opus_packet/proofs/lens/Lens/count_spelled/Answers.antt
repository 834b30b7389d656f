use Rattle.std.proofs.Common.{◌≡◌, length, flat_map, ap, ◌∙◌, arith}
use Rattle.opus_flen.specs.FrameLength.{length_bytes}
use Rattle.opus_packet.specs.SelfGrammar.{last_length}
use Rattle.opus_packet.proofs.SpellingLemmas.{spelled-last}
use Rattle.opus_packet.proofs.lens.Lens.count_spelled.Goals as goal

all_counted : (c : goal.After-width) → length (flat_map length_bytes c.args.self.now) ≡ c.loop-len.size
all_counted c =
    omega (arith, c.loop-len.invariant.same, ap (λ l. length (flat_map length_bytes l)) c.in-None.ensures.steps.0)

last_wide : (c : goal.After-width) → c.width.result ≡ length (length_bytes (last_length c.args.self.now))
last_wide c = c.width.ensures ∙ ap (λ n. length (length_bytes n)) c.last_len.ensures.last

pub overflow_sub-result : goal.overflow_sub-result
overflow_sub-result c = omega (arith, all_counted c, last_wide c, spelled-last c.args.self.now c.requires)

pub returns-clause-size : goal.returns-clause-size
returns-clause-size c = omega (arith, all_counted c, last_wide c, spelled-last c.args.self.now c.requires)
