use Rattle.std.proofs.Common.{refl, ◌≤◌, arith}
use Rattle.std.proofs.lemmas.List.Elements.{All-get_or}
use Rattle.opus_packet.specs.Value.{max_frame}
use Rattle.opus_packet.proofs.LensLemmas.{last_length-at}
use Rattle.opus_packet.proofs.lens.Lens.of_list.Goals as goal

pub invariant_of-result : goal.invariant_of-result
invariant_of-result c =
    let lens = c.args.lens.now in
    record {
      before = (refl, λ some. last_length-at lens c.requires.some);
      counted = refl;
      most = c.requires.most;
      last_small = All-get_or (λ n. n ≤ max_frame) lens _ 0 (omega (arith, c.requires.some)) c.requires.each;
      each = c.requires.each;
    }
