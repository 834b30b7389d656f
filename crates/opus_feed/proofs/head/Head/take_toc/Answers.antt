use Rattle.std.proofs.Common.{arith, refl, ap, false}
use Rattle.opus_packet.specs.HeaderRead.{shape_of}
use Rattle.opus_feed.proofs.LedLemmas.{led_plain, sized_plain}
use Rattle.opus_feed.proofs.GivenLemmas.{has_none}
use Rattle.opus_feed.proofs.head.Head.take_toc.Goals as goal

pub behind_lengths-requires : goal.behind_lengths-requires
behind_lengths-requires c =
    let shape = ap (λ code. shape_of code false 0) c.in-0.is in
    sized_plain _ 0 (omega arith) c.in-0.is shape (omega arith) (omega arith) (refl, refl, refl) (λ e. omega arith)
    refl refl

pub behind_lengths-requires-in-1 : goal.behind_lengths-requires-in-1
behind_lengths-requires-in-1 c =
    let shape = ap (λ code. shape_of code false 0) c.in-1.is in
    sized_plain _ 1 (omega arith) c.in-1.is shape (omega arith) (omega arith) (refl, refl, refl) (λ e. omega arith)
    refl refl

pub returns-in-2-clause-sound : goal.returns-in-2-clause-sound
returns-in-2-clause-sound c =
    let shape = ap (λ code. shape_of code false 0) c.in-2.is in
    record {
      led = led_plain _ 2 (omega arith) c.in-2.is shape (omega arith) (omega arith) (refl, refl, refl);
      giving = rw c.in-2.is;
      lengths = has_none _ refl refl;
      more = omega arith;
    }
