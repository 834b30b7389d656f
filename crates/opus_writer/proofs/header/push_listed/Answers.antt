use Rattle.std.proofs.Common.{◌+◌, sym, subst, arith}
use Rattle.opus_writer.proofs.ListedLemmas.{Listed, Listed-more, Listed-some}
use Rattle.opus_writer.proofs.header.push_listed.Goals as goal
use Rattle.opus_writer.proofs.header.push_listed.Goals.{in-Some, in_default}

pub loop-preserved : goal.loop-preserved
loop-preserved g c =
    let all = c.args.lens.now in
    let l = c.loop in
    elim c.match-next.branch [
      | in-Some w ↦ subst (λ h. Listed all c.next.new.self (l.counter + 1) c.args.header.now.items h.items) (sym w.header-is)
          (Listed-more all l.rest c.next.new.self l.counter w.in-Some.len c.args.header.now.items l.header.items _ w.in-Some.ensures.steps w.push_length.ensures.bytes w.push_length.ensures.most l.invariant)
      | in_default w ↦ absurd (Listed-some all l.rest l.counter c.args.header.now.items l.header.items w.in_default.ensures.steps.0 (omega (arith, c.loop-test.true, c.len-end.ensures.count)) l.invariant)
    ]
