use Rattle.std.proofs.Common.{◌≡◌, ◌-◌, sym, arith}
use Rattle.opus_multi.proofs.ReadLemmas.{broken_self, so_far_more}
use Rattle.opus_multi.proofs.OnlyLemmas.{broken_only, read_unless_full}
use Rattle.opus_multi.proofs.multi.decode_multi.Goals as goal

pub returns-in-Err-clause-fault : goal.returns-in-Err-clause-fault
returns-in-Err-clause-fault c =
    let r = c.loop-k.invariant in
    broken_self c.args.streams c.loop-k.k c.args.bytes.now c.loop-k.rest.now c.loop-k.durations r.all c.in-Err.fault (omega (arith, c.loop-k-test.true)) r.read c.in-Err.ensures.only c.in-Err.ensures.fault

pub returns-in-Err-clause-only : goal.returns-in-Err-clause-only
returns-in-Err-clause-only c vs qs counted m =
    let r = c.loop-k.invariant in
    broken_only c.args.streams c.loop-k.k c.in-Err.fault c.args.bytes.now
    (broken_self c.args.streams c.loop-k.k c.args.bytes.now c.loop-k.rest.now c.loop-k.durations r.all c.in-Err.fault (omega (arith, c.loop-k-test.true)) r.read c.in-Err.ensures.only c.in-Err.ensures.fault)
    vs qs counted m

pub loop-k-preserved : goal.loop-k-preserved
loop-k-preserved c =
    let r = c.in-Ok.read in
    rw c.behind-rest.ensures
    (so_far_more c.loop-k.k r.used c.args.bytes.now c.loop-k.rest.now c.loop-k.durations c.add.new.self c.loop-k.full c.keep-full.result c.loop-k.packets.items c.keep-full.new.packets.items r.packet c.in-Ok.ensures.found.within c.in-Ok.ensures.size c.in-Ok.ensures.tail (rw c.duration.ensures.duration at rw c.from.ensures at c.add.ensures.told) c.keep-full.ensures.before c.keep-full.ensures.kept c.loop-k.invariant)

pub returns-clause-fault : goal.returns-clause-fault
returns-clause-fault c =
    let at_end : c.loop-k.k ≡ c.args.streams - 1 = omega (arith, c.loop-k-test.false, c.loop-k.auto.k-end) in
    c.end.ensures.fault c.args.bytes.now (rw (sym at_end) c.loop-k.invariant)

pub returns-clause-found : goal.returns-clause-found
returns-clause-found c =
    let at_end : c.loop-k.k ≡ c.args.streams - 1 = omega (arith, c.loop-k-test.false, c.loop-k.auto.k-end) in
    c.end.ensures.found c.args.bytes.now (rw (sym at_end) c.loop-k.invariant)

pub returns-clause-last : goal.returns-clause-last
returns-clause-last c =
    let at_end : c.loop-k.k ≡ c.args.streams - 1 = omega (arith, c.loop-k-test.false, c.loop-k.auto.k-end) in
    c.end.ensures.last c.args.bytes.now (rw (sym at_end) c.loop-k.invariant)

pub returns-clause-only : goal.returns-clause-only
returns-clause-only c =
    let at_end : c.loop-k.k ≡ c.args.streams - 1 = omega (arith, c.loop-k-test.false, c.loop-k.auto.k-end) in
    read_unless_full c.args.streams c.args.bytes.now c.end.result (c.end.ensures.fault c.args.bytes.now (rw (sym at_end) c.loop-k.invariant))
