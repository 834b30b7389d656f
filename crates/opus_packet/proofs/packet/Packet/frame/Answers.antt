use Rattle.std.proofs.Common.{◌≡◌, arith}
use Rattle.opus_packet.proofs.FramesLemmas.{walk, is_at, some_left}
use Rattle.opus_packet.proofs.packet.Packet.frame.Goals as goal

pub loop-init : goal.loop-init
loop-init c = c.frames-frames.ensures

pub loop-preserved : goal.loop-preserved
loop-preserved c = walk (λ f. f.now) c.args.self.now.value.frames c.loop.frames c.next.new.self c.loop.counter c.next.result c.loop.invariant c.next.ensures.steps

pub returns-in-Some-clause-frame : goal.returns-in-Some-clause-frame
returns-in-Some-clause-frame c =
    let all : c.loop.counter ≡ c.args.i = omega (arith, c.loop.auto.counter-end, c.loop-test.false) in
    is_at c.args.self.now.value.frames c.loop.frames c.next-2.new.self c.args.i c.loop.counter c.in-Some.frame.now c.loop.invariant all c.in-Some.ensures.steps

pub returns-in-None-clause-frame : goal.returns-in-None-clause-frame
returns-in-None-clause-frame c =
    let all : c.loop.counter ≡ c.args.i = omega (arith, c.loop.auto.counter-end, c.loop-test.false) in
    absurd (some_left c.args.self.now.value.frames c.loop.frames c.args.i c.loop.counter c.loop.invariant all c.requires c.in-None.ensures.steps.0)

pub returns-in-None-clause-most : goal.returns-in-None-clause-most
returns-in-None-clause-most c =
    let all : c.loop.counter ≡ c.args.i = omega (arith, c.loop.auto.counter-end, c.loop-test.false) in
    absurd (some_left c.args.self.now.value.frames c.loop.frames c.args.i c.loop.counter c.loop.invariant all c.requires c.in-None.ensures.steps.0)
