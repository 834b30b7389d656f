use Rattle.std.proofs.Common.{arith}
use Rattle.opus_multi.specs.Multistream.{durations_of}
use Rattle.opus_multi.proofs.ReadLemmas.{broken_last, read_last, all_equal, all_unequal, told_one}
use Rattle.opus_multi.proofs.EndLemmas.{some_multistream}
use Rattle.opus_multi.proofs.multi.end.Goals as goal

pub returns-in-Err-clause-fault : goal.returns-in-Err-clause-fault
returns-in-Err-clause-fault c bytes r =
    broken_last c.args.streams bytes c.args.rest.now c.args.durations r.all c.in-Err.fault c.requires r.read c.in-Err.ensures.only c.in-Err.ensures.fault

pub returns-in-Some-clause-fault : goal.returns-in-Some-clause-fault
returns-in-Some-clause-fault c bytes r =
    let d = c.add.new.self in
    let p = c.in-Ok.packet in
    let all = read_last c.args.streams bytes c.args.rest.now c.args.durations d r.all p c.requires c.in-Ok.ensures.size c.in-Ok.ensures.tail (rw c.duration.ensures.duration at rw c.from.ensures at c.add.ensures.told) r.read in
    all_unequal c.args.streams c.in-Some.other c.min.result bytes d _ all c.in-Some.is (λ within. omega (arith, within, c.min.ensures, c.ranges.streams.fits))

pub returns-in-None-clause-last : goal.returns-in-None-clause-last
returns-in-None-clause-last c bytes r full =
    let d = c.add.new.self in
    let p = c.in-Ok.packet in
    let all = read_last c.args.streams bytes c.args.rest.now c.args.durations d r.all p c.requires c.in-Ok.ensures.size c.in-Ok.ensures.tail (rw c.duration.ensures.duration at rw c.from.ensures at c.add.ensures.told) r.read in
    some_multistream c.args.streams all.streams bytes all.counted all.are (told_one d (durations_of all.streams) all.told c.in-None.is)

pub returns-clause-found : goal.returns-clause-found
returns-clause-found c bytes r =
    let d = c.add.new.self in
    let p = c.in-Ok.packet in
    let all = read_last c.args.streams bytes c.args.rest.now c.args.durations d r.all p c.requires c.in-Ok.ensures.size c.in-Ok.ensures.tail (rw c.duration.ensures.duration at rw c.from.ensures at c.add.ensures.told) r.read in
    let kept = c.keep-full.ensures in
    rw (kept.kept c.if-full.false, r.kept (kept.before c.if-full.false)) (all_equal c.args.streams bytes d _ all c.in-None-2.is)
