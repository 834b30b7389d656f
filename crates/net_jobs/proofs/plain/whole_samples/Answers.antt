use Rattle.std.proofs.Common.{sym, ◌∙◌, arith}
use Rattle.net_jobs.proofs.PlainLemmas.{plain-product}
use Rattle.net_jobs.proofs.plain.whole_samples.Goals as goal

pub overflow_mul-result : goal.overflow_mul-result
overflow_mul-result c =
    let plain = plain-product c.args.bytes.now c.in_ok-first.rest.now c.in_ok-first.first.now c.in_ok-frames.frames
    c.of_byte-toc.result.config c.of_byte-toc.result.code c.from.result c.samples.result c.requires
    c.in_ok-first.ensures.cases.0 c.of_byte-toc.ensures.config c.of_byte-toc.ensures.code
    (sym c.plain_frames.ensures ∙ c.in_ok-frames.was) c.from.ensures c.samples.ensures in
    let short = plain.short in omega arith

pub returns : goal.returns
returns c =
    plain-product c.args.bytes.now c.in_ok-first.rest.now c.in_ok-first.first.now c.in_ok-frames.frames
    c.of_byte-toc.result.config c.of_byte-toc.result.code c.from.result c.samples.result c.requires
    c.in_ok-first.ensures.cases.0 c.of_byte-toc.ensures.config c.of_byte-toc.ensures.code
    (sym c.plain_frames.ensures ∙ c.in_ok-frames.was) c.from.ensures c.samples.ensures
