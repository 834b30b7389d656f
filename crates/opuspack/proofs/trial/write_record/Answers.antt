use Rattle.std.proofs.Common.{◌≡◌, ℕ, ◌++◌, List, length, ap, sym, subst, ◌∙◌, length-append}
use Rattle.std.specs.Io.KnownBytes.{Appends}
use Rattle.opus_io.proofs.Onward.{Onward-trans}
use Rattle.rec_store.specs.DemoStore.{demo_head}
use Rattle.pack_jobs.proofs.MergeLemmas.{second_front}
use Rattle.opuspack.proofs.trial.write_record.Goals as goal

pub returns-clause-front : goal.returns-clause-front
returns-clause-front g c =
    let header = c.args.header.now in
    let body = c.args.body.now in
    let old = g.O.Sink.contents c.args.out.now in
    let mid = g.O.Sink.contents c.write_all.new.sink in
    let new = g.O.Sink.contents c.write_both.new.out in
    let head : c.demo_head-head.result ≡ demo_head (length (header ++ body)) c.args.number =
    c.demo_head-head.ensures ∙ ap (λ (n : ℕ). demo_head n c.args.number) (sym (length-append header body)) in
    second_front c.write_both.result (demo_head (length (header ++ body)) c.args.number) (header ++ body) old mid new
    (subst (λ (x : List ℕ). Appends old mid x) head c.in_default.ensures.ok) c.write_both.ensures.front

pub returns-clause-onward : goal.returns-clause-onward
returns-clause-onward g c =
    Onward-trans _ _ _ _ _ _ c.in_default.ensures.onward c.write_both.ensures.onward
