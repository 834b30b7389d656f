use Rattle.std.proofs.Common.{◌≡◌, ◌+◌, ◌-◌, ◌^◌, min, None, option_map, refl, sym, ap, ◌∙◌}
use Rattle.stream_jobs.specs.Join.{differs_in}
use Rattle.stream_jobs.specs.JoinStands.{Takes}
use Rattle.stream_jobs.proofs.JoinLemmas.{take_goes, none_by, on_ok}
use Rattle.stream_jobs.proofs.join.JoinRecordJobItemCut.take.Goals as goal

pub returns-clause-ok : goal.returns-clause-ok
returns-clause-ok g c k stands =
    let v = option_map (λ p. p.value) c.in-Ok.packet in
    let same : differs_in k.group v ≡ None =
    sym (c.differs.ensures k.group v stands.group c.samples_of.ensures) ∙ none_by c.differs.result c.in_default.not-Some in
    let takes : Takes c.args.self.now k.group v = record { stands = stands.group; same = same } in
    let group = on_ok c.put.result c.in_ok-put.field-0 c.in_ok-put.was (c.put.ensures.group k.group takes) in
    take_goes c.args.self.now _ k c.args.item.now c.item-record.result.now c.bytes.result.now v
    (g.O.Sink.contents c.args.out.now) (g.O.Sink.contents c.put.new.out) stands c.item-record.ensures c.bytes.ensures
    c.in-Ok.ensures.ok same (c.saturating_add-self.ensures ∙ ap (λ n. min (n + 1) (2 ^ 64 - 1)) c.put.ensures.count) refl
    (record { taken = group.taken; first = group.first; lost = group.lost; range = group.range; bytes = group.bytes })
    (on_ok c.put.result c.in_ok-put.field-0 c.in_ok-put.was (c.put.ensures.ok k.group takes))
