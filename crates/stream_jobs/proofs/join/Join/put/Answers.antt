use Rattle.std.proofs.Common.{◌+◌, ◌≤◌, ◌++◌, true, option_map, OnOk, OnErr, subst, ap, ◌∙◌, arith, length, vec_len}
use Rattle.std.specs.Io.KnownBytes.{Appends}
use Rattle.job_loop.specs.Telling.{Front}
use Rattle.stream_jobs.specs.JoinParts.{form_at}
use Rattle.stream_jobs.proofs.JoinLemmas.{pushed_open, closed}
use Rattle.stream_jobs.proofs.join.Join.put.Goals as goal

pub returns-then-self-clause-group : goal.returns-then-self-clause-group
returns-then-self-clause-group g c group takes =
    let v = option_map (λ p. p.value) c.args.packet.now in
    pushed_open c.args.self.now _ c.args.self.now.streams group v c.args.range takes
    (omega (arith, c.if-self.true, c.note.ensures.streams, c.note.ensures.taken))
    (ap (λ n. n + 1) c.note.ensures.taken) c.note.ensures.range
    (λ none. rw c.samples_of.ensures at c.note.ensures.first none) c.note.ensures.stays
    (rw c.note.ensures.bytes at c.push_form.ensures.items)

pub returns-clause-ok : goal.returns-clause-ok
returns-clause-ok g c group takes =
    let v = option_map (λ p. p.value) c.args.packet.now in
    let full : c.args.self.now.streams ≤ c.args.self.now.taken + 1 =
    omega (arith, c.if-self.false, c.note.ensures.streams, c.note.ensures.taken) in
    let text = closed c.args.self.now group v c.args.range c.note.new.self.range (vec_len c.push_form-2.new.bytes)
    c.push_form-2.new.bytes.items takes full c.note.ensures.range
    (omega (arith, c.deref.ensures.len, ap length c.deref.ensures.value)) (c.push_form-2.ensures.items ∙ ap (λ b. b.items ++ form_at true v) c.note.ensures.bytes) in
    subst (λ t. OnOk c.write_both-written.result (Appends (g.O.Sink.contents c.args.out.now)
    (g.O.Sink.contents c.write_both-written.new.out) t)) (rw (c.demo_head-head.ensures, c.deref.ensures.value, c.len.ensures) text)
    c.write_both-written.ensures.ok

pub returns-clause-front : goal.returns-clause-front
returns-clause-front g c group takes =
    let v = option_map (λ p. p.value) c.args.packet.now in
    let full : c.args.self.now.streams ≤ c.args.self.now.taken + 1 =
    omega (arith, c.if-self.false, c.note.ensures.streams, c.note.ensures.taken) in
    let text = closed c.args.self.now group v c.args.range c.note.new.self.range (vec_len c.push_form-2.new.bytes)
    c.push_form-2.new.bytes.items takes full c.note.ensures.range
    (omega (arith, c.deref.ensures.len, ap length c.deref.ensures.value)) (c.push_form-2.ensures.items ∙ ap (λ b. b.items ++ form_at true v) c.note.ensures.bytes) in
    subst (λ t. OnErr c.write_both-written.result (Front t (g.O.Sink.contents c.args.out.now)
    (g.O.Sink.contents c.write_both-written.new.out))) (rw (c.demo_head-head.ensures, c.deref.ensures.value, c.len.ensures) text)
    c.write_both-written.ensures.front
