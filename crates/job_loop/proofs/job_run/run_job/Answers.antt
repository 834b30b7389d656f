use Rattle.std.proofs.Common.{◌≡◌, ◌⊎◌, [], sym, ap, ◌∙◌, subst, rules}
use Rattle.opus_io.specs.Reader.{ReaderState}
use Rattle.job_loop.specs.Causes.{Causes, is_write_fault, is_no_memory}
use Rattle.job_loop.specs.Ran.{Ran}
use Rattle.job_loop.specs.Gathered.{held_in, inner_sink}
use Rattle.job_loop.proofs.CauseLemmas.{reason_longer}
use Rattle.job_loop.proofs.InnerLemmas.{ran_inner, unstarted}
use Rattle.job_loop.proofs.JudgeLemmas.{judged_known, ran_taken}
use Rattle.job_loop.proofs.job_run.run_job.Goals as goal

pub returns-in_default-clause-ran : goal.returns-in_default-clause-ran
returns-in_default-clause-ran g c =
    unstarted (g.J.RecordJob.meaning c.args.job.now) (g.F.Form.settles (g.F.Form.layout c.args.form))
    (g.F.Form.ends (g.F.Form.layout c.args.form)) g.F.Form.place c.args.limit (g.S.Source.left c.args.source.now)
    (g.O.Sink.contents c.args.out.now) (g.met.F.Form.settled c.args.form [] [] c.requires.form)

pub returns-in_default-take_room-clause-ran : goal.returns-in_default-take_room-clause-ran
returns-in_default-take_room-clause-ran g c =
    unstarted (g.J.RecordJob.meaning c.args.job.now) (g.F.Form.settles (g.F.Form.layout c.args.form))
    (g.F.Form.ends (g.F.Form.layout c.args.form)) g.F.Form.place c.args.limit (g.S.Source.left c.args.source.now)
    (g.O.Sink.contents c.args.out.now) (g.met.F.Form.settled c.args.form [] [] c.requires.form)

pub returns-clause-ran : goal.returns-clause-ran
returns-clause-ran g c =
    let form = c.new-2.ensures.form in
    let limit : c.new-2.result.reader.limit ≡ c.args.limit =
    ap (λ (k : ReaderState). k.limit) c.new-2.ensures.reader ∙ c.in-Ok.ensures.limit in
    let m = g.J.RecordJob.meaning c.args.job.now in
    let S = λ (f : g.row.F.Denot). g.F.Form.settles (g.F.Form.layout f) in
    let E = λ (f : g.row.F.Denot). g.F.Form.ends (g.F.Form.layout f) in
    let place = g.F.Form.place in
    let left = g.S.Source.left c.args.source.now in
    let left' = g.S.Source.left c.run_records-ending.new.source in
    let content = g.O.Sink.contents in
    let result = c.run_records-ending.result in
    let first = c.over-gathered.result in
    let last = c.run_records-ending.new.out in
    let name = sym (c.into_inner.ensures.name ∙ c.run_records-ending.ensures.onward.same ∙ c.over-gathered.ensures.name) in
    let same : inner_sink last ≡ c.out-1.given.0 = search rules in
    let ran = ran_inner m (S c.new-2.result.form) (E c.new-2.result.form) place c.new-2.result.reader.limit left left'
    (content (inner_sink first)) (content (inner_sink last)) (held_in first) (held_in last) c.over-gathered.ensures.held
    c.run_records-ending.ensures.onward.grew result c.run_records-ending.ensures.ran in
    subst (λ (o : g.row.O.Denot). Ran m (S c.args.form) (E c.args.form) place c.args.limit left left' (content c.args.out.now) (content o) [] result) same
    (subst (λ (o : g.row.O.Denot). Ran m (S c.args.form) (E c.args.form) place c.args.limit left left' (content o) (content (inner_sink last)) [] result) c.over-gathered.ensures.inner
    (subst (λ n. Ran m (S c.args.form) (E c.args.form) place n left left' (content (inner_sink first)) (content (inner_sink last)) [] result) limit
    (subst (λ (f : g.row.F.Denot). Ran m (S f) (E f) place c.new-2.result.reader.limit left left' (content (inner_sink first)) (content (inner_sink last)) [] result) form ran)))

pub returns-clause-judged : goal.returns-clause-judged
returns-clause-judged g c =
    let l = g.F.Form.layout c.args.form in
    judged_known (g.J.RecordJob.meaning c.args.job.now) (g.F.Form.settles l) (g.F.Form.ends l) g.F.Form.place c.args.limit
    (g.met.F.Form.ends_once l) (g.met.F.Form.grows l) (g.met.F.Form.ends_grow l) _ _ _ _ _ c.run_records-ending.result
    (returns-clause-ran g c)

pub returns-clause-taken : goal.returns-clause-taken
returns-clause-taken g c =
    let l = g.F.Form.layout c.args.form in
    ran_taken (g.J.RecordJob.meaning c.args.job.now) (g.F.Form.settles l) (g.F.Form.ends l) g.F.Form.place c.args.limit
    (g.S.Source.left c.args.source.now) (g.S.Source.left c.run_records-ending.new.source) (g.O.Sink.contents c.args.out.now)
    _ [] c.run_records-ending.result (returns-clause-ran g c)

pub returns-clause-cause : goal.returns-clause-cause
returns-clause-cause g c =
    let first = c.over-gathered.result in
    let last = c.run_records-ending.new.out in
    let result = c.run_records-ending.result in
    let lacks = g.J.RecordJob.lacks c.args.job.now ⊎ g.F.Form.lacks (g.F.Form.layout c.args.form) in
    let lacking = λ (f : g.row.F.Denot). g.J.RecordJob.lacks c.args.job.now ⊎ g.F.Form.lacks (g.F.Form.layout f) in
    let untouched = c.run_records-ending.new.source ≡ c.args.source.now in
    let name = sym (c.into_inner.ensures.name ∙ c.run_records-ending.ensures.onward.same ∙ c.over-gathered.ensures.name) in
    let same : inner_sink last ≡ c.out-1.given.0 = search rules in
    let counts = λ (Reason : Type 0). Causes (is_write_fault result) (is_no_memory result) Reason
    (g.O.Sink.faults (inner_sink first)) (g.O.Sink.faults (inner_sink last)) (g.O.Sink.refusals (inner_sink first))
    (g.O.Sink.refusals (inner_sink last)) in
    let same_form = subst (λ (f : g.row.F.Denot). counts (lacking f)) c.new-2.ensures.form c.run_records-ending.ensures.cause in
    let cause = reason_longer (is_write_fault result) (is_no_memory result) lacks untouched _ _ _ _ same_form in
    subst (λ (o : g.row.O.Denot). Causes (is_write_fault result) (is_no_memory result) (lacks ⊎ untouched)
    (g.O.Sink.faults c.args.out.now) (g.O.Sink.faults o) (g.O.Sink.refusals c.args.out.now) (g.O.Sink.refusals o)) same
    (subst (λ (o : g.row.O.Denot). Causes (is_write_fault result) (is_no_memory result) (lacks ⊎ untouched)
    (g.O.Sink.faults o) (g.O.Sink.faults (inner_sink last)) (g.O.Sink.refusals o) (g.O.Sink.refusals (inner_sink last)))
    c.over-gathered.ensures.inner cause)
