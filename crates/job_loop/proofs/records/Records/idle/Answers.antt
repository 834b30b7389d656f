use Rattle.std.proofs.Common.{rules, refl, sym, ◌∙◌}
use Rattle.job_loop.proofs.FormLemmas.{ended_whole, ended_bare}
use Rattle.job_loop.proofs.records.Records.idle.Goals as goal

pub returns-then-close : goal.returns-then-close
returns-then-close g c = record {
  moves = (record { same = refl; none = search rules }, search rules);
  turn = λ h rs stands size.
      ended_whole (g.F.Form.ends (g.F.Form.layout c.args.self.now.form)) _ _ h rs _ c.if-close.true
      (c.end-close.ensures.ends h rs stands (size ∙ sym c.passed.ensures.value) c.args.self.now.reader.last);
  same = c.end-close.ensures.same;
  over = refl;
  ready = c.end-close.ensures.ready c.if-close.true c.args.self.now.reader.last;
  wanting = tt;
}

pub returns-else-close : goal.returns-else-close
returns-else-close g c = record {
  moves = (record { same = refl; none = search rules }, search rules);
  turn = λ h rs stands size.
      ended_bare (g.F.Form.ends (g.F.Form.layout c.args.self.now.form))
      (g.F.Form.current c.end-close.new.self c.args.self.now.reader.last) _ h rs _ c.if-close.false
      (c.end-close.ensures.ends h rs stands (size ∙ sym c.passed.ensures.value) c.args.self.now.reader.last);
  same = c.end-close.ensures.same;
  over = refl;
  ready = tt;
  wanting = tt;
}
