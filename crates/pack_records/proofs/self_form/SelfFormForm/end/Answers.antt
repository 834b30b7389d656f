use Rattle.std.proofs.Common.{⊎_elim, refl, sym, ◌∙◌, subst, true≢false}
use Rattle.pack_records.specs.Framed.{SelfStands}
use Rattle.pack_records.specs.Holds.{Holds}
use Rattle.pack_records.specs.Pieces.{shown_by}
use Rattle.pack_records.proofs.FramedLemmas.{fresh_ends, over_ends, within_ends}
use Rattle.pack_records.proofs.self_form.SelfFormForm.end.Goals as goal

pub returns-in-Within-clause-ends : goal.returns-in-Within-clause-ends
returns-in-Within-clause-ends c = λ h rs stands size own.
    let s = c.args.self.now in
    let r = shown_by c.end.new.self own in
    within_ends s.pieces s.start h rs r s.framing_is
    (subst (λ m. SelfStands m s.pieces s.start h rs) c.in-Within.is stands)
    (λ rest piece begun. subst (λ f. Holds s.pieces.padding f s.start 0 rest r) s.framing_is
    (c.end.ensures.holds rest piece (begun ∙ size) own))

pub returns-in-Fresh : goal.returns-in-Fresh
returns-in-Fresh c =
    let s = c.args.self.now in
    record {
      same = refl;
      ends = λ h rs stands size own.
          ⊎_elim
          (λ is. fresh_ends s.pieces s.start h rs (subst (λ m. SelfStands m s.pieces s.start h rs) is stands))
          (λ is. over_ends s.pieces s.start h rs (subst (λ m. SelfStands m s.pieces s.start h rs) is stands))
          c.in-Fresh.is;
      ready = λ is. absurd (true≢false (sym is));
    }
