use Rattle.std.proofs.Common.{[], sym, subst, ◌∙◌, ap}
use Rattle.stream_records.specs.declared.item.StreamsFound.TheVariants.{Unequal}
use Rattle.stream_records.specs.Holds.{record_of}
use Rattle.stream_records.specs.StreamPieces.{shown_by, LastShows}
use Rattle.stream_records.proofs.stream_pieces.StreamPieces.end_last.Goals as goal

pub returns-in-Some-clause-last : goal.returns-in-Some-clause-last
returns-in-Some-clause-last c =
    let all = c.add.new.self in
    let o = c.in-Some.other in record {
      all = all;
      added = c.add.ensures.added;
      shows = subst (λ x. LastShows x all c.args.start c.args.range c.args.at (shown_by c.tell.new.self)) (sym c.in-Some.is)
          (c.tell.ensures.shown
          ∙ ap (λ l. record_of c.args.start c.args.at c.args.range (Unequal o.stream o.start) l c.clear.new.self.kept.items)
          c.clear.ensures.whole
          ∙ ap (λ l. record_of c.args.start c.args.at c.args.range (Unequal o.stream o.start) [] l) c.clear.ensures.kept);
    }

pub returns-in-None-clause-last : goal.returns-in-None-clause-last
returns-in-None-clause-last c =
    let all = c.add.new.self in record {
      all = all;
      added = c.add.ensures.added;
      shows = subst (λ x. LastShows x all c.args.start c.args.range c.args.at (shown_by c.tell-in-None.new.self))
          (sym c.in-None.is) c.tell-in-None.ensures.shown;
    }
