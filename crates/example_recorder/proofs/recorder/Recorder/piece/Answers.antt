use Rattle.std.proofs.Common.{rules, [], ◌∷◌, ◌++◌, take, subst, ◌∙◌}
use Rattle.std.proofs.Math.Seq.{take-append-add}
use Rattle.opus_packet.specs.SelfGrammar.{SpellsSelf}
use Rattle.opus_feed.specs.Answers.{Answers}
use Rattle.opus_feed.specs.declared.step.Step.TheVariants.{More, Refused}
use Rattle.example_recorder.specs.Stream.{IsStream}
use Rattle.example_recorder.proofs.RecordLemmas.{Begins-some, Read-begins}
use Rattle.example_recorder.proofs.StreamLemmas.{stream-more, stream-end}
use Rattle.example_recorder.proofs.recorder.Recorder.piece.Goals as goal

pub returns-in-More-clause-took : goal.returns-in-More-clause-took
returns-in-More-clause-took c bytes recorded h =
    let piece = c.args.bytes.now in
    let told = subst (λ f. Answers f (h.rest ++ piece) More) c.args.self.now.framing (c.in-More.ensures.answer h.rest h.stands) in
    record {
      stands = record {
        rest = h.rest ++ piece;
        stream = stream-more recorded h.rest bytes piece h.stream;
        none = told.1;
        stands = c.in-More.ensures.stands h.rest h.stands;
        reading = c.in-More.ensures.tells;
      };
      prefix = told.0;
      nothing = c.reserve.ensures.items;
    }

pub returns-in-Refused-clause-took : goal.returns-in-Refused-clause-took
returns-in-Refused-clause-took c bytes recorded h =
    let piece = c.args.bytes.now in
    record {
      rest = h.rest ++ piece;
      stream = stream-more recorded h.rest bytes piece h.stream;
      refuses = subst (λ f. Answers f (h.rest ++ piece) (Refused c.in-Refused.fault)) c.args.self.now.framing (c.in-Refused.ensures.answer h.rest h.stands);
      refusing = c.in-Refused.ensures.tells;
      nothing = c.reserve.ensures.items;
    }

pub returns-in-Done-clause-took : goal.returns-in-Done-clause-took
returns-in-Done-clause-took c bytes recorded h =
    let piece = c.args.bytes.now in
    let used = c.in-Done.used in
    let p = c.packet.result in
    let begins =
    Read-begins piece h.rest used c.feed.new.self.padding c.feed.new.self.framing p (c.in-Done.ensures.framing ∙ c.args.self.now.framing)
    (c.packet.ensures.stands (h.rest ++ piece) (c.in-Done.ensures.stands h.rest h.stands))
    (c.in-Done.ensures.ends h.rest h.stands h.reading) in
    let spells = subst (SpellsSelf p.value p.shape) (take-append-add h.rest piece used) begins.spelled in
    let stream = stream-end recorded (h.rest ++ take used piece) (bytes ++ take used piece) p.value p.shape (stream-more recorded h.rest bytes (take used piece) h.stream) spells in
    let anew = c.restart.ensures in
    record {
      value = p.value;
      stands = record {
        rest = anew.rest;
        stream = subst (λ rest. IsStream (recorded ++ p.value ∷ []) rest (bytes ++ take used piece)) anew.stream stream;
        none = anew.none;
        stands = anew.stands;
        reading = anew.reading;
      };
      some = Begins-some h.rest piece _ _ used h.none begins;
      appended = search rules;
    }
