use Rattle.std.proofs.Common.{[], refl}
use Rattle.example_recorder.proofs.RecordLemmas.{None-begins}
use Rattle.example_recorder.proofs.recorder.Recorder.restart.Goals as goal

pub returns : goal.returns
returns c = record {
  rest = [];
  stream = refl;
  none = None-begins;
  stands = c.reset.ensures.stands;
  reading = c.reset.ensures.reading;
}
