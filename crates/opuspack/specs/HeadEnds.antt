-- What a run of the job head says.
use Rattle.std.specs.Prelude.{ℕ}
use Rattle.opus_io.specs.Outside.{Outside}
use Rattle.opus_words.specs.declared.ending.Ending.{Ending}
use Rattle.job_ends.specs.Ends.{MeaningEnds}
use Rattle.opuspack.specs.Whole.{WholeSettles, WholeEnds, place_of}
use Rattle.opuspack.specs.Head.{head, TellsHead}

-- how the job ended over the whole input; want of memory may come at any time
abbrev pub HeadEnds : ℕ → Outside → Outside → Ending → Type 0
HeadEnds limit before after = MeaningEnds TellsHead place_of head WholeSettles WholeEnds limit before after (Unit {0})
