use Rattle.opus_feed.proofs.ReadingLemmas.{reading_answer, reading_none}
use Rattle.opus_feed.proofs.laws.a_reading_feed_holds_no_packet.Goals as goal

pub returns-clause-answer : goal.returns-clause-answer
returns-clause-answer c = reading_answer

pub returns-clause-none : goal.returns-clause-none
returns-clause-none c = reading_none
