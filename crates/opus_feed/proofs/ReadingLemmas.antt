-- What a feed stands for while more can come.
use Rattle.std.proofs.Common.{◌≡◌, ℕ, List, subst}
use Rattle.opus_self.specs.BecomesSelf.{BeginsWithNone}
use Rattle.opus_feed.specs.declared.feed.Feed.{Feed}
use Rattle.opus_feed.specs.declared.framing.Framing.TheVariants.{SelfDelimited}
use Rattle.opus_feed.specs.declared.step.Step.TheVariants.{More}
use Rattle.opus_feed.specs.Feeds.{Stands}
use Rattle.opus_feed.specs.Steps.{IsReading}
use Rattle.opus_feed.specs.Answers.{Answers}
use Rattle.opus_feed.proofs.AnswerLemmas.{reading_answers}

-- it can become a packet, and no self-delimited one is whole
pub reading_answer : (f : Feed) (bytes : List ℕ) → Stands f bytes → IsReading f.place → Answers f.framing bytes More
reading_answer f bytes s reading =
    reading_answers f.framing f.padding f.place f.head f.body bytes f.steady s.are_bytes s.at reading

-- it begins with no self-delimited packet
pub reading_none : (f : Feed) (bytes : List ℕ) → Stands f bytes → IsReading f.place → f.framing ≡ SelfDelimited
    → BeginsWithNone bytes
reading_none f bytes s reading is = (subst (λ framing. Answers framing bytes More) is (reading_answer f bytes s reading)).1
