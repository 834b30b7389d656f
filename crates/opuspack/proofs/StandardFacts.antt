-- Notes, statuses and a made store, computed by the definitions.
use Rattle.std.proofs.Common.{◌≡◌, [], ◌∷◌, ◌++◌, codes, refl}
use Rattle.opus_toc.specs.Configuration.{samples_of, row_of}
use Rattle.opus_make.specs.Plan.{plan_at}
use Rattle.opus_make.specs.Written.{packet_of}
use Rattle.opus_words.specs.declared.ending.Ending.TheVariants as ending
use Rattle.opus_words.specs.declared.fault.UsageKind.TheVariants as kind
use Rattle.opus_words.specs.declared.option.Opt.TheVariants as option
use Rattle.opuspack.specs.Finish.{code_of, status_of, note_of}
use Rattle.opuspack.specs.Made.{made_bytes}
use Rattle.opuspack.specs.Make.{made_store}
use Rattle.opuspack.specs.declared.finish.Finish.TheVariants.{Usage, Ended}

-- words that stand for no job: the status is 2, and the note tells what is wrong
wrong_words : code_of (status_of (Usage kind.Words)) ≡ 2
wrong_words = refl

words_note : note_of (Usage kind.Words) ≡ codes "opuspack: usage: words" ++ 10 ∷ []
words_note = refl

value_note : note_of (Usage (kind.Value option.Frames)) ≡ codes "opuspack: usage: value --frames" ++ 10 ∷ []
value_note = refl

-- a failed read: the status is 3
read_fault : code_of (status_of (Ended ending.ReadFault)) ≡ 3
read_fault = refl

read_fault_note : note_of (Ended ending.ReadFault) ≡ codes "opuspack: read fault" ++ 10 ∷ []
read_fault_note = refl

-- the store of seed 0 and one record: a packet of nine bytes behind a head
first_store : made_store 0 1 ≡ 0 ∷ 0 ∷ 0 ∷ 9 ∷ 0 ∷ 0 ∷ 0 ∷ 0 ∷ 0x80 ∷ 0 ∷ 1 ∷ 2 ∷ 3 ∷ 4 ∷ 5 ∷ 6 ∷ 7 ∷ []
unfolding made_bytes plan_at packet_of samples_of row_of
first_store = refl
