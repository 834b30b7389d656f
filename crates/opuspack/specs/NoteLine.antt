-- The line on standard error that tells how the program ended.
use Rattle.std.specs.Prelude.{ℕ, List, [], ◌∷◌, ◌++◌, codes, decimal}
use Rattle.opus_words.specs.declared.ending.Ending.{Ending}
use Rattle.opus_words.specs.declared.ending.Ending.TheVariants.{Ok, Refused, ReadFault, WriteFault, NoMemory, InputLimit}
use Rattle.opus_words.specs.declared.ending.JobFault.{JobFault}

-- a line: the program's name, a text and a newline
abbrev pub note : List ℕ → List ℕ
note text = codes "opuspack: " ++ text ++ 10 ∷ []

-- `refused: record K at B: TEXT`
abbrev pub refusal_note : JobFault → List ℕ
refusal_note f = note (codes "refused: record " ++ decimal f.index ++ codes " at " ++ decimal f.place
    ++ codes ": " ++ f.text.bytes)

-- nothing where all is well
abbrev pub ending_note : Ending → List ℕ
ending_note Ok = []
ending_note (Refused f) = refusal_note f
ending_note ReadFault = note (codes "read fault")
ending_note WriteFault = note (codes "write fault")
ending_note NoMemory = note (codes "no memory")
ending_note InputLimit = note (codes "input limit")
