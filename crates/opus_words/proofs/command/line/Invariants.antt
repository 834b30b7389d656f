use Rattle.std.proofs.Common.{◌≡◌, map, take, string_bytes}
use Rattle.opus_words.specs.CommandLine.{line_of}
use Rattle.opus_words.proofs.command.line.Given as goal

abbrev pub invariant-loop-word : goal.invariant-loop-word
invariant-loop-word l =
    map (λ s. s.now) l.line.items ≡ line_of (map string_bytes (take l.word-index l.words))
