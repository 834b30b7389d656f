use Rattle.opus_writer.proofs.ListedLemmas.{Listed}
use Rattle.opus_writer.proofs.header.push_listed.Given as goal

abbrev pub invariant-loop : goal.invariant-loop
invariant-loop g l = Listed l.lens l.rest l.counter l.initial.header.items l.header.items
