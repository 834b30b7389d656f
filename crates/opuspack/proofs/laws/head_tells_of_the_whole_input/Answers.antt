use Rattle.opuspack.proofs.HeadLaws.{whole_told, whole_refused, nothing_past}
use Rattle.opuspack.proofs.laws.head_tells_of_the_whole_input.Goals as goal

pub returns-clause-told : goal.returns-clause-told
returns-clause-told c = whole_told

pub returns-clause-refused : goal.returns-clause-refused
returns-clause-refused c = whole_refused

pub returns-clause-past : goal.returns-clause-past
returns-clause-past c = nothing_past
