use Rattle.std.proofs.Common.{rules}
use Rattle.pack_jobs.specs.Refusal.{fault_text}
use Rattle.pack_jobs.proofs.text.fault_text.Goals as goal

pub returns-clause-text : goal.returns-clause-text
unfolding fault_text
returns-clause-text c = search rules
