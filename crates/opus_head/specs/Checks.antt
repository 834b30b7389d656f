-- What the functions that make one check answer, which no public clause cites.
use Rattle.std.specs.Prelude.{Option, None, Some, Result, Ok, Err}
use Rattle.opus_head.specs.declared.fault.HeadFault.{HeadFault}

-- the fault, if there is one
abbrev pub outcome : Option HeadFault → Result (Unit {0}) HeadFault
outcome None = Ok tt
outcome (Some fault) = Err fault
