-- Whether a byte of the header comes next.
use Rattle.opus_feed.specs.declared.stage.Stage.{Stage}
use Rattle.opus_feed.specs.declared.stage.Stage.TheVariants.{Toc, Count, PadLength, Length, LengthEnd, Last, LastEnd, Ready, BadCount, BadPadding}

-- a byte of the header comes next
abbrev pub IsOpen : Stage → Type 0
IsOpen Toc = Unit {0}
IsOpen Count = Unit {0}
IsOpen PadLength = Unit {0}
IsOpen Length = Unit {0}
IsOpen LengthEnd = Unit {0}
IsOpen Last = Unit {0}
IsOpen LastEnd = Unit {0}
IsOpen Ready = ⊥
IsOpen BadCount = ⊥
IsOpen BadPadding = ⊥
