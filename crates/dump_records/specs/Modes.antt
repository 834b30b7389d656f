-- Where the machine of the form of captures stands.
use Rattle.std.specs.Prelude.{Bool, true, false}
use Rattle.dump_records.specs.declared.mode.Mode.{Mode}
use Rattle.dump_records.specs.declared.mode.Mode.TheVariants.{Line, Head, Fresh, Kept, First, Part, Bad}

-- within an opening or a record, which an end of the input cuts
abbrev pub is_within : Mode → Bool
is_within Line = true
is_within Head = true
is_within Fresh = false
is_within Kept = false
is_within First = true
is_within Part = true
is_within Bad = false
