-- What bytes say where all checks pass, which no public clause cites.
use Rattle.std.specs.Prelude.{ℕ, ◌==◌, if◌then◌else◌, List, drop, slice_range}
use Rattle.std.specs.Int.{w16, cast_signed}
use Rattle.byteorder.specs.Endian.{little_number}
use Rattle.opus_head.specs.HeadValue.{HeadValue}
use Rattle.opus_head.specs.HeadFault.{version_in, channels_in, family_in, streams_in, coupled_in, head_size}
use Rattle.opus_head.specs.declared.table.Table.{Table}
use Rattle.opus_head.specs.declared.table.Table.TheVariants.{None, Map, Matrix}

-- the mapping bytes or the factors
abbrev pub mapping_in : List ℕ → List ℕ
mapping_in bytes = slice_range bytes 21 (head_size bytes)

abbrev pub table_in : List ℕ → Table
table_in bytes =
    if family_in bytes == 0 then None
    else if family_in bytes == 3
    then Matrix (streams_in bytes) (coupled_in bytes) (mapping_in bytes)
    else Map (streams_in bytes) (coupled_in bytes) (mapping_in bytes)

abbrev pub head_in : List ℕ → HeadValue
head_in bytes = record {
  version = version_in bytes;
  channels = channels_in bytes;
  pre_skip = little_number 2 (drop 10 bytes);
  rate = little_number 4 (drop 12 bytes);
  gain = cast_signed w16 (little_number 2 (drop 16 bytes));
  family = family_in bytes;
  table = table_in bytes;
  extra = drop (head_size bytes) bytes;
}
