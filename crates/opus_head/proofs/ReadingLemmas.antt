-- The spelling of a head passes all checks, and says this head.
use Rattle.std.proofs.Common.{◌≡◌, ◌≢◌, ℕ, ◌+◌, ◌*◌, ◌-◌, ◌≤◌, ◌==◌, List, ◌++◌, length, drop, length-append, refl, sym, ap, ◌∙◌, subst, arith}
use Rattle.std.specs.Int.{w16, cast_signed, cast_unsigned}
use Rattle.std.specs.List.{prefix_len, slice_range}
use Rattle.std.specs.Prelude.{None as NoFaultFound}
use Rattle.std.proofs.Math.Facts.{Fits-of_z}
use Rattle.std.proofs.lemmas.Int.{to_z-of_z}
use Rattle.std.proofs.lemmas.List.{take_at, drop_at}
use Rattle.std.proofs.lemmas.Bool.{eq-eqb, cond-true}
use Rattle.opus_head.proofs.NumberLemmas.{reads_back-two, reads_back-four}
use Rattle.opus_head.specs.HeadValue.{HeadValue, IsStreamCount, is_map_byte, IsMap, IsMatrix, IsTable, IsHead}
use Rattle.opus_head.specs.HeadBytes.{table_bytes, front_bytes, head_bytes, IsOpusHead}
use Rattle.opus_head.specs.HeadFault.{family_in, streams_in, coupled_in, mapping_size, head_size, known_mapping, head_fault}
use Rattle.opus_head.specs.HeadRead.{table_in, head_in}
use Rattle.opus_head.specs.declared.table.Table.{Table}
use Rattle.opus_head.specs.declared.table.Table.TheVariants.{None, Map, Matrix}
use Rattle.opus_head.proofs.MappingLemmas.{prefix_len-all}
use Rattle.opus_head.proofs.NoFaultLemmas.{NoFault, none-NoFault, head_size-plain, head_size-table, mapping_size-map}
use Rattle.opus_head.proofs.SpelledLemmas.{table-map, table-matrix}

-- a head with this table
abbrev with_table : HeadValue → Table → HeadValue
with_table h table = record h { table = table }

-- how the table is read off the spelling
record TableStands (h : HeadValue) (table : Table) (bytes : List ℕ) : Type 0 where
  pub size : head_size bytes ≡ 19 + length (table_bytes table)
  pub same : table_in bytes ≡ table
  pub counted : h.family ≢ 0 → IsStreamCount (streams_in bytes) (coupled_in bytes)
  pub known : h.family ≢ 0 → h.family ≢ 3 → h.channels ≤ known_mapping bytes

stands-none : (h : HeadValue) → h.family ≡ 0 → TableStands h None (head_bytes (with_table h None))
stands-none h plain =
    let bytes = head_bytes (with_table h None) in
    record {
      size = head_size-plain bytes plain;
      same = cond-true (family_in bytes == 0) None _ (eq-eqb h.family 0 plain);
      counted = λ some. absurd (some plain);
      known = λ some _. absurd (some plain);
    }

stands-map : (h : HeadValue) (streams coupled : ℕ) (map : List ℕ) → IsMap h.family h.channels streams coupled map
    → TableStands h (Map streams coupled map) (head_bytes (with_table h (Map streams coupled map)))
stands-map h streams coupled map is =
    let bytes = head_bytes (with_table h (Map streams coupled map)) in
    let table = head_size-table bytes is.has_table in
    let mapping = mapping_size-map bytes is.no_matrix in
    let size : head_size bytes ≡ 21 + length map = omega (arith, table, mapping, is.size) in
    let front : slice_range bytes 21 (21 + h.channels) ≡ map = take_at map h.extra (21 + h.channels - 21) (omega (arith, is.size)) in
    record {
      size = omega (arith, size);
      same = table-map bytes is.has_table is.no_matrix
          ∙ ap (Map streams coupled) (take_at map h.extra (head_size bytes - 21) (omega (arith, size)));
      counted = λ _. is.counted;
      known = λ _ _. let all = ap (prefix_len (is_map_byte (streams + coupled))) front ∙ prefix_len-all (is_map_byte (streams + coupled)) map is.known in
          omega (arith, all, is.size);
    }

stands-matrix : (h : HeadValue) (streams coupled : ℕ) (entries : List ℕ) → IsMatrix h.family h.channels streams coupled entries
    → TableStands h (Matrix streams coupled entries) (head_bytes (with_table h (Matrix streams coupled entries)))
stands-matrix h streams coupled entries is =
    let bytes = head_bytes (with_table h (Matrix streams coupled entries)) in
    let some : h.family ≢ 0 = λ none. omega (arith, is.is_matrix) in
    let table = head_size-table bytes some in
    let factors : mapping_size bytes ≡ 2 * ((streams + coupled) * h.channels) = rw (eq-eqb h.family 3 is.is_matrix) refl in
    let size : head_size bytes ≡ 21 + length entries = omega (arith, table, factors, is.size) in
    record {
      size = omega (arith, size);
      same = table-matrix bytes is.is_matrix
          ∙ ap (Matrix streams coupled) (take_at entries h.extra (head_size bytes - 21) (omega (arith, size)));
      counted = λ _. is.counted;
      known = λ _ no_matrix. absurd (no_matrix is.is_matrix);
    }

stands : (h : HeadValue) (table : Table) → IsTable h.family h.channels table
    → TableStands h table (head_bytes (with_table h table))
stands h None is = stands-none h is
stands h (Map streams coupled map) is = stands-map h streams coupled map is
stands h (Matrix streams coupled entries) is = stands-matrix h streams coupled entries is

length-head_bytes : (h : HeadValue) → length (head_bytes h) ≡ 19 + length (table_bytes h.table) + length h.extra
length-head_bytes h =
    length-append (front_bytes h ++ table_bytes h.table) h.extra
    ∙ ap (λ n. n + length h.extra) (length-append (front_bytes h) (table_bytes h.table))

pub NoFault-head : (h : HeadValue) → IsHead h → NoFault (head_bytes h)
NoFault-head h is =
    let table = stands h h.table is.table in
    let long = length-head_bytes h in
    record {
      begins = refl;
      whole = omega (arith, table.size, long);
      version = is.version;
      some = is.some;
      count = is.count;
      counted = table.counted;
      known = table.known;
      plain = λ one. omega (arith, table.size, long, ap length (is.plain one));
    }

-- a head made of equal parts
pub same_head : (g h : HeadValue) → g.version ≡ h.version → g.channels ≡ h.channels → g.pre_skip ≡ h.pre_skip
    → g.rate ≡ h.rate → g.gain ≡ h.gain → g.family ≡ h.family → g.table ≡ h.table → g.extra ≡ h.extra → g ≡ h
same_head g h version channels pre_skip rate gain family table extra i = record {
  version = version i;
  channels = channels i;
  pre_skip = pre_skip i;
  rate = rate i;
  gain = gain i;
  family = family i;
  table = table i;
  extra = extra i;
}

pub head_in-head_bytes : (h : HeadValue) → IsHead h → head_in (head_bytes h) ≡ h
head_in-head_bytes h is =
    let bytes = head_bytes h in
    let table = stands h h.table is.table in
    let pre_skip = reads_back-two h.pre_skip (drop 12 bytes) is.pre_skip in
    let rate = reads_back-four h.rate (drop 16 bytes) is.rate in
    let bits = reads_back-two (cast_unsigned w16 h.gain) (drop 18 bytes) (Fits-of_z is.gain).fits in
    let gain = ap (cast_signed w16) bits ∙ to_z-of_z w16 h.gain is.gain in
    let extra = drop_at (front_bytes h ++ table_bytes h.table) h.extra (head_size bytes)
    (length-append (front_bytes h) (table_bytes h.table) ∙ sym table.size) in
    same_head (head_in bytes) h refl refl pre_skip rate gain refl table.same extra

-- a head that some bytes spell is what they say, and no check fails in them

pub spelled-read : (h : HeadValue) (bytes : List ℕ) → IsOpusHead h bytes → head_in bytes ≡ h
spelled-read h bytes is = ap head_in is.spelled ∙ head_in-head_bytes h is.value

pub spelled-passes : (h : HeadValue) (bytes : List ℕ) → IsOpusHead h bytes → head_fault bytes ≡ NoFaultFound
spelled-passes h bytes is = none-NoFault bytes (subst NoFault (sym is.spelled) (NoFault-head h is.value))

pub spelled-unique : (g h : HeadValue) (bytes : List ℕ) → IsOpusHead g bytes → IsOpusHead h bytes → g ≡ h
spelled-unique g h bytes p q = sym (spelled-read g bytes p) ∙ spelled-read h bytes q
