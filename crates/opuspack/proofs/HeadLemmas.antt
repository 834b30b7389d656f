-- The lines of a head; and a run that found no memory before it began.
use Rattle.std.proofs.Common.{◌≡◌, ℕ, List, [], ◌∷◌, ◌++◌, codes, refl, sym, ap, ◌∙◌, subst}
use Rattle.opus_io.specs.Outside.{Outside}
use Rattle.job_loop.specs.Meaning.{goes}
use Rattle.job_ends.proofs.EndsLemmas.{unstarted_ends}
use Rattle.opus_head.specs.HeadValue.{HeadValue}
use Rattle.opus_head.specs.HeadBytes.{IsOpusHead}
use Rattle.opus_head.specs.HeadFault.{head_fault}
use Rattle.opus_head.specs.Factors.{factors_of, table_entries}
use Rattle.opus_head.specs.declared.table.Table.{Table}
use Rattle.opus_head.specs.declared.table.Table.TheVariants.{Matrix}
use Rattle.opus_head.proofs.ReadingLemmas.{spelled-read, spelled-passes}
use Rattle.opus_words.specs.declared.ending.Ending.TheVariants.{NoMemory}
use Rattle.opuspack.specs.Texts.{all_texts}
use Rattle.opuspack.specs.HeadLines.{factor_text, matrix_line, head_lines}
use Rattle.opuspack.specs.Whole.{WholeSettles, WholeEnds, place_of}
use Rattle.opuspack.specs.Head.{head, head_step, TellsHead}
use Rattle.opuspack.specs.HeadEnds.{HeadEnds}

-- the factors of a table
abbrev pub factors_text : HeadValue → Table → List ℕ
factors_text h table = all_texts (factor_text (table_entries table)) (factors_of h)

pub matrix_by : (h : HeadValue) (table : Table) (streams coupled : ℕ) (entries : List ℕ) (P : List ℕ → Type 0)
    → table ≡ Matrix streams coupled entries → P (codes "matrix:" ++ factors_text h table ++ 10 ∷ []) → P (matrix_line h table)
matrix_by h table streams coupled entries P is holds =
    subst (λ t. P (codes "matrix:" ++ factors_text h t ++ 10 ∷ []) → P (matrix_line h t)) (sym is) (λ p. p) holds

-- bytes that are a head have its lines
pub head_told : (h : HeadValue) (bytes : List ℕ) → IsOpusHead h bytes
    → head_step bytes (head_fault bytes) ≡ goes (head_lines h) tt
head_told h bytes is =
    ap (head_step bytes) (spelled-passes h bytes is) ∙ ap (λ v. goes (head_lines v) tt) (spelled-read h bytes is)

pub head_unstarted : (limit : ℕ) (outside : Outside) → HeadEnds limit outside outside NoMemory
head_unstarted limit outside =
    unstarted_ends TellsHead place_of head WholeSettles WholeEnds limit outside (Unit {0}) tt
    (record { are_bytes = tt; records_are = refl })
