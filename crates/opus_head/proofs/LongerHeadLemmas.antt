-- A head of which many bytes behind the table are cut off says the same but for these bytes.
use Rattle.std.proofs.Common.{◌≡◌, ℕ, ◌+◌, ◌-◌, ◌≤◌, ◌==◌, if◌then◌else◌, List, [], ◌∷◌, ◌++◌, length, take, drop, length-drop, refl, sym, ap, ◌∙◌, subst, arith}
use Rattle.std.specs.Int.{w16, cast_signed}
use Rattle.std.proofs.lemmas.List.{take-append-le, drop-append-le}
use Rattle.byteorder.specs.Endian.{little_number}
use Rattle.opus_head.specs.HeadValue.{HeadValue, AreBytes}
use Rattle.opus_head.specs.HeadBytes.{IsOpusHead}
use Rattle.opus_head.specs.HeadFault.{family_in, streams_in, coupled_in, head_size}
use Rattle.opus_head.specs.HeadRead.{mapping_in, table_in, head_in}
use Rattle.opus_head.specs.declared.table.Table.{Table}
use Rattle.opus_head.specs.declared.table.Table.TheVariants.{None, Map, Matrix}
use Rattle.opus_head.proofs.NoFaultLemmas.{NoFault-none}
use Rattle.opus_head.proofs.SpelledLemmas.{head_in-spelled}
use Rattle.opus_head.proofs.ReadingLemmas.{same_head, spelled-read, spelled-passes}
use Rattle.opus_head.proofs.LongerLemmas.{SameFront, front-of, head_size-same, head_fault-longer}

two-append : (xs more : List ℕ) → 2 ≤ length xs → little_number 2 (xs ++ more) ≡ little_number 2 xs
two-append [] more long = absurd (omega arith)
two-append (a ∷ []) more long = absurd (omega arith)
two-append (a ∷ b ∷ xs) more long = refl

four-append : (xs more : List ℕ) → 4 ≤ length xs → little_number 4 (xs ++ more) ≡ little_number 4 xs
four-append [] more long = absurd (omega arith)
four-append (a ∷ []) more long = absurd (omega arith)
four-append (a ∷ b ∷ []) more long = absurd (omega arith)
four-append (a ∷ b ∷ c ∷ []) more long = absurd (omega arith)
four-append (a ∷ b ∷ c ∷ d ∷ xs) more long = refl

two-same : (n : ℕ) (b more : List ℕ) → n + 2 ≤ length b
    → little_number 2 (drop n (b ++ more)) ≡ little_number 2 (drop n b)
two-same n b more within =
    ap (little_number 2) (drop-append-le n b more (omega arith))
    ∙ two-append (drop n b) more (omega (arith, length-drop n b))

four-same : (n : ℕ) (b more : List ℕ) → n + 4 ≤ length b
    → little_number 4 (drop n (b ++ more)) ≡ little_number 4 (drop n b)
four-same n b more within =
    ap (little_number 4) (drop-append-le n b more (omega arith))
    ∙ four-append (drop n b) more (omega (arith, length-drop n b))

abbrev table_by : ℕ → ℕ → ℕ → List ℕ → Table
table_by family streams coupled mapping =
    if family == 0 then None
    else if family == 3 then Matrix streams coupled mapping else Map streams coupled mapping

mapping-front : (b more : List ℕ) → SameFront b (b ++ more) → 21 ≤ length b → head_size b ≤ length b
    → mapping_in (b ++ more) ≡ mapping_in b
mapping-front b more same long whole =
    ap (λ n. take (n - 21) (drop 21 (b ++ more))) (head_size-same b (b ++ more) same)
    ∙ ap (take (head_size b - 21)) (drop-append-le 21 b more long)
    ∙ take-append-le (head_size b - 21) (drop 21 b) more (omega (arith, length-drop 21 b))

table-front : (b more : List ℕ) → SameFront b (b ++ more) → 21 ≤ length b → head_size b ≤ length b
    → table_in (b ++ more) ≡ table_in b
table-front b more same long whole =
    let c = b ++ more in
    ap (λ n. table_by n (streams_in c) (coupled_in c) (mapping_in c)) same.family
    ∙ ap (λ n. table_by (family_in b) n (coupled_in c) (mapping_in c)) same.streams
    ∙ ap (λ n. table_by (family_in b) (streams_in b) n (mapping_in c)) same.coupled
    ∙ ap (table_by (family_in b) (streams_in b) (coupled_in b)) (mapping-front b more same long whole)

pub head-longer : (h : HeadValue) (b more : List ℕ) → AreBytes b → 115792 ≤ length b → IsOpusHead h (b ++ more)
    → (extra : List ℕ) × IsOpusHead (record h { extra = extra }) b
head-longer h b more are long is =
    let same = front-of b more are long in
    let none = sym (head_fault-longer b more are long) ∙ spelled-passes h (b ++ more) is in
    let passes = NoFault-none b none in
    let e = sym (spelled-read h (b ++ more) is) in
    let extra = drop (head_size b) b in
    let cut : head_in b ≡ record h { extra = extra } =
    same_head (head_in b) (record h { extra = extra })
    (sym same.version ∙ sym (ap (λ g. g.version) e)) (sym same.channels ∙ sym (ap (λ g. g.channels) e))
    (sym (two-same 10 b more (omega arith)) ∙ sym (ap (λ g. g.pre_skip) e))
    (sym (four-same 12 b more (omega arith)) ∙ sym (ap (λ g. g.rate) e))
    (sym (ap (cast_signed w16) (two-same 16 b more (omega arith))) ∙ sym (ap (λ g. g.gain) e))
    (sym same.family ∙ sym (ap (λ g. g.family) e))
    (sym (table-front b more same (omega arith) passes.whole) ∙ sym (ap (λ g. g.table) e))
    refl in
    (extra, subst (λ g. IsOpusHead g b) cut (head_in-spelled b passes are))
