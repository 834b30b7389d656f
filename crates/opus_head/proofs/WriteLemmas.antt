-- The bytes of a head that are appended one part after another.
use Rattle.std.proofs.Common.{◌≡◌, List, ℕ, [], ◌∷◌, ◌++◌, append_assoc, ap, ◌∙◌}
use Rattle.opus_head.specs.HeadValue.{HeadValue}
use Rattle.opus_head.specs.HeadBytes.{magic, number_bytes, table_bytes, head_bytes}

regroup : (o m v c n f t x : List ℕ)
    → ((((((o ++ m) ++ v) ++ c) ++ n) ++ f) ++ t) ++ x ≡ o ++ (((m ++ (v ++ (c ++ (n ++ f)))) ++ t) ++ x)
regroup o m v c n f t x = simp append_assoc

-- a vector after each part
pub record Appended (h : HeadValue) (old : List ℕ) (x m v c n f t e : List ℕ) : Type 0 where
  pub reserved : x ≡ old
  pub begun : m ≡ x ++ magic
  pub version : v ≡ m ++ h.version ∷ []
  pub channels : c ≡ v ++ h.channels ∷ []
  pub numbers : n ≡ c ++ number_bytes h
  pub family : f ≡ n ++ h.family ∷ []
  pub table : t ≡ f ++ table_bytes h.table
  pub extra : e ≡ t ++ h.extra

pub head-written : (h : HeadValue) (old x m v c n f t e : List ℕ) → Appended h old x m v c n f t e
    → e ≡ old ++ head_bytes h
head-written h old x m v c n f t e is =
    let begun = is.begun ∙ ap (λ l. l ++ magic) is.reserved in
    let version = is.version ∙ ap (λ l. l ++ h.version ∷ []) begun in
    let channels = is.channels ∙ ap (λ l. l ++ h.channels ∷ []) version in
    let numbers = is.numbers ∙ ap (λ l. l ++ number_bytes h) channels in
    let family = is.family ∙ ap (λ l. l ++ h.family ∷ []) numbers in
    let table = is.table ∙ ap (λ l. l ++ table_bytes h.table) family in
    is.extra ∙ ap (λ l. l ++ h.extra) table
    ∙ regroup old magic (h.version ∷ []) (h.channels ∷ []) (number_bytes h) (h.family ∷ []) (table_bytes h.table) h.extra
