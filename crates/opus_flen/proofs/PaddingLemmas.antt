-- Lemmas on padding lengths: the bytes 255 at the front, the spelling of a total, and the cases of reading one.
use Rattle.std.proofs.Common.{◌≡◌, ℕ, zero, suc, ◌+◌, ◌-◌, ◌*◌, ◌/◌, ◌%◌, ◌<◌, ◌≤◌, min, List, [], ◌∷◌, ◌++◌, length, get_or, take, replicate, refl, sym, ap, ◌∙◌, ⊎_elim, append_assoc, length-append, lt-ltb, le-ltb, eq-eqb, ne_eqb, arith}
use Rattle.std.proofs.lemmas.Bool.{cases_lt, cases_eq}
use Rattle.std.proofs.lemmas.List.{length-replicate, get_or-take, get_or-replicate}
use Rattle.opus_flen.specs.PaddingLength.{padding_limit, SpellsPadding, padding_bytes, full_bytes, most_full, padding_read}
use Rattle.opus_flen.specs.declared.padding_length.PadRead.TheVariants.{Pad, Cut, Limit}

pub most_full-is : most_full ≡ 65792
unfolding most_full
most_full-is = refl

-- the bytes 255 at the front

pub full_bytes-other : (byte : ℕ) (bs : List ℕ) → (byte ≡ 255 → ⊥) → full_bytes (byte ∷ bs) ≡ 0
full_bytes-other byte bs other = rw (ne_eqb byte 255 other)

pub full_bytes-full : (byte : ℕ) (bs : List ℕ) → byte ≡ 255
    → full_bytes (byte ∷ bs) ≡ full_bytes bs + 1
full_bytes-full byte bs full = rw (eq-eqb byte 255 full)

pub full_bytes-le : (bs : List ℕ) → full_bytes bs ≤ length bs
full_bytes-le [] = omega arith
full_bytes-le (byte ∷ bs) =
    ⊎_elim
    (λ p. let rest = full_bytes-le bs in rw (full_bytes-full byte bs p) (omega arith))
    (λ p. rw (full_bytes-other byte bs p) (omega arith)) (cases_eq byte 255)

pub full_bytes-spelled : (k last : ℕ) (rest : List ℕ) → last < 255
    → full_bytes (replicate k 255 ++ last ∷ rest) ≡ k
full_bytes-spelled zero last rest below = full_bytes-other last rest (λ e. omega arith)
full_bytes-spelled (suc k) last rest below =
    full_bytes-full 255 (replicate k 255 ++ last ∷ rest) refl
    ∙ (let front = full_bytes-spelled k last rest below in omega arith)

pub full_bytes-replicate : (k : ℕ) → full_bytes (replicate k 255) ≡ k
full_bytes-replicate zero = refl
full_bytes-replicate (suc k) =
    full_bytes-full 255 (replicate k 255) refl
    ∙ (let front = full_bytes-replicate k in omega arith)

-- after the bytes 255 another byte stands, or none
pub full_bytes-next : (bs : List ℕ) → full_bytes bs < length bs
    → get_or bs (full_bytes bs) 0 ≡ 255 → ⊥
full_bytes-next [] within full = absurd (omega arith)
full_bytes-next (byte ∷ bs) within full =
    ⊎_elim
    (λ p. let front : full_bytes (byte ∷ bs) ≡ suc (full_bytes bs) =
    full_bytes-full byte bs p ∙ omega arith in
    full_bytes-next bs (omega arith) (ap (λ n. get_or (byte ∷ bs) n 0) (sym front) ∙ full))
    (λ p. p (ap (λ n. get_or (byte ∷ bs) n 0) (sym (full_bytes-other byte bs p)) ∙ full))
    (cases_eq byte 255)

pub take-full_bytes : (k : ℕ) (bs : List ℕ) → k ≤ full_bytes bs → take k bs ≡ replicate k 255
take-full_bytes zero bs within = refl
take-full_bytes (suc k) [] within = absurd (omega arith)
take-full_bytes (suc k) (byte ∷ bs) within =
    ⊎_elim
    (λ p. let front = full_bytes-full byte bs p in
    let tail = take-full_bytes k bs (omega arith) in
    cc)
    (λ p. let none = full_bytes-other byte bs p in absurd (omega arith))
    (cases_eq byte 255)

pub full_bytes-take : (k : ℕ) (bs : List ℕ) → full_bytes (take k bs) ≡ min k (full_bytes bs)
full_bytes-take zero bs = omega arith
full_bytes-take (suc k) [] = omega arith
full_bytes-take (suc k) (byte ∷ bs) =
    ⊎_elim
    (λ p. let rest = full_bytes-take k bs in
    rw (full_bytes-full byte (take k bs) p, full_bytes-full byte bs p) (omega arith))
    (λ p. rw (full_bytes-other byte (take k bs) p, full_bytes-other byte bs p) (omega arith))
    (cases_eq byte 255)

pub full_bytes-append_ended : (bs more : List ℕ) → full_bytes bs < length bs
    → full_bytes (bs ++ more) ≡ full_bytes bs
full_bytes-append_ended [] more within = absurd (omega arith)
full_bytes-append_ended (byte ∷ bs) more within =
    ⊎_elim
    (λ p. let front = full_bytes-full byte bs p in
    let rest = full_bytes-append_ended bs more (omega arith) in
    full_bytes-full byte (bs ++ more) p ∙ (omega arith))
    (λ p. full_bytes-other byte (bs ++ more) p ∙ sym (full_bytes-other byte bs p))
    (cases_eq byte 255)

pub full_bytes-append_all : (bs more : List ℕ) → full_bytes bs ≡ length bs
    → full_bytes (bs ++ more) ≡ length bs + full_bytes more
full_bytes-append_all [] more all = omega arith
full_bytes-append_all (byte ∷ bs) more all =
    ⊎_elim
    (λ p. let front = full_bytes-full byte bs p in
    let rest = full_bytes-append_all bs more (omega arith) in
    full_bytes-full byte (bs ++ more) p ∙ (omega arith))
    (λ p. let none = full_bytes-other byte bs p in absurd (omega arith))
    (cases_eq byte 255)

-- bytes after some bytes keep those 255 that stand first
pub full_bytes-append-le : (bs more : List ℕ) → full_bytes bs ≤ full_bytes (bs ++ more)
full_bytes-append-le bs more =
    let within = full_bytes-le bs in
    ⊎_elim (λ p. let same = full_bytes-append_ended bs more p in omega arith)
    (λ p. let same = full_bytes-append_all bs more (omega arith) in omega arith)
    (cases_lt (full_bytes bs) (length bs))

-- reading byte by byte

pub get_or-full_bytes : (k : ℕ) (bs : List ℕ) → k < full_bytes bs → get_or bs k 0 ≡ 255
get_or-full_bytes k bs within =
    let front = take-full_bytes (full_bytes bs) bs (omega arith) in
    sym (get_or-take (full_bytes bs) bs k 0 within)
    ∙ ap (λ l. get_or l k 0) front
    ∙ get_or-replicate (full_bytes bs) k 255 0 within

-- where the bytes before a place are 255 and the one at it isn't, so many stand first
pub full_bytes-ended : (k : ℕ) (bs : List ℕ) → k ≤ full_bytes bs → get_or bs k 0 < 255
    → full_bytes bs ≡ k
full_bytes-ended k bs within below =
    ⊎_elim (λ p. let full = get_or-full_bytes k bs p in absurd (omega arith)) (λ p. omega arith)
    (cases_lt k (full_bytes bs))

-- one byte 255 more
pub full_bytes-step : (k : ℕ) (bs : List ℕ) → k ≤ full_bytes bs → k < length bs
    → get_or bs k 0 ≡ 255 → k + 1 ≤ full_bytes bs
full_bytes-step k bs within place full =
    ⊎_elim (λ p. omega arith)
    (λ p. let same : full_bytes bs ≡ k = omega arith in
    absurd (full_bytes-next bs (omega arith) (ap (λ n. get_or bs n 0) same ∙ full)))
    (cases_lt k (full_bytes bs))

-- the spelling of a total

pub padding_bytes-parts : (k last : ℕ) → last < 255
    → padding_bytes (255 * k + last + 1) ≡ replicate k 255 ++ last ∷ []
padding_bytes-parts k last below =
    let quotient : (255 * k + last + 1 - 1) / 255 ≡ k = omega arith in
    let remainder : (255 * k + last + 1 - 1) % 255 ≡ last = omega arith in
    rw (quotient, remainder)

pub length-padding_bytes : (total : ℕ) → length (padding_bytes total) ≡ (total - 1) / 255 + 1
length-padding_bytes total =
    length-append (replicate ((total - 1) / 255) 255) ((total - 1) % 255 ∷ [])
    ∙ ap (λ n. n + 1) (length-replicate ((total - 1) / 255) 255)

-- a total counts its own length bytes too
pub length-padding_bytes-le : (total : ℕ) → 1 ≤ total → length (padding_bytes total) ≤ total
length-padding_bytes-le total above = let size = length-padding_bytes total in omega arith

pub padding_bytes-front : (total : ℕ) (rest : List ℕ)
    → padding_bytes total ++ rest
    ≡ replicate ((total - 1) / 255) 255 ++ (total - 1) % 255 ∷ rest
padding_bytes-front total rest =
    append_assoc (replicate ((total - 1) / 255) 255) ((total - 1) % 255 ∷ []) rest

-- a total has one spelling
pub SpellsPadding-is : (total : ℕ) (l : List ℕ) → SpellsPadding total l → l ≡ padding_bytes total
SpellsPadding-is total l (full, last, parts) =
    let below : last < 255 = (let b = parts.below in omega arith) in
    parts.bytes_are ∙ sym (ap padding_bytes parts.total_is ∙ padding_bytes-parts full last below)

pub SpellsPadding-from : (total : ℕ) (l : List ℕ) → 1 ≤ total → total < padding_limit
    → l ≡ padding_bytes total → SpellsPadding total l
SpellsPadding-from total l above below e = (
  (total - 1) / 255,
  (total - 1) % 255,
  record { fits = below; below = omega arith; total_is = omega arith; bytes_are = e },
)

-- what is read

pub padding_read-limit : (bs : List ℕ) → most_full < full_bytes bs
    → padding_read bs ≡ Limit most_full
padding_read-limit bs over = rw (lt-ltb most_full (full_bytes bs) over)

pub padding_read-pad : (bs : List ℕ) → full_bytes bs ≤ most_full → full_bytes bs < length bs
    → padding_read bs
    ≡ Pad (255 * full_bytes bs + get_or bs (full_bytes bs) 0 + 1) (full_bytes bs + 1)
padding_read-pad bs within ended =
    rw (le-ltb most_full (full_bytes bs) within, lt-ltb (full_bytes bs) (length bs) ended)

pub padding_read-cut : (bs : List ℕ) → full_bytes bs ≤ most_full → length bs ≤ full_bytes bs
    → padding_read bs ≡ Cut
padding_read-cut bs within all =
    rw (le-ltb most_full (full_bytes bs) within, le-ltb (full_bytes bs) (length bs) all)
