-- Lemmas on frame lengths: their spelling, and what the front of some bytes says.
use Rattle.std.proofs.Common.{◌≡◌, ℕ, ◌+◌, ◌-◌, ◌*◌, ◌/◌, ◌%◌, ◌<◌, ◌≤◌, ◌⊎◌, List, [], ◌∷◌, ◌++◌, length, get_or, drop, refl, sym, ap, ◌∙◌, subst, ⊎_elim, take-append-drop, lt-ltb, le-ltb, arith}
use Rattle.std.proofs.lemmas.Bool.{cases_lt}
use Rattle.opus_flen.specs.FrameLength.{length_bytes, BeginsWithLength, length_read}
use Rattle.opus_flen.specs.declared.frame_length.LenRead.{LenRead}
use Rattle.opus_flen.specs.declared.frame_length.LenRead.TheVariants.{Len, Cut}

pub length_bytes-short : (n : ℕ) → n < 252 → length_bytes n ≡ n ∷ []
length_bytes-short n below = rw (lt-ltb n 252 below)

pub length_bytes-long : (n : ℕ) → 252 ≤ n
    → length_bytes n ≡ (252 + n % 4) ∷ ((n - (252 + n % 4)) / 4) ∷ []
length_bytes-long n above = rw (le-ltb n 252 above)

pub length_read-short : (first : ℕ) (bs : List ℕ) → first < 252
    → length_read (first ∷ bs) ≡ Len first 1
length_read-short first [] below = rw (lt-ltb first 252 below)
length_read-short first (second ∷ bs) below = rw (lt-ltb first 252 below)

pub length_read-long : (first second : ℕ) (bs : List ℕ) → 252 ≤ first
    → length_read (first ∷ second ∷ bs) ≡ Len (4 * second + first) 2
length_read-long first second bs above = rw (le-ltb first 252 above)

pub length_read-first_alone : (first : ℕ) → 252 ≤ first → length_read (first ∷ []) ≡ Cut
length_read-first_alone first above = rw (le-ltb first 252 above)

both_short : (m n : ℕ) (xs ys : List ℕ) → m < 252 → n < 252
    → length_bytes m ++ xs ≡ length_bytes n ++ ys → (m ≡ n) × (xs ≡ ys)
both_short m n xs ys p q e =
    let same = rw (length_bytes-short m p, length_bytes-short n q) at e in (cc, cc)

short_long : (m n : ℕ) (xs ys : List ℕ) → m < 252 → 252 ≤ n
    → length_bytes m ++ xs ≡ length_bytes n ++ ys → ⊥
short_long m n xs ys p q e =
    let same = rw (length_bytes-short m p, length_bytes-long n q) at e in
    let heads : m ≡ 252 + n % 4 = cc in
    omega arith

both_long : (m n : ℕ) (xs ys : List ℕ) → 252 ≤ m → 252 ≤ n
    → length_bytes m ++ xs ≡ length_bytes n ++ ys → (m ≡ n) × (xs ≡ ys)
both_long m n xs ys p q e =
    let same = rw (length_bytes-long m p, length_bytes-long n q) at e in
    let firsts : 252 + m % 4 ≡ 252 + n % 4 = cc in
    let seconds : (m - (252 + m % 4)) / 4 ≡ (n - (252 + n % 4)) / 4 = cc in
    (omega arith, cc)

-- two lengths that begin the same bytes are one
pub length_bytes-unique : (m n : ℕ) (xs ys : List ℕ)
    → length_bytes m ++ xs ≡ length_bytes n ++ ys → (m ≡ n) × (xs ≡ ys)
length_bytes-unique m n xs ys e =
    ⊎_elim
    (λ p. ⊎_elim (λ q. both_short m n xs ys p q e)
    (λ q. absurd (short_long m n xs ys p q e)) (cases_lt n 252))
    (λ p. ⊎_elim (λ q. absurd (short_long n m ys xs q p (sym e)))
    (λ q. both_long m n xs ys p q e) (cases_lt n 252))
    (cases_lt m 252)

-- the spelling of a length has one or two bytes
pub length-length_bytes : (n : ℕ) → (0 < length (length_bytes n)) × (length (length_bytes n) ≤ 2)
length-length_bytes n =
    ⊎_elim (λ p. rw (length_bytes-short n p) (omega arith, omega arith))
    (λ p. rw (length_bytes-long n p) (omega arith, omega arith)) (cases_lt n 252)

spelled_long : (n : ℕ) (rest : List ℕ) → 252 ≤ n
    → length_read (length_bytes n ++ rest) ≡ Len n (length (length_bytes n))
spelled_long n rest above =
    let whole : 4 * ((n - (252 + n % 4)) / 4) + (252 + n % 4) ≡ n = omega arith in
    rw (length_bytes-long n above)
    (length_read-long (252 + n % 4) ((n - (252 + n % 4)) / 4) rest (omega arith)
    ∙ ap (λ m. Len m 2) whole)

-- what a length spells is read
pub length_read-spelled : (n : ℕ) (rest : List ℕ)
    → length_read (length_bytes n ++ rest) ≡ Len n (length (length_bytes n))
length_read-spelled n rest =
    ⊎_elim (λ p. rw (length_bytes-short n p) (length_read-short n rest p))
    (λ p. spelled_long n rest p) (cases_lt n 252)

-- what a whole length that was read says of the bytes
abbrev IsSound : List ℕ → LenRead → Type 0
IsSound bs (Len n u) = BeginsWithLength bs n u × (u ≤ length bs) × (0 < u)
IsSound bs Cut = Unit {0}

sound_short : (first : ℕ) (bs : List ℕ) → first < 252 → IsSound (first ∷ bs) (Len first 1)
sound_short first bs below = (
  record {
    fits = omega arith;
    counted = rw (length_bytes-short first below);
    spelled = rw (length_bytes-short first below);
  },
  omega arith,
  omega arith,
)

sound_long : (first second : ℕ) (bs : List ℕ) → 252 ≤ first → first < 256 → second < 256
    → IsSound (first ∷ second ∷ bs) (Len (4 * second + first) 2)
sound_long first second bs above below fits =
    let n = 4 * second + first in
    let heads : 252 + n % 4 ≡ first = omega arith in
    let seconds : (n - first) / 4 ≡ second = omega arith in
    let long : 252 ≤ n = omega arith in (
      record {
        fits = omega arith;
        counted = rw (length_bytes-long n long);
        spelled = rw (length_bytes-long n long, heads, seconds);
      },
      omega arith,
      omega arith,
    )

sound : (bs : List ℕ) → ((i : ℕ) → get_or bs i 0 < 256) → IsSound bs (length_read bs)
sound [] bytes = tt
sound (first ∷ []) bytes =
    ⊎_elim (λ p. rw (length_read-short first [] p) (sound_short first [] p))
    (λ p. rw (length_read-first_alone first p) tt) (cases_lt first 252)
sound (first ∷ second ∷ bs) bytes =
    ⊎_elim (λ p. rw (length_read-short first (second ∷ bs) p) (sound_short first (second ∷ bs) p))
    (λ p. rw (length_read-long first second bs p)
    (sound_long first second bs p (bytes 0) (bytes 1))) (cases_lt first 252)

-- a length that was read stands at the front, as its one spelling
pub length_read-sound : (bs : List ℕ) (n u : ℕ) → ((i : ℕ) → get_or bs i 0 < 256)
    → length_read bs ≡ Len n u → BeginsWithLength bs n u × (u ≤ length bs) × (0 < u)
length_read-sound bs n u bytes read = subst (IsSound bs) read (sound bs bytes)

-- a length that was read, and the bytes after it
pub length_read-split : (bs : List ℕ) (n u : ℕ) → ((i : ℕ) → get_or bs i 0 < 256)
    → length_read bs ≡ Len n u → bs ≡ length_bytes n ++ drop u bs
length_read-split bs n u bytes read =
    let found = length_read-sound bs n u bytes read in
    sym (rw (← found.0.spelled) (take-append-drop u bs))

-- one byte 0 more completes a cut length
pub length_read-completed : (bs : List ℕ) → ((i : ℕ) → get_or bs i 0 < 256) → length_read bs ≡ Cut
    → (n : ℕ) × (n ≤ 1275) × (length_read (bs ++ 0 ∷ []) ≡ Len n (length bs + 1))
length_read-completed [] bytes read = (0, omega arith, refl)
length_read-completed (first ∷ []) bytes read =
    let below : first < 256 = bytes 0 in
    ⊎_elim (λ p. let short = length_read-short first [] p in cc)
    (λ p. (4 * 0 + first, omega arith, length_read-long first 0 [] p)) (cases_lt first 252)
length_read-completed (first ∷ second ∷ bs) bytes read =
    ⊎_elim (λ p. let short = length_read-short first (second ∷ bs) p in cc)
    (λ p. let long = length_read-long first second bs p in cc) (cases_lt first 252)

-- where the bytes begin with a length, it is read
pub length_read-found : (bs : List ℕ) (n u : ℕ) → BeginsWithLength bs n u → length_read bs ≡ Len n u
length_read-found bs n u begins =
    let split : bs ≡ length_bytes n ++ drop u bs = rw (← begins.spelled) (sym (take-append-drop u bs)) in
    ap length_read split ∙ length_read-spelled n (drop u bs)
    ∙ ap (λ v. Len n v) (sym begins.counted)
