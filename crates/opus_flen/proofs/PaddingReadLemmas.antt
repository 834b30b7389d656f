-- What each answer of reading a padding length says; what is spelled is read, and what is read is spelled so.
use Rattle.std.proofs.Common.{◌≡◌, ℕ, ◌+◌, ◌-◌, ◌*◌, ◌/◌, ◌%◌, ◌<◌, ◌≤◌, List, [], ◌∷◌, ◌++◌, length, get_or, take, drop, replicate, refl, sym, ap, ◌∙◌, subst, ⊎_elim, length-append, take-append-drop, arith}
use Rattle.std.proofs.lemmas.Bool.{cases_lt, cases_eq}
use Rattle.std.proofs.lemmas.List.{length-replicate, length-take-le, take_more, get_or_at}
use Rattle.opus_flen.specs.PaddingLength.{padding_limit, SpellsPadding, padding_bytes, full_bytes, most_full, ReadsPadding, padding_read}
use Rattle.opus_flen.specs.declared.padding_length.PadRead.{PadRead}
use Rattle.opus_flen.specs.declared.padding_length.PadRead.TheVariants.{Pad, Cut, Limit}
use Rattle.opus_flen.proofs.PaddingLemmas.{most_full-is, full_bytes-le, full_bytes-spelled, full_bytes-next, take-full_bytes, full_bytes-ended, padding_bytes-parts, length-padding_bytes, padding_bytes-front, SpellsPadding-is, SpellsPadding-from, padding_read-limit, padding_read-pad, padding_read-cut}

-- what each answer says of the bytes 255 at the front
pub record IsPad (bs : List ℕ) (total used : ℕ) : Type 0 where
  pub within : full_bytes bs ≤ most_full
  pub ended : full_bytes bs < length bs
  pub total_is : total ≡ 255 * full_bytes bs + get_or bs (full_bytes bs) 0 + 1
  pub used_is : used ≡ full_bytes bs + 1

pub record IsCut (bs : List ℕ) : Type 0 where
  pub all : full_bytes bs ≡ length bs
  pub within : length bs ≤ most_full

pub record IsLimit (bs : List ℕ) (place : ℕ) : Type 0 where
  pub over : most_full < full_bytes bs
  pub place_is : place ≡ most_full

abbrev pub Says : List ℕ → PadRead → Type 0
Says bs (Pad total used) = IsPad bs total used
Says bs Cut = IsCut bs
Says bs (Limit place) = IsLimit bs place

says_within : (bs : List ℕ) → full_bytes bs ≤ most_full → Says bs (padding_read bs)
says_within bs within =
    ⊎_elim
    (λ p. rw (padding_read-pad bs within p)
    (record { within = within; ended = p; total_is = refl; used_is = refl }))
    (λ p. rw (padding_read-cut bs within p)
    (let front = full_bytes-le bs in record { all = omega arith; within = omega arith }))
    (cases_lt (full_bytes bs) (length bs))

pub padding_read-says : (bs : List ℕ) (r : PadRead) → padding_read bs ≡ r → Says bs r
padding_read-says bs r read =
    subst (Says bs) read
    (⊎_elim
    (λ p. rw (padding_read-limit bs p) (record { over = p; place_is = refl }))
    (λ p. says_within bs p) (cases_lt most_full (full_bytes bs)))

pub padding_read-from_pad : (bs : List ℕ) (total used : ℕ) → IsPad bs total used
    → padding_read bs ≡ Pad total used
padding_read-from_pad bs total used pad =
    let read = padding_read-pad bs pad.within pad.ended in
    let total_is = pad.total_is in
    let used_is = pad.used_is in
    cc

pub padding_read-from_cut : (bs : List ℕ) → IsCut bs → padding_read bs ≡ Cut
padding_read-from_cut bs cut =
    padding_read-cut bs (omega (arith, cut.all, cut.within)) (omega (arith, cut.all))

pub padding_read-from_limit : (bs : List ℕ) (place : ℕ) → IsLimit bs place
    → padding_read bs ≡ Limit place
padding_read-from_limit bs place limit =
    padding_read-limit bs limit.over ∙ ap (λ n. Limit n) (sym limit.place_is)

spelled_pad : (k last : ℕ) (rest bs : List ℕ) → k ≤ most_full → last < 255
    → bs ≡ replicate k 255 ++ last ∷ rest → IsPad bs (255 * k + last + 1) (k + 1)
spelled_pad k last rest bs within below e =
    let front : full_bytes bs ≡ k = ap full_bytes e ∙ full_bytes-spelled k last rest below in
    let next : get_or bs k 0 ≡ last =
    ap (λ l. get_or l k 0) e
    ∙ get_or_at (replicate k 255) last rest 0 k (length-replicate k 255) in
    let size : length bs ≡ k + length (last ∷ rest) =
    ap length e ∙ length-append (replicate k 255) (last ∷ rest)
    ∙ ap (λ n. n + length (last ∷ rest)) (length-replicate k 255) in
    record {
      within = omega arith;
      ended = omega arith;
      total_is = ap (λ n. 255 * k + n + 1) (sym next)
          ∙ ap (λ n. 255 * n + get_or bs n 0 + 1) (sym front);
      used_is = omega arith;
    }

-- what a total spells is read
pub padding_read-spelled : (total : ℕ) (rest : List ℕ) → 1 ≤ total → total < padding_limit
    → padding_read (padding_bytes total ++ rest) ≡ Pad total (length (padding_bytes total))
padding_read-spelled total rest above below =
    let limit = most_full-is in
    let k = (total - 1) / 255 in
    let last = (total - 1) % 255 in
    let whole : 255 * k + last + 1 ≡ total = omega arith in
    padding_read-from_pad (padding_bytes total ++ rest) (255 * k + last + 1) (k + 1)
    (spelled_pad k last rest (padding_bytes total ++ rest) (omega arith) (omega arith)
    (padding_bytes-front total rest))
    ∙ ap (λ n. Pad n (k + 1)) whole
    ∙ ap (λ n. Pad total n) (sym (length-padding_bytes total))

-- what a padding length that was read says of the bytes
pub record BeginsWithPadding (bs : List ℕ) (total used : ℕ) : Type 0 where
  pub above : 1 ≤ total
  pub below : total < padding_limit
  pub within : used ≤ length bs
  pub counted : used ≡ length (padding_bytes total)
  pub spelled : take used bs ≡ padding_bytes total

sound_pad : (bs : List ℕ) (total used last : ℕ) → last < 255 → last ≡ get_or bs (full_bytes bs) 0
    → IsPad bs total used → BeginsWithPadding bs total used
sound_pad bs total used last below next pad =
    let limit = most_full-is in
    let within = pad.within in
    let ended = pad.ended in
    let k = full_bytes bs in
    let total_is : total ≡ 255 * k + last + 1 =
    pad.total_is ∙ ap (λ n. 255 * k + n + 1) (sym next) in
    let used_is : used ≡ k + 1 = pad.used_is in
    let size = length-padding_bytes total in
    let front : take k bs ≡ replicate k 255 = take-full_bytes k bs (omega arith) in
    let spelled : take used bs ≡ replicate k 255 ++ last ∷ [] =
    ap (λ n. take n bs) used_is ∙ take_more bs k 0 ended
    ∙ ap (λ l. l ++ get_or bs k 0 ∷ []) front
    ∙ ap (λ n. replicate k 255 ++ n ∷ []) (sym next) in
    record {
      above = omega arith;
      below = omega arith;
      within = omega arith;
      counted = omega arith;
      spelled = spelled ∙ sym (ap padding_bytes total_is ∙ padding_bytes-parts k last below);
    }

-- a padding length that was read stands at the front, as its one spelling
pub padding_read-sound : (bs : List ℕ) (total used : ℕ) → ((i : ℕ) → get_or bs i 0 < 256)
    → padding_read bs ≡ Pad total used → BeginsWithPadding bs total used
padding_read-sound bs total used bytes read =
    let pad : IsPad bs total used = padding_read-says bs (Pad total used) read in
    let fits : get_or bs (full_bytes bs) 0 < 256 = bytes (full_bytes bs) in
    let other = full_bytes-next bs pad.ended in
    let below : get_or bs (full_bytes bs) 0 < 255 =
    ⊎_elim (λ p. absurd (other p)) (λ p. omega arith)
    (cases_eq (get_or bs (full_bytes bs) 0) 255) in
    sound_pad bs total used (get_or bs (full_bytes bs) 0) below refl pad

-- the last length byte at a place
pub padding_read-at_last : (bs : List ℕ) (place last : ℕ) → place ≤ full_bytes bs
    → place ≤ most_full → place < length bs → get_or bs place 0 ≡ last → last < 255
    → padding_read bs ≡ Pad (255 * place + last + 1) (place + 1)
padding_read-at_last bs place last front within inside next below =
    let same : full_bytes bs ≡ place = full_bytes-ended place bs front (omega arith) in
    padding_read-from_pad bs (255 * place + last + 1) (place + 1)
    (record {
      within = omega arith;
      ended = omega arith;
      total_is = ap (λ n. 255 * place + n + 1) (sym next)
          ∙ ap (λ n. 255 * n + get_or bs n 0 + 1) (sym same);
      used_is = omega arith;
    })

-- what is read is what the bytes begin with
pub padding_read-reads : (bs : List ℕ) (r : PadRead) → ((i : ℕ) → get_or bs i 0 < 256)
    → padding_read bs ≡ r → ReadsPadding bs r
padding_read-reads bs (Pad total used) bytes read =
    let found = padding_read-sound bs total used bytes read in
    (SpellsPadding-from total (take used bs) found.above found.below found.spelled, found.within)
padding_read-reads bs Cut bytes read =
    let cut : IsCut bs = padding_read-says bs Cut read in (cut.all, cut.within)
padding_read-reads bs (Limit place) bytes read =
    let limit : IsLimit bs place = padding_read-says bs (Limit place) read in
    (limit.over, limit.place_is)

-- where the bytes begin with a padding length, it is read
pub padding_read-found : (bs : List ℕ) (total used : ℕ) → SpellsPadding total (take used bs)
    → used ≤ length bs → padding_read bs ≡ Pad total used
padding_read-found bs total used (full, last, parts) within =
    let below = parts.below in
    let total_is = parts.total_is in
    let fits = parts.fits in
    let is : take used bs ≡ padding_bytes total = SpellsPadding-is total (take used bs) (full, last, parts) in
    let split : bs ≡ padding_bytes total ++ drop used bs =
    sym (take-append-drop used bs) ∙ ap (λ l. l ++ drop used bs) is in
    let counted : length (padding_bytes total) ≡ used =
    ap length (sym is) ∙ length-take-le used bs within in
    ap padding_read split ∙ padding_read-spelled total (drop used bs) (omega arith) fits
    ∙ ap (λ n. Pad total n) counted
