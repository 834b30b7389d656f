-- Padding lengths with more bytes behind them, completed by a byte 0, and cut before their end.
use Rattle.std.proofs.Common.{◌≡◌, ℕ, ◌+◌, ◌*◌, ◌<◌, ◌≤◌, min, List, [], ◌∷◌, ◌++◌, length, get_or, take, drop, refl, sym, ap, ◌∙◌, length-append, length-take, take-append-drop, arith}
use Rattle.std.proofs.lemmas.List.{get_or_at}
use Rattle.opus_flen.specs.PaddingLength.{padding_bytes, full_bytes, most_full, padding_read}
use Rattle.opus_flen.specs.declared.padding_length.PadRead.TheVariants.{Pad, Cut, Limit}
use Rattle.opus_flen.proofs.PaddingLemmas.{full_bytes-le, full_bytes-take, full_bytes-append_all, full_bytes-append-le}
use Rattle.opus_flen.proofs.PaddingReadLemmas.{IsCut, IsLimit, padding_read-says, padding_read-from_pad, padding_read-from_cut, padding_read-from_limit, padding_read-sound}

-- the bytes that follow a padding length
pub padding_read-split : (bs : List ℕ) (total used : ℕ) → ((i : ℕ) → get_or bs i 0 < 256)
    → padding_read bs ≡ Pad total used → bs ≡ padding_bytes total ++ drop used bs
padding_read-split bs total used bytes read =
    let found = padding_read-sound bs total used bytes read in
    sym (rw (← found.spelled) (take-append-drop used bs))

-- bytes after too many bytes 255 change nothing
pub padding_read-limit_more : (bs : List ℕ) (place : ℕ) → padding_read bs ≡ Limit place
    → (more : List ℕ) → padding_read (bs ++ more) ≡ Limit place
padding_read-limit_more bs place read more =
    let limit : IsLimit bs place = padding_read-says bs (Limit place) read in
    let over = limit.over in
    let front = full_bytes-append-le bs more in
    padding_read-from_limit (bs ++ more) place
    (record { over = omega arith; place_is = limit.place_is })

-- one byte 0 more completes a cut padding length
pub padding_read-completed : (bs : List ℕ) → padding_read bs ≡ Cut
    → padding_read (bs ++ 0 ∷ []) ≡ Pad (255 * length bs + 1) (length bs + 1)
padding_read-completed bs read =
    let cut : IsCut bs = padding_read-says bs Cut read in
    let all = cut.all in
    let within = cut.within in
    let none : full_bytes (0 ∷ []) ≡ 0 = refl in
    let front : full_bytes (bs ++ 0 ∷ []) ≡ length bs = full_bytes-append_all bs (0 ∷ []) all ∙ omega arith in
    let size = length-append bs (0 ∷ []) in
    let next : get_or (bs ++ 0 ∷ []) (length bs) 0 ≡ 0 = get_or_at bs 0 [] 0 (length bs) refl in
    padding_read-from_pad (bs ++ 0 ∷ []) (255 * length bs + 1) (length bs + 1)
    (record {
      within = omega arith;
      ended = omega arith;
      total_is = (let at_front : get_or (bs ++ 0 ∷ []) (full_bytes (bs ++ 0 ∷ [])) 0 ≡ 0 =
          ap (λ n. get_or (bs ++ 0 ∷ []) n 0) front ∙ next in omega arith);
      used_is = omega arith;
    })

-- fronts

-- a front that ends before the padding length does is a cut one
pub padding_read-front : (bs : List ℕ) (k : ℕ) → k ≤ most_full → k ≤ full_bytes bs
    → padding_read (take k bs) ≡ Cut
padding_read-front bs k within front =
    let least = full_bytes-take k bs in
    let whole = full_bytes-le bs in
    let size : length (take k bs) ≡ min k (length bs) = length-take k bs in
    padding_read-from_cut (take k bs) (record { all = omega arith; within = omega arith })

-- of too many bytes 255 the first ones tell, and one fewer do not
pub padding_read-limit_place : (bs : List ℕ) (place : ℕ) → padding_read bs ≡ Limit place
    → (place ≡ most_full) × (place < length bs) × (padding_read (take (place + 1) bs) ≡ Limit place)
    × (padding_read (take place bs) ≡ Cut)
padding_read-limit_place bs place read =
    let limit : IsLimit bs place = padding_read-says bs (Limit place) read in
    let over = limit.over in
    let place_is = limit.place_is in
    let whole = full_bytes-le bs in
    let least = full_bytes-take (place + 1) bs in (
      place_is,
      omega arith,
      padding_read-from_limit (take (place + 1) bs) place (record { over = omega arith; place_is = place_is }),
      padding_read-front bs place (omega arith) (omega arith),
    )
