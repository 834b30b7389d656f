-- What the bytes of a header say that isn't whole, that is, and that can't be.
use Rattle.std.proofs.Common.{◌≡◌, ℕ, ◌+◌, ◌-◌, ◌*◌, false, List, [], ◌∷◌, ◌++◌, length, replicate, refl, sym, ap, ◌∙◌, arith, append_assoc, length-append, drop_at}
use Rattle.std.specs.List.{flat_map}
use Rattle.std.proofs.lemmas.List.{append-nil, length-replicate}
use Rattle.std.proofs.lemmas.List.Concat.{flat_map-append}
use Rattle.opus_toc.specs.Toc.{code_of}
use Rattle.opus_flen.specs.FrameLength.{length_bytes, length_read}
use Rattle.opus_flen.specs.declared.frame_length.LenRead.TheVariants.{Cut as CutLength}
use Rattle.opus_flen.specs.PaddingLength.{most_full}
use Rattle.opus_flen.proofs.LengthLemmas.{length_read-first_alone}
use Rattle.opus_flen.proofs.PaddingLemmas.{padding_read-cut, padding_read-limit, full_bytes-replicate, full_bytes-append-le}
use Rattle.opus_packet.specs.declared.fault.Rule.TheVariants.{R5, PadLimit}
use Rattle.opus_packet.specs.Header.{given, header_bytes}
use Rattle.opus_packet.specs.HeaderRead.{whole, partial, refused, header_read, header_of, is_count}
use Rattle.opus_packet.specs.PacketPrefix.{AreBytes}
use Rattle.opus_packet.specs.SelfPrefix.{sized, unsized, after_header, self_header_read}
use Rattle.opus_packet.proofs.LengthsReadLemmas.{AreLengths, AreLengths-replicate, length_bytes-zeros}
use Rattle.opus_packet.proofs.WayLemmas.{padding_cut, padding_limit, no_toc, no_count, bad_count, counted, from_way}
use Rattle.opus_packet.proofs.HeaderLemmas.{header_read-spelled}
use Rattle.opus_self.proofs.SelfLemmas.{self_header_read-spelled}
use Rattle.opus_self.proofs.ReadSelf.{reads_last}
use Rattle.opus_feed.specs.Stage.{IsOpen}
use Rattle.opus_packet.specs.Spelled.{lengths_in}
use Rattle.opus_feed.specs.Heads.{IsSound, IsGiving, IsPadded, IsSized, IsLow, spelling, spelled_in, lead, header_in}
use Rattle.opus_feed.specs.declared.framing.Framing.{Framing}
use Rattle.opus_feed.specs.declared.framing.Framing.TheVariants.{Whole, SelfDelimited}
use Rattle.opus_feed.specs.declared.stage.Stage.{Stage}
use Rattle.opus_feed.specs.declared.stage.Stage.TheVariants.{Toc, Count, PadLength, Length, LengthEnd, Last, LastEnd, Ready, BadCount, BadPadding}
use Rattle.opus_feed.specs.declared.head.Head.{Head}
use Rattle.opus_feed.proofs.GivenLemmas.{long_bytes}
use Rattle.opus_feed.proofs.HeadLemmas.{AreLengths-from, head_giving, taken, partial_front}

AreLengths-append : (ms ns : List ℕ) → AreLengths ms → AreLengths ns → AreLengths (ms ++ ns)
AreLengths-append [] ns first second = second
AreLengths-append (m ∷ ms) ns first second = (first.0, AreLengths-append ms ns first.1 second)

-- lengths that are left are zeros
giving_partial : (h : Head) (done : ℕ) → IsGiving done h → AreBytes (lead h ++ spelled_in h)
    → header_read (lead h ++ spelled_in h) ≡ partial
giving_partial h done is are =
    let has = is.lengths in
    let more = is.more in
    let ns = lengths_in done (spelled_in h) in
    let zeros = replicate {A = ℕ} (h.frames - 1 - done) 0 in
    let count = has.spells.counted in
    let left = length-replicate {A = ℕ} (h.frames - 1 - done) 0 in
    let sizes = length-append ns zeros in
    let head = head_giving h is.led is.giving (ns ++ zeros) (omega arith)
    (AreLengths-append ns zeros (AreLengths-from ns has.spells.each)
    (AreLengths-replicate (h.frames - 1 - done) 0 (omega arith))) in
    let behind : flat_map length_bytes (ns ++ zeros) ≡ spelled_in h ++ zeros =
    flat_map-append length_bytes ns zeros
    ∙ ap (λ bs. bs ++ flat_map length_bytes zeros) (sym has.spells.own)
    ∙ ap (λ bs. spelled_in h ++ bs) (length_bytes-zeros (h.frames - 1 - done)) in
    partial_front (lead h ++ spelled_in h) zeros (header_of h.first h.shape (given (ns ++ zeros))) are head.is_header
    (head.spelled ∙ ap (λ bs. lead h ++ bs) behind ∙ sym (append_assoc (lead h) (spelled_in h) zeros))
    (omega arith)

-- and the first of them may have begun
half_partial : (h : Head) (done low : ℕ) → IsGiving done h → IsLow low
    → AreBytes (lead h ++ spelled_in h ++ low ∷ [])
    → header_read (lead h ++ spelled_in h ++ low ∷ []) ≡ partial
half_partial h done low is is_low are =
    let has = is.lengths in
    let more = is.more in
    let ns = lengths_in done (spelled_in h) in
    let left = h.frames - 2 - done in
    let zeros = replicate {A = ℕ} left 0 in
    let all = ns ++ low ∷ zeros in
    let count = has.spells.counted in
    let zeros_are = length-replicate {A = ℕ} left 0 in
    let sizes = length-append ns (low ∷ zeros) in
    let above = is_low.0 in
    let below = is_low.1 in
    let head = head_giving h is.led is.giving all (omega arith)
    (AreLengths-append ns (low ∷ zeros) (AreLengths-from ns has.spells.each)
    (omega arith, AreLengths-replicate left 0 (omega arith))) in
    let alone : low ≡ 4 * 0 + low = omega arith in
    let first : length_bytes low ≡ low ∷ 0 ∷ [] = ap (λ n. length_bytes n) alone ∙ long_bytes low 0 above below in
    let behind : flat_map length_bytes all ≡ spelled_in h ++ low ∷ 0 ∷ zeros =
    flat_map-append length_bytes ns (low ∷ zeros)
    ∙ ap (λ bs. bs ++ (length_bytes low ++ flat_map length_bytes zeros)) (sym has.spells.own)
    ∙ ap (λ bs. spelled_in h ++ (bs ++ flat_map length_bytes zeros)) first
    ∙ ap (λ bs. spelled_in h ++ low ∷ 0 ∷ bs) (length_bytes-zeros left) in
    partial_front (lead h ++ spelled_in h ++ low ∷ []) (0 ∷ zeros) (header_of h.first h.shape (given all)) are head.is_header
    (head.spelled ∙ ap (λ bs. lead h ++ bs) behind ∙ sym (append_assoc (lead h) (spelled_in h) (low ∷ 0 ∷ zeros))
    ∙ sym (append_assoc (lead h ++ spelled_in h) (low ∷ []) (0 ∷ zeros)))
    (omega arith)

padding_partial : (h : Head) (full : ℕ) → IsPadded full h
    → header_read (h.first ∷ h.count ∷ replicate full 255) ≡ partial
padding_partial h full is =
    let most = is.most in
    let counted_are = full_bytes-replicate full in
    let size = length-replicate {A = ℕ} full 255 in
    from_way (counted is.counted.code is.counted.allowed
    (padding_cut is.padded (padding_read-cut (replicate full 255) (omega arith) (omega arith))))

-- bytes that are a part of a header
pub open_partial : (framing : Framing) (stage : Stage) (h : Head) → IsOpen stage → IsSound framing stage h
    → AreBytes (spelling framing stage h)
    → (framing ≡ SelfDelimited → ⊥) → header_read (spelling framing stage h) ≡ partial
open_partial framing Toc h is sound are other = from_way no_toc
open_partial framing Count h is sound are other = from_way (no_count sound.code)
open_partial framing PadLength h is sound are other = padding_partial h h.full sound
open_partial framing Length h is sound are other = giving_partial h h.done sound are
open_partial framing LengthEnd h is sound are other = half_partial h h.done h.low sound.0 sound.1 are
open_partial framing Last h is sound are other = absurd (other sound.1)
open_partial framing LastEnd h is sound are other = absurd (other sound.2)
open_partial framing Ready h is sound are other = absurd is
open_partial framing BadCount h is sound are other = absurd is
open_partial framing BadPadding h is sound are other = absurd is

-- and of one with a last length
unsized_from : (bytes : List ℕ) → header_read bytes ≡ partial → self_header_read bytes ≡ unsized
unsized_from bytes read = ap (after_header bytes) read

last_read : (h : Head) → IsSized h → (low : List ℕ) → length_read low ≡ CutLength
    → self_header_read (lead h ++ spelled_in h ++ low) ≡ unsized
last_read h is low cut =
    let t = taken h is in
    let spelled : lead h ++ spelled_in h ++ low ≡ header_bytes (header_in h) ++ low =
    ap (λ bs. bs ++ low) (sym t.spelled) in
    ap self_header_read spelled
    ∙ reads_last (header_in h) (header_bytes (header_in h) ++ low) (length (header_bytes (header_in h))) CutLength
    (header_read-spelled (header_in h) t.is_header low) refl
    (ap length_read (drop_at (header_bytes (header_in h)) low (length (header_bytes (header_in h))) refl) ∙ cut)

pub open_unsized : (stage : Stage) (h : Head) → IsOpen stage → IsSound SelfDelimited stage h
    → AreBytes (spelling SelfDelimited stage h) → self_header_read (spelling SelfDelimited stage h) ≡ unsized
open_unsized Toc h is sound are = unsized_from [] (from_way no_toc)
open_unsized Count h is sound are = unsized_from (h.first ∷ []) (from_way (no_count sound.code))
open_unsized PadLength h is sound are =
    unsized_from (h.first ∷ h.count ∷ replicate h.full 255) (padding_partial h h.full sound)
open_unsized Length h is sound are = unsized_from (lead h ++ spelled_in h) (giving_partial h h.done sound are)
open_unsized LengthEnd h is sound are =
    unsized_from (lead h ++ spelled_in h ++ h.low ∷ []) (half_partial h h.done h.low sound.0 sound.1 are)
open_unsized Last h is sound are =
    ap self_header_read (sym (append-nil (lead h ++ spelled_in h))) ∙ last_read h sound.0 [] refl
open_unsized LastEnd h is sound are = last_read h sound.0 (h.low ∷ []) (length_read-first_alone h.low sound.1.0)
open_unsized Ready h is sound are = absurd is
open_unsized BadCount h is sound are = absurd is
open_unsized BadPadding h is sound are = absurd is

-- bytes that begin with a header
pub ready_whole : (h : Head) → IsSized h → (more : List ℕ)
    → header_read (spelling Whole Ready h ++ more) ≡ whole (header_in h)
ready_whole h is more =
    let t = taken h is in
    ap (λ bs. header_read (bs ++ more)) (sym t.spelled) ∙ header_read-spelled (header_in h) t.is_header more

pub ready_spelled : (h : Head) → IsSized h → (more : List ℕ)
    → spelling SelfDelimited Ready h ++ more ≡ header_bytes (header_in h) ++ (length_bytes h.last ++ more)
ready_spelled h is more =
    let t = taken h is in
    ap (λ bs. bs ++ more) (sym (append_assoc (lead h) (spelled_in h) (length_bytes h.last))
    ∙ ap (λ bs. bs ++ length_bytes h.last) (sym t.spelled))
    ∙ append_assoc (header_bytes (header_in h)) (length_bytes h.last) more

pub ready_sized : (h : Head) → IsSized h → (more : List ℕ)
    → self_header_read (spelling SelfDelimited Ready h ++ more) ≡ sized (header_in h) h.last
ready_sized h is more =
    ap self_header_read (ready_spelled h is more)
    ∙ self_header_read-spelled (header_in h) (taken h is).is_header h.last more

-- bytes that no header begins with
pub bad_count_refused : (h : Head) → code_of h.first ≡ 3 → is_count h.first h.count ≡ false → (more : List ℕ)
    → header_read (h.first ∷ h.count ∷ more) ≡ refused R5 1
bad_count_refused h code bad more = from_way (bad_count code bad)

pub bad_padding_refused : (h : Head) → IsPadded most_full h → (more : List ℕ)
    → header_read (h.first ∷ h.count ∷ (replicate (most_full + 1) 255 ++ more)) ≡ refused PadLimit (most_full + 2)
bad_padding_refused h is more =
    let all = replicate {A = ℕ} (most_full + 1) 255 in
    let counted_are = full_bytes-replicate (most_full + 1) in
    let longer = full_bytes-append-le all more in
    from_way (counted is.counted.code is.counted.allowed
    (padding_limit is.padded (padding_read-limit (all ++ more) (omega arith))))
