-- What can still become a header: some bytes complete it.
use Rattle.std.proofs.Common.{◌≡◌, ℕ, ◌+◌, ◌-◌, ◌*◌, ◌^◌, ◌<◌, Bool, true, false, List, [], ◌∷◌, ◌++◌, length, drop, replicate, flat_map, Some, None, nat_lt, refl, sym, ap, ◌∙◌, subst, append_assoc, append-nil, length-append, take_all, lt-ltb, arith}
use Rattle.std.proofs.lemmas.List.{length-replicate}
use Rattle.opus_toc.specs.Toc.{config_of, code_of}
use Rattle.opus_flen.specs.FrameLength.{length_bytes}
use Rattle.opus_flen.specs.PaddingLength.{padding_bytes, padding_read}
use Rattle.opus_flen.specs.declared.padding_length.PadRead.TheVariants.{Pad, Cut}
use Rattle.opus_flen.proofs.PaddingFrontLemmas.{padding_read-split, padding_read-completed}
use Rattle.opus_flen.proofs.PaddingReadLemmas.{padding_read-sound}
use Rattle.opus_packet.specs.Header.{Header, Sizes, equal, given, frame_count, given_lengths, padding_length, header_bytes}
use Rattle.opus_packet.specs.HeaderRead.{HeaderRead, whole, partial, refused, lengths_read, shape_of, header_of, vbr_of, padded_of, frames_of, is_count, header_read}
use Rattle.opus_packet.specs.PacketPrefix.{AreBytes}
use Rattle.opus_packet.proofs.BytesLemmas.{AreBytes-at, AreBytes-append, AreBytes-drop, AreBytes-zeros}
use Rattle.opus_packet.proofs.LengthsReadLemmas.{lengths_read-completed, lengths_read-spelled, length_bytes-zeros}
use Rattle.opus_packet.proofs.WayLemmas.{AfterPadding, of_equal, of_given, of_cut, AfterCount, plain, padded, padding_cut, padding_limit, Way, no_toc, one, two_equal, two_given, two_cut, no_count, bad_count, counted, way, from_way}
use Rattle.opus_packet.proofs.FirstBytes.{count_of, count_of-parts}
use Rattle.opus_packet.proofs.HeaderLemmas.{header_bytes-is, padding_length-some, spelled_2, spelled_3, count_way, lasts_two, is_count-from, counts}

-- bytes that complete a part of a header
pub record CompletesHeader (bs : List ℕ) : Type 0 where
  pub more : List ℕ
  pub bytes : AreBytes more
  pub header : Header
  pub read : header_read (bs ++ more) ≡ whole header
  pub spelled : bs ++ more ≡ header_bytes header

-- the same behind the padding length of code 3
record CompletesPadding (toc count pad : ℕ) (rest : List ℕ) : Type 0 where
  more : List ℕ
  bytes : AreBytes more
  vbr : Bool
  vbr_is : vbr_of count ≡ vbr
  sizes : Sizes
  frames : frame_count sizes ≡ frames_of count
  after : AfterPadding toc count pad (rest ++ more) (whole (header_of toc (shape_of 3 vbr pad) sizes))
  spelled : rest ++ more ≡ flat_map length_bytes (given_lengths sizes)

read_all : (count : ℕ) (bs lengths : List ℕ) → bs ≡ flat_map length_bytes lengths → length lengths ≡ count
    → lengths_read count bs ≡ Some lengths
read_all count bs lengths e size =
    ap (λ n. lengths_read n bs) (sym size)
    ∙ ap (lengths_read (length lengths)) (e ∙ sym (append-nil (flat_map length_bytes lengths)))
    ∙ lengths_read-spelled lengths []

-- cut lengths are completed
lengths_completed : (toc count pad : ℕ) (rest : List ℕ) → AreBytes rest → 0 < frames_of count
    → vbr_of count ≡ true → lengths_read (frames_of count - 1) rest ≡ None
    → CompletesPadding toc count pad rest
lengths_completed toc count pad rest bytes some v none =
    let c = lengths_read-completed (frames_of count - 1) rest bytes none in
    let size = c.counted in
    record {
      more = c.more;
      bytes = c.bytes;
      vbr = true;
      vbr_is = v;
      sizes = given c.lengths;
      frames = omega arith;
      after = of_given v (read_all (frames_of count - 1) (rest ++ c.more) c.lengths c.spelled c.counted);
      spelled = c.spelled;
    }

-- where nothing stands behind the padding length, zeros are the lengths
nothing_completed : (toc count pad : ℕ) (v : Bool) → 0 < frames_of count → vbr_of count ≡ v
    → CompletesPadding toc count pad []
nothing_completed toc count pad true some v =
    let others = frames_of count - 1 in
    let zeros = replicate others 0 in
    let size : length zeros ≡ others = length-replicate others 0 in
    let spelled : zeros ≡ flat_map length_bytes zeros = sym (length_bytes-zeros others) in
    record {
      more = zeros;
      bytes = AreBytes-zeros others;
      vbr = true;
      vbr_is = v;
      sizes = given zeros;
      frames = omega arith;
      after = of_given v (read_all others zeros zeros spelled size);
      spelled = spelled;
    }
nothing_completed toc count pad false some v =
    record {
      more = [];
      bytes = tt;
      vbr = false;
      vbr_is = v;
      sizes = equal (frames_of count);
      frames = refl;
      after = of_equal v;
      spelled = refl;
    }

-- what completes the lengths behind a padding length completes the header
header_completed : (toc count pad : ℕ) (rest bytes front : List ℕ) → count < 256 → code_of toc ≡ 3
    → is_count toc count ≡ true → pad < 2 ^ 24 → padded_of count ≡ nat_lt 0 pad
    → AreBytes front → (c : CompletesPadding toc count pad rest)
    → bytes ++ front ≡ padding_length pad ++ rest → CompletesHeader (toc ∷ count ∷ bytes)
header_completed toc count pad rest bytes front fits code ok limit p are c e =
    let all : bytes ++ (front ++ c.more) ≡ padding_length pad ++ (rest ++ c.more) =
    sym (append_assoc bytes front c.more) ∙ ap (λ l. l ++ c.more) e
    ∙ append_assoc (padding_length pad) rest c.more in
    let made : count_of c.vbr (nat_lt 0 pad) (frame_count c.sizes) ≡ count =
    ap (count_of c.vbr (nat_lt 0 pad)) c.frames
    ∙ ap (λ b. count_of b (nat_lt 0 pad) (frames_of count)) (sym c.vbr_is)
    ∙ ap (λ b. count_of (vbr_of count) b (frames_of count)) (sym p)
    ∙ count_of-parts count fits in
    let ended : bytes ++ (front ++ c.more)
    ≡ padding_length pad ++ (flat_map length_bytes (given_lengths c.sizes) ++ []) =
    all ∙ ap (λ l. padding_length pad ++ l)
    (c.spelled ∙ sym (append-nil (flat_map length_bytes (given_lengths c.sizes)))) in
    let h = header_of toc (shape_of 3 c.vbr pad) c.sizes in
    record {
      more = front ++ c.more;
      bytes = AreBytes-append front c.more are c.bytes;
      header = h;
      read = ap (λ l. header_read (toc ∷ (count ∷ l))) all
          ∙ from_way (counted code ok (count_way toc count pad (rest ++ c.more) (whole h) p limit c.after));
      spelled = spelled_3 toc count pad c.vbr c.sizes (bytes ++ (front ++ c.more)) [] code made ended
          ∙ append-nil (header_bytes h);
    }

abbrev CompletesIfPartial : List ℕ → HeaderRead → Type 0
CompletesIfPartial bs (whole h) = Unit {0}
CompletesIfPartial bs partial = CompletesHeader bs
CompletesIfPartial bs (refused rule place) = Unit {0}

-- code 3 whose padding is whole, with a cut length
padding_completed : {toc count pad : ℕ} {rest : List ℕ} {r : HeaderRead} (bytes : List ℕ) → count < 256
    → AreBytes rest → code_of toc ≡ 3 → is_count toc count ≡ true → pad < 2 ^ 24
    → padded_of count ≡ nat_lt 0 pad → bytes ≡ padding_length pad ++ rest
    → AfterPadding toc count pad rest r → CompletesIfPartial (toc ∷ count ∷ bytes) r
padding_completed bytes fits are code ok limit p e (of_equal v) = tt
padding_completed bytes fits are code ok limit p e (of_given v read) = tt
padding_completed {toc} {count} {pad} {rest} bytes fits are code ok limit p e (of_cut v none) =
    header_completed toc count pad rest bytes [] fits code ok limit p tt
    (lengths_completed toc count pad rest are (counts toc count ok).0 v none)
    (append-nil bytes ∙ e)

-- code 3 whose padding length is cut
cut_padding_completed : (toc count : ℕ) (bytes : List ℕ) → count < 256 → AreBytes bytes
    → code_of toc ≡ 3 → is_count toc count ≡ true → padded_of count ≡ true → padding_read bytes ≡ Cut
    → CompletesHeader (toc ∷ count ∷ bytes)
cut_padding_completed toc count bytes fits are code ok p read =
    let longer : AreBytes (bytes ++ 0 ∷ []) = AreBytes-append bytes (0 ∷ []) are (omega arith, tt) in
    let pad = 255 * length bytes + 1 in
    let now : padding_read (bytes ++ 0 ∷ []) ≡ Pad pad (length bytes + 1) = padding_read-completed bytes read in
    let said = padding_read-sound (bytes ++ 0 ∷ []) pad (length bytes + 1) (AreBytes-at (bytes ++ 0 ∷ []) longer) now in
    let size = length-append bytes (0 ∷ []) in
    let whole_now : bytes ++ 0 ∷ [] ≡ padding_bytes pad =
    sym (take_all (length bytes + 1) (bytes ++ 0 ∷ []) (omega arith)) ∙ said.spelled in
    header_completed toc count pad [] bytes (0 ∷ []) fits code ok said.below
    (p ∙ sym (lt-ltb 0 pad said.above)) (omega arith, tt)
    (nothing_completed toc count pad (vbr_of count) (counts toc count ok).0 refl)
    (whole_now ∙ sym (padding_length-some pad said.above) ∙ sym (append-nil (padding_length pad)))

count_completed : {toc count : ℕ} {bytes : List ℕ} {r : HeaderRead} → count < 256 → AreBytes bytes
    → code_of toc ≡ 3 → is_count toc count ≡ true → AfterCount toc count bytes r
    → CompletesIfPartial (toc ∷ count ∷ bytes) r
count_completed {bytes} fits are code ok (plain p after) =
    padding_completed bytes fits are code ok (omega arith) p refl after
count_completed {bytes} fits are code ok (padded {total} {used} p read after) =
    let said = padding_read-sound bytes total used (AreBytes-at bytes are) read in
    let split = padding_read-split bytes total used (AreBytes-at bytes are) read in
    padding_completed bytes fits (AreBytes-drop used bytes are) code ok said.below
    (p ∙ sym (lt-ltb 0 total said.above))
    (split ∙ ap (λ l. l ++ drop used bytes) (sym (padding_length-some total said.above))) after
count_completed {toc} {count} {bytes} fits are code ok (padding_cut p read) =
    cut_padding_completed toc count bytes fits are code ok p read
count_completed fits are code ok (padding_limit p read) = tt

completed_by : {bs : List ℕ} {r : HeaderRead} → AreBytes bs → Way bs r → CompletesIfPartial bs r
completed_by are no_toc =
    record {
      more = 0 ∷ [];
      bytes = (omega arith, tt);
      header = header_of 0 (shape_of 0 false 0) (equal 1);
      read = from_way (one refl);
      spelled = sym (header_bytes-is (header_of 0 (shape_of 0 false 0) (equal 1)));
    }
completed_by are (one code) = tt
completed_by are (two_equal code) = tt
completed_by are (two_given code read) = tt
completed_by are (two_cut {toc} {bytes} code none) =
    let c = lengths_read-completed 1 bytes are.1 none in
    let h = header_of toc (shape_of 2 false 0) (given c.lengths) in
    record {
      more = c.more;
      bytes = c.bytes;
      header = h;
      read = from_way (two_given code (read_all 1 (bytes ++ c.more) c.lengths c.spelled c.counted));
      spelled = spelled_2 toc c.lengths (bytes ++ c.more) [] code
          (c.spelled ∙ sym (append-nil (flat_map length_bytes c.lengths)))
          ∙ append-nil (header_bytes h);
    }
completed_by are (no_count {toc} code) =
    let fits = are.0 in
    let h = header_of toc (shape_of 3 false 0) (equal 1) in
    let ok : is_count toc 1 ≡ true =
    is_count-from toc 1 1 (config_of toc) refl refl (omega arith)
    (lasts_two (config_of toc) 1 (omega arith) (omega arith)) in
    record {
      more = 1 ∷ [];
      bytes = (omega arith, tt);
      header = h;
      read = from_way (counted code ok (plain refl (of_equal refl)));
      spelled = spelled_3 toc 1 0 false (equal 1) [] [] code refl refl ∙ append-nil (header_bytes h);
    }
completed_by are (bad_count code bad) = tt
completed_by are (counted code ok after) = count_completed are.1.0 are.1.1 code ok after

-- some bytes make a whole header of a part of one
pub header_read-completed : (bs : List ℕ) → AreBytes bs → header_read bs ≡ partial → CompletesHeader bs
header_read-completed bs are read = subst (CompletesIfPartial bs) read (completed_by are (way bs))
