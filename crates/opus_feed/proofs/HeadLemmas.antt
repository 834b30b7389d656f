-- A header that was taken: it is one, and its bytes are those that it spells.
use Rattle.std.proofs.Common.{◌≡◌, ℕ, zero, suc, ◌+◌, ◌-◌, ◌*◌, ◌^◌, ◌<◌, ◌≤◌, Bool, true, false, ◌||◌, ◌==◌, if◌then◌else◌, List, [], ◌∷◌, ◌++◌, length, replicate, All, refl, sym, ap, ◌∙◌, subst, arith, length-append}
use Rattle.std.specs.List.{flat_map}
use Rattle.std.proofs.lemmas.List.{append-nil, length-replicate}
use Rattle.std.proofs.lemmas.List.Elements.{All-head, All-tail}
use Rattle.opus_toc.specs.Toc.{config_of, stereo_of, toc_byte}
use Rattle.opus_toc.specs.Configuration.{samples_of}
use Rattle.opus_flen.specs.FrameLength.{length_bytes}
use Rattle.opus_packet.specs.Value.{max_frame, max_duration}
use Rattle.opus_packet.specs.Header.{Header, Sizes, equal, given, header_bytes, given_lengths, frame_count, count_and_padding}
use Rattle.opus_packet.specs.HeaderRead.{HeaderRead, whole, partial, refused, header_read, header_of}
use Rattle.opus_packet.specs.PacketPrefix.{AreBytes}
use Rattle.opus_packet.proofs.LengthsReadLemmas.{AreLengths}
use Rattle.opus_packet.proofs.HeaderLemmas.{IsHeader, SuitsSizes, header_bytes-is, header_read-begins, header_read-spelled, header_read-more, header_read-refused_more}
use Rattle.opus_packet.specs.Spelled.{lengths_in}
use Rattle.opus_feed.specs.Heads.{SuitsCount, IsLed, IsSized, HasLengths, gives, spelled_in, sizes_in, header_in, lead}
use Rattle.opus_feed.specs.declared.head.Head.{Head}

pub AreLengths-from : (ns : List ℕ) → All (λ n. n ≤ max_frame) ns → AreLengths ns
AreLengths-from [] all = tt
AreLengths-from (n ∷ ns) all =
    (All-head (λ m. m ≤ max_frame) n ns all, AreLengths-from ns (All-tail (λ m. m ≤ max_frame) n ns all))

suits_sizes : (code : ℕ) (vbr : Bool) (pad frames : ℕ) (ns : List ℕ) → SuitsCount code vbr pad frames
    → pad < 2 ^ 24 → length ns + 1 ≡ frames
    → SuitsSizes code vbr pad (if (code == 2) || vbr then given ns else equal frames)
suits_sizes zero true pad frames ns is limit counted = cc
suits_sizes zero false pad frames ns is limit counted = is
suits_sizes (suc zero) true pad frames ns is limit counted = cc
suits_sizes (suc zero) false pad frames ns is limit counted = is
suits_sizes (suc (suc zero)) vbr pad frames ns is limit counted =
    let two = is.2 in (is.0, is.1, omega arith)
suits_sizes (suc (suc (suc zero))) true pad frames ns is limit counted = (limit, refl)
suits_sizes (suc (suc (suc zero))) false pad frames ns is limit counted = (limit, refl)
suits_sizes (suc (suc (suc (suc code)))) vbr pad frames ns is limit counted = absurd is

-- the header with these parts is one, and spells the bytes before the lengths, and these
pub record IsHead (h : Head) (sizes : Sizes) (lengths : List ℕ) : Type 0 where
  pub is_header : IsHeader (header_of h.first h.shape sizes)
  pub spelled : header_bytes (header_of h.first h.shape sizes) ≡ lead h ++ flat_map length_bytes lengths

head_from : (h : Head) (sizes : Sizes) (lengths : List ℕ) → IsLed h → frame_count sizes ≡ h.frames
    → given_lengths sizes ≡ lengths → AreLengths lengths
    → SuitsSizes h.shape.code h.shape.vbr h.shape.pad sizes → IsHead h sizes lengths
head_from h sizes lengths led counted are each suits =
    let byte = led.byte in
    let some = led.some in
    record {
      is_header = record {
        config = omega arith;
        some = omega arith;
        lasts = subst (λ n. n * samples_of (config_of h.first) ≤ max_duration) (sym counted) led.lasts;
        are_lengths = subst AreLengths (sym are) each;
        suits = suits;
      };
      spelled = header_bytes-is (header_of h.first h.shape sizes)
          ∙ ap (λ ns. toc_byte (config_of h.first) (stereo_of h.first) h.shape.code
          ∷ (count_and_padding h.shape (frame_count sizes) ++ flat_map length_bytes ns)) are
          ∙ ap (λ n. toc_byte (config_of h.first) (stereo_of h.first) h.shape.code
          ∷ (count_and_padding h.shape n ++ flat_map length_bytes lengths)) counted;
    }

-- a header that gives lengths, with some
pub head_giving : (h : Head) → IsLed h → gives h.shape ≡ true → (ns : List ℕ) → length ns + 1 ≡ h.frames
    → AreLengths ns → IsHead h (given ns) ns
head_giving h led giving ns counted each =
    let suits = suits_sizes h.shape.code h.shape.vbr h.shape.pad h.frames ns led.suits led.pad counted in
    head_from h (given ns) ns led counted refl each
    (subst (λ g. SuitsSizes h.shape.code h.shape.vbr h.shape.pad (if g then given ns else equal h.frames)) giving suits)

-- a header all of whose lengths but the last were taken
pub record IsTaken (h : Head) : Type 0 where
  pub is_header : IsHeader (header_in h)
  pub spelled : header_bytes (header_in h) ≡ lead h ++ spelled_in h

taken_by : (h : Head) (g : Bool) → gives h.shape ≡ g → IsLed h → HasLengths (if g then h.frames - 1 else 0) h
    → IsTaken h
taken_by h true giving led has =
    let ns = lengths_in (h.frames - 1) (spelled_in h) in
    let some = led.some in
    let count = has.spells.counted in
    let head = head_giving h led giving ns (omega arith) (AreLengths-from ns has.spells.each) in
    let sizes : sizes_in h ≡ given ns = rw giving in
    record {
      is_header = subst (λ s. IsHeader (header_of h.first h.shape s)) (sym sizes) head.is_header;
      spelled = ap (λ s. header_bytes (header_of h.first h.shape s)) sizes ∙ head.spelled
          ∙ ap (λ bs. lead h ++ bs) (sym has.spells.own);
    }
taken_by h false giving led has =
    let suits = suits_sizes h.shape.code h.shape.vbr h.shape.pad h.frames (replicate (h.frames - 1) 0) led.suits led.pad in
    let some = led.some in
    let size = length-replicate {A = ℕ} (h.frames - 1) 0 in
    let head = head_from h (equal h.frames) [] led refl refl tt
    (subst (λ g. SuitsSizes h.shape.code h.shape.vbr h.shape.pad
    (if g then given (replicate (h.frames - 1) 0) else equal h.frames)) giving (suits (omega arith))) in
    let sizes : sizes_in h ≡ equal h.frames = rw giving in
    record {
      is_header = subst (λ s. IsHeader (header_of h.first h.shape s)) (sym sizes) head.is_header;
      spelled = ap (λ s. header_bytes (header_of h.first h.shape s)) sizes ∙ head.spelled
          ∙ ap (λ bs. lead h ++ bs) (sym has.spells.own);
    }

pub taken : (h : Head) → IsSized h → IsTaken h
taken h sized = taken_by h (gives h.shape) refl sized.led sized.lengths

-- bytes that some more make a header of aren't one
pub partial_front : (bytes more : List ℕ) (h : Header) → AreBytes bytes → IsHeader h
    → header_bytes h ≡ bytes ++ more → 1 ≤ length more → header_read bytes ≡ partial
partial_front bytes more h are is spelled some = go (header_read bytes) refl
  where
    all : header_read (bytes ++ more) ≡ whole h
    all = ap header_read (sym spelled ∙ sym (append-nil (header_bytes h))) ∙ header_read-spelled h is []

    whole_is : {g k : Header} → whole g ≡ whole k → g ≡ k
    whole_is e = cc

    go : (r : HeaderRead) → header_read bytes ≡ r → r ≡ partial
    go (whole g) read =
        let begins = header_read-begins bytes are g read in
        let same : g ≡ h = whole_is (sym (header_read-more bytes are g read more) ∙ all) in
        let front : bytes ≡ header_bytes h ++ begins.rest =
        begins.spelled ∙ ap (λ k. header_bytes k ++ begins.rest) same in
        let long = ap (λ (l : List ℕ). length l) spelled in
        let longer = ap (λ (l : List ℕ). length l) front in
        let first = length-append bytes more in
        let second = length-append (header_bytes h) begins.rest in
        absurd (omega arith)
    go partial read = refl
    go (refused rule place) read =
        let no_way : refused rule place ≡ whole h = sym (header_read-refused_more bytes rule place read more) ∙ all in
        cc
