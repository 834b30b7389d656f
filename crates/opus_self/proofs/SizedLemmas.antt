-- A header and a last length that stand first, and the packet that they begin.
use Rattle.std.proofs.Common.{◌≡◌, ℕ, ◌+◌, ◌≤◌, List, ◌++◌, length, drop, refl, sym, ap, ◌∙◌, subst, append_assoc, drop_at}
use Rattle.std.proofs.Math.Seq.{drop-append-add}
use Rattle.opus_flen.specs.FrameLength.{length_bytes, length_read}
use Rattle.opus_flen.specs.declared.frame_length.LenRead.{LenRead}
use Rattle.opus_flen.specs.declared.frame_length.LenRead.TheVariants.{Len, Cut as CutLength}
use Rattle.opus_flen.proofs.LengthLemmas.{length_read-sound, length_read-split}
use Rattle.opus_packet.specs.Value.{max_frame}
use Rattle.opus_packet.specs.Header.{Header, header_bytes}
use Rattle.opus_packet.specs.HeaderRead.{HeaderRead, whole, partial, refused, header_read}
use Rattle.opus_packet.specs.PacketPrefix.{AreBytes}
use Rattle.opus_packet.specs.SelfGrammar.{BeginsWithSelf}
use Rattle.opus_packet.specs.SelfPrefix.{SelfHeaderRead, sized, unsized, never, after_header, with_last, self_header_read, self_size}
use Rattle.opus_packet.proofs.BytesLemmas.{AreBytes-at, AreBytes-drop}
use Rattle.opus_packet.proofs.HeaderLemmas.{IsHeader, header_read-begins}
use Rattle.opus_self.specs.ValueBehind.{value_behind}
use Rattle.opus_self.proofs.SelfLemmas.{self_header_read-spelled, found_first}

-- a header and a last length that were read

-- they stand first, as their one spelling
pub record BeginsSized (bs : List ℕ) (h : Header) (n : ℕ) : Type 0 where
  pub is_header : IsHeader h
  pub fits : n ≤ max_frame
  pub rest : List ℕ
  pub spelled : bs ≡ header_bytes h ++ (length_bytes n ++ rest)

-- what bytes are read as a header, and as a last length behind it
pub data IsSized (bs : List ℕ) (h : Header) (n : ℕ) : Type 0 where
  is_sized : {used : ℕ} → header_read bs ≡ whole h
      → length_read (drop (length (header_bytes h)) bs) ≡ Len n used → IsSized bs h n

-- or not as a whole header, or as one with a part of a length behind it
pub data IsUnsized (bs : List ℕ) : Type 0 where
  no_header : header_read bs ≡ partial → IsUnsized bs
  no_length : {h : Header} → header_read bs ≡ whole h
      → length_read (drop (length (header_bytes h)) bs) ≡ CutLength → IsUnsized bs

abbrev WayTo : List ℕ → SelfHeaderRead → Type 0
WayTo bs (sized h n) = IsSized bs h n
WayTo bs unsized = IsUnsized bs
WayTo bs (never rule place) = header_read bs ≡ refused rule place

way : (bs : List ℕ) → WayTo bs (self_header_read bs)
way bs = go (header_read bs) refl
  where
    last : (h : Header) → header_read bs ≡ whole h → (r : LenRead)
        → length_read (drop (length (header_bytes h)) bs) ≡ r → WayTo bs (with_last h r)
    last h read (Len n used) e = is_sized read e
    last h read CutLength e = no_length read e

    go : (r : HeaderRead) → header_read bs ≡ r → WayTo bs (after_header bs r)
    go (whole h) read = last h read (length_read (drop (length (header_bytes h)) bs)) refl
    go partial read = no_header read
    go (refused rule place) read = read

pub way_to : (bs : List ℕ) (r : SelfHeaderRead) → self_header_read bs ≡ r → WayTo bs r
way_to bs r read = subst (WayTo bs) read (way bs)

begins_by : (bs : List ℕ) → AreBytes bs → (h : Header) (n : ℕ) → IsSized bs h n → BeginsSized bs h n
begins_by bs are h n (is_sized {used} read e) =
    let begins = header_read-begins bs are h read in
    let front = length (header_bytes h) in
    let behind = drop front bs in
    let are_behind = AreBytes-drop front bs are in
    let found = length_read-sound behind n used (AreBytes-at behind are_behind) e in
    let after : behind ≡ begins.rest =
    ap (drop front) begins.spelled ∙ drop_at (header_bytes h) begins.rest front refl in
    record {
      is_header = begins.is_header;
      fits = found.0.fits;
      rest = drop used behind;
      spelled = begins.spelled
          ∙ ap (λ l. header_bytes h ++ l)
          (sym after ∙ length_read-split behind n used (AreBytes-at behind are_behind) e);
    }

pub self_header_read-begins : (bs : List ℕ) → AreBytes bs → (h : Header) (n : ℕ)
    → self_header_read bs ≡ sized h n → BeginsSized bs h n
self_header_read-begins bs are h n read = begins_by bs are h n (way_to bs (sized h n) read)

-- bytes behind them change nothing
pub self_header_read-more : (bs : List ℕ) → AreBytes bs → (h : Header) (n : ℕ)
    → self_header_read bs ≡ sized h n → (more : List ℕ) → self_header_read (bs ++ more) ≡ sized h n
self_header_read-more bs are h n read more =
    let begins = self_header_read-begins bs are h n read in
    let front = header_bytes h in
    let l = length_bytes n in
    ap self_header_read
    (ap (λ xs. xs ++ more) begins.spelled ∙ append_assoc front (l ++ begins.rest) more
    ∙ ap (λ xs. front ++ xs) (append_assoc l begins.rest more))
    ∙ self_header_read-spelled h begins.is_header n (begins.rest ++ more)

-- so much is there that the packet is whole
pub begins_found : (bs : List ℕ) → AreBytes bs → (h : Header) (n : ℕ) → self_header_read bs ≡ sized h n
    → self_size h n ≤ length bs
    → BeginsWithSelf (value_behind h n (drop (length (header_bytes h) + length (length_bytes n)) bs))
    h.shape (self_size h n) bs
begins_found bs are h n read within =
    let begins = self_header_read-begins bs are h n read in
    let front = header_bytes h in
    let l = length_bytes n in
    let behind : drop (length front + length l) bs ≡ begins.rest =
    ap (drop (length front + length l)) begins.spelled
    ∙ drop-append-add front (l ++ begins.rest) (length l) ∙ drop_at l begins.rest (length l) refl in
    let first : List ℕ = drop (length front + length l) bs in
    found_first h begins.is_header n begins.fits bs first are
    (begins.spelled ∙ ap (λ xs. front ++ (l ++ xs)) (sym behind)) within
