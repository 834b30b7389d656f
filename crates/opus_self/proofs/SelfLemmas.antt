-- A self-delimited packet is an undelimited one with the last frame's length behind the header, and says itself
-- where it ends.
use Rattle.std.proofs.Common.{◌≡◌, ℕ, zero, suc, ◌+◌, ◌≤◌, List, [], ◌++◌, map, length, take, drop, replicate, sum, refl, sym, ap, ◌∙◌, subst, append_assoc, length-append, length-take-le, take-append-drop, take-take, drop_at, arith}
use Rattle.std.proofs.Math.Seq.{take-append-add, drop-append-add}
use Rattle.std.proofs.lemmas.List.{append_cancel_left}
use Rattle.std.specs.List.{concat}
use Rattle.opus_flen.specs.FrameLength.{length_bytes, length_read}
use Rattle.opus_flen.proofs.LengthLemmas.{length_read-spelled}
use Rattle.opus_packet.specs.declared.shape.Shape.{Shape}
use Rattle.opus_packet.specs.Value.{PacketValue, IsPacketValue, max_frame}
use Rattle.opus_packet.specs.Header.{Header, Sizes, equal, given, header_bytes, frame_count, frame_lengths, body_size, padding_data}
use Rattle.opus_packet.specs.HeaderRead.{whole, header_read}
use Rattle.opus_packet.specs.HeaderStands.{value_at}
use Rattle.opus_packet.specs.PacketGrammar.{IsPacket, Suits, header_for}
use Rattle.opus_packet.specs.PacketPrefix.{AreBytes}
use Rattle.opus_packet.specs.Cut.{cut}
use Rattle.opus_packet.specs.SelfGrammar.{last_length, IsSelfDelimited, BeginsWithSelf}
use Rattle.opus_packet.specs.SelfPrefix.{sized, after_header, with_last, self_header_read, self_size}
use Rattle.opus_packet.proofs.BytesLemmas.{AreBytes-append, AreBytes-left, AreBytes-right, AreBytes-take}
use Rattle.opus_packet.proofs.CutLemmas.{length-concat}
use Rattle.opus_packet.proofs.HeaderLemmas.{IsHeader, header_read-spelled}
use Rattle.opus_packet.proofs.GrammarLemmas.{sum-frame_lengths, sizes_of, header_for-is, found, only, body_size-unique, IsPacket-unique}
use Rattle.opus_packet.proofs.LensLemmas.{last_length-push}
use Rattle.opus_self.specs.ValueBehind.{value_behind}

-- the last of some lengths

last_length-replicate : (count n : ℕ) → last_length (replicate (suc count) n) ≡ n
last_length-replicate zero n = refl
last_length-replicate (suc count) n = last_length-replicate count n

last_length-frame_lengths : (sizes : Sizes) (n : ℕ) → 1 ≤ frame_count sizes
    → last_length (frame_lengths sizes n) ≡ n
last_length-frame_lengths (equal zero) n some = absurd (omega arith)
last_length-frame_lengths (equal (suc count)) n some = last_length-replicate count n
last_length-frame_lengths (given lengths) n some = last_length-push lengths n

-- the last frame's length of a value
abbrev pub last_of : PacketValue → ℕ
last_of v = last_length (map length v.frames)

-- it fits, and gives the size of all frames
pub record IsLast (v : PacketValue) (s : Shape) : Type 0 where
  pub fits : last_of v ≤ max_frame
  pub size : length (concat v.frames) ≡ body_size (header_for v s).sizes (last_of v)

pub last_is : (v : PacketValue) (s : Shape) → IsPacketValue v → Suits s v.frames → IsLast v s
last_is v s is suits =
    let sizes = sizes_of v s is suits in
    let count = sizes.count_is in
    let some = is.some in
    let last : last_of v ≡ sizes.last =
    ap last_length (sym sizes.lengths_are)
    ∙ last_length-frame_lengths (header_for v s).sizes sizes.last (omega arith) in
    let size : length (concat v.frames) ≡ body_size (header_for v s).sizes sizes.last =
    length-concat v.frames ∙ ap sum (sym sizes.lengths_are) ∙ sum-frame_lengths (header_for v s).sizes sizes.last in
    record {
      fits = subst (λ n. n ≤ max_frame) (sym last) sizes.fits;
      size = size ∙ ap (body_size (header_for v s).sizes) (sym last);
    }

-- a header and a last length that stand first are read
pub self_header_read-spelled : (h : Header) → IsHeader h → (n : ℕ) (rest : List ℕ)
    → self_header_read (header_bytes h ++ (length_bytes n ++ rest)) ≡ sized h n
self_header_read-spelled h is n rest =
    let bs = header_bytes h ++ (length_bytes n ++ rest) in
    let behind : drop (length (header_bytes h)) bs ≡ length_bytes n ++ rest =
    drop_at (header_bytes h) (length_bytes n ++ rest) (length (header_bytes h)) refl in
    ap (after_header bs) (header_read-spelled h is (length_bytes n ++ rest))
    ∙ ap (λ l. with_last h (length_read l)) behind
    ∙ ap (with_last h) (length_read-spelled n rest)

-- what a packet has behind its header and the last length
abbrev pub rest_of : PacketValue → List ℕ → List ℕ
rest_of v tail = concat v.frames ++ tail

pub spelled_apart : (v : PacketValue) (s : Shape) (tail bs : List ℕ) → IsSelfDelimited v s tail bs
    → bs ≡ header_bytes (header_for v s) ++ (length_bytes (last_of v) ++ rest_of v tail)
spelled_apart v s tail bs p =
    let front = header_bytes (header_for v s) in
    let l = length_bytes (last_of v) in
    p.spelled ∙ append_assoc (front ++ l) (concat v.frames) tail ∙ append_assoc front l (rest_of v tail)

-- a packet is read so, whatever follows
pub self_header_read-packet : (v : PacketValue) (s : Shape) (tail bs : List ℕ) → IsSelfDelimited v s tail bs
    → (more : List ℕ) → self_header_read (bs ++ more) ≡ sized (header_for v s) (last_of v)
self_header_read-packet v s tail bs p more =
    let front = header_bytes (header_for v s) in
    let l = length_bytes (last_of v) in
    ap self_header_read
    (ap (λ xs. xs ++ more) (spelled_apart v s tail bs p) ∙ append_assoc front (l ++ rest_of v tail) more
    ∙ ap (λ xs. front ++ xs) (append_assoc l (rest_of v tail) more))
    ∙ self_header_read-spelled (header_for v s) (header_for-is v s p.value p.suits) (last_of v)
    (rest_of v tail ++ more)

-- and has the size that it tells
pub length-packet : (v : PacketValue) (s : Shape) (tail bs : List ℕ) → IsSelfDelimited v s tail bs
    → length bs ≡ self_size (header_for v s) (last_of v)
length-packet v s tail bs p =
    let front = header_bytes (header_for v s) in
    let l = length_bytes (last_of v) in
    let last = last_is v s p.value p.suits in
    let body = last.size in
    let padding = p.padding in
    ap length (spelled_apart v s tail bs p) ∙ length-append front (l ++ rest_of v tail)
    ∙ ap (λ n. length front + n) (length-append l (rest_of v tail)
    ∙ ap (λ n. length l + n) (length-append (concat v.frames) tail)) ∙ omega arith

-- the undelimited packet in it
pub undelimited : (v : PacketValue) (s : Shape) (tail bs : List ℕ) → IsSelfDelimited v s tail bs
    → IsPacket v s tail (header_bytes (header_for v s) ++ rest_of v tail)
undelimited v s tail bs p = record {
  value = p.value;
  suits = p.suits;
  padding = p.padding;
  spelled = sym (append_assoc (header_bytes (header_for v s)) (concat v.frames) tail);
}

-- what bytes that begin with a packet say
pub record IsReadAt (v : PacketValue) (s : Shape) (used : ℕ) (bs : List ℕ) : Type 0 where
  pub read : self_header_read bs ≡ sized (header_for v s) (last_of v)
  pub used_is : used ≡ self_size (header_for v s) (last_of v)

pub begins_only : (v : PacketValue) (s : Shape) (used : ℕ) (bs : List ℕ) → BeginsWithSelf v s used bs
    → IsReadAt v s used bs
begins_only v s used bs b =
    let p = b.spelled.1 in
    let within = b.within in
    let size : length (take used bs) ≡ used = length-take-le used bs within in record {
      read = ap self_header_read (sym (take-append-drop used bs))
          ∙ self_header_read-packet v s b.spelled.0 (take used bs) p (drop used bs);
      used_is = sym size ∙ length-packet v s b.spelled.0 (take used bs) p;
    }

same_header : {g h : Header} {m n : ℕ} → sized g m ≡ sized h n → g ≡ h
same_header e = cc

same_last : {g h : Header} {m n : ℕ} → sized g m ≡ sized h n → m ≡ n
same_last e = cc

-- one list has at most one value, one shape and one padding
pub IsSelfDelimited-unique : (v w : PacketValue) (s u : Shape) (tail rest bs : List ℕ)
    → IsSelfDelimited v s tail bs → IsSelfDelimited w u rest bs → (v ≡ w) × (s ≡ u) × (tail ≡ rest)
IsSelfDelimited-unique v w s u tail rest bs p q =
    let g = header_for v s in
    let h = header_for w u in
    let front = header_bytes g in
    let l = length_bytes (last_of v) in
    let both : sized g (last_of v) ≡ sized h (last_of w) =
    sym (self_header_read-packet v s tail bs p []) ∙ self_header_read-packet w u rest bs q [] in
    let other : bs ≡ front ++ (l ++ rest_of w rest) =
    spelled_apart w u rest bs q
    ∙ ap (λ k. header_bytes k ++ (length_bytes (last_of w) ++ rest_of w rest)) (sym (same_header both))
    ∙ ap (λ n. front ++ (length_bytes n ++ rest_of w rest)) (sym (same_last both)) in
    let behind : l ++ rest_of v tail ≡ l ++ rest_of w rest =
    append_cancel_left front (l ++ rest_of v tail) (l ++ rest_of w rest)
    (sym (spelled_apart v s tail bs p) ∙ other) in
    let frames : rest_of v tail ≡ rest_of w rest =
    append_cancel_left l (rest_of v tail) (rest_of w rest) behind in
    let same : header_bytes h ++ rest_of w rest ≡ front ++ rest_of v tail =
    ap (λ k. header_bytes k ++ rest_of w rest) (sym (same_header both)) ∙ ap (λ xs. front ++ xs) (sym frames) in
    IsPacket-unique v w s u tail rest (front ++ rest_of v tail) (undelimited v s tail bs p)
    (subst (IsPacket w u rest) same (undelimited w u rest bs q))

-- what was found

header_is : {g h : Header} → whole g ≡ whole h → g ≡ h
header_is e = cc

-- an undelimited packet with the last length behind its header
self_delimited : (v : PacketValue) (s : Shape) (tail rest : List ℕ) (h : Header) (n : ℕ) → IsHeader h
    → IsPacket v s tail (header_bytes h ++ rest) → header_for v s ≡ h
    → length rest ≡ body_size h.sizes n + padding_data h.shape.pad
    → IsSelfDelimited v s tail (header_bytes h ++ (length_bytes n ++ rest))
self_delimited v s tail rest h n is p same size =
    let front = header_bytes h in
    let last = last_is v s p.value p.suits in
    let pads : length tail ≡ padding_data h.shape.pad =
    p.padding ∙ ap (λ (k : Header). padding_data k.shape.pad) same in
    let body : length (concat v.frames) ≡ body_size h.sizes (last_of v) =
    last.size ∙ ap (λ (k : Header). body_size k.sizes (last_of v)) same in
    let behind : rest ≡ rest_of v tail =
    append_cancel_left front rest (rest_of v tail)
    (p.spelled ∙ append_assoc (header_bytes (header_for v s)) (concat v.frames) tail
    ∙ ap (λ k. header_bytes k ++ rest_of v tail) same) in
    let total : length rest ≡ length (concat v.frames) + length tail =
    ap length behind ∙ length-append (concat v.frames) tail in
    let last_same : last_of v ≡ n = body_size-unique h.sizes (last_of v) n is.some (omega arith) in
    let l = length_bytes n in
    record {
      value = p.value;
      suits = p.suits;
      padding = p.padding;
      spelled = ap (λ xs. front ++ (l ++ xs)) behind
          ∙ sym (append_assoc (front ++ l) (concat v.frames) tail ∙ append_assoc front l (rest_of v tail))
          ∙ ap (λ m. ((front ++ length_bytes m) ++ concat v.frames) ++ tail) (sym last_same)
          ∙ ap (λ k. ((header_bytes k ++ length_bytes (last_of v)) ++ concat v.frames) ++ tail) (sym same);
    }

-- a header and a last length, with so many bytes behind them
pub found_whole : (h : Header) → IsHeader h → (n : ℕ) → n ≤ max_frame → (rest : List ℕ)
    → AreBytes (header_bytes h ++ rest)
    → length rest ≡ body_size h.sizes n + padding_data h.shape.pad
    → IsSelfDelimited (value_behind h n rest) h.shape (drop (body_size h.sizes n) rest)
    (header_bytes h ++ (length_bytes n ++ rest))
found_whole h is n fits rest are size =
    let front = header_bytes h in
    let bs = front ++ rest in
    let body = body_size h.sizes n in
    let read : header_read bs ≡ whole h = header_read-spelled h is rest in
    let sized_so : length bs ≡ length front + body + padding_data h.shape.pad =
    (let joined = length-append front rest in omega arith) in
    let p = found bs are h read n fits sized_so in
    let behind : drop (length front) bs ≡ rest = drop_at front rest (length front) refl in
    let value : value_at h n bs ≡ value_behind h n rest = ap (value_behind h n) behind in
    let tail : drop (length front + body) bs ≡ drop body rest = drop-append-add front rest body in
    let q : IsPacket (value_behind h n rest) h.shape (drop body rest) bs =
    subst (λ v. IsPacket v h.shape (drop body rest) bs) value
    (subst (λ l. IsPacket (value_at h n bs) h.shape l bs) tail p) in
    let at = (only (value_behind h n rest) h.shape (drop body rest) bs q).1 in
    self_delimited (value_behind h n rest) h.shape (drop body rest) rest h n is q
    (header_is (sym at.read ∙ read)) size

-- and the same where more bytes follow
pub found_first : (h : Header) → IsHeader h → (n : ℕ) → n ≤ max_frame → (bs rest : List ℕ) → AreBytes bs
    → bs ≡ header_bytes h ++ (length_bytes n ++ rest) → self_size h n ≤ length bs
    → BeginsWithSelf (value_behind h n rest) h.shape (self_size h n) bs
found_first h is n fits bs rest are spelled within =
    let front = header_bytes h in
    let l = length_bytes n in
    let body = body_size h.sizes n in
    let inner = body + padding_data h.shape.pad in
    let first = take inner rest in
    let total : length bs ≡ length front + (length l + length rest) =
    ap length spelled ∙ length-append front (l ++ rest) ∙ ap (λ m. length front + m) (length-append l rest) in
    let size : length first ≡ inner = length-take-le inner rest (omega arith) in
    let parts : AreBytes (front ++ (l ++ rest)) = subst AreBytes spelled are in
    let behind : AreBytes (l ++ rest) = AreBytes-right front (l ++ rest) parts in
    let are_first : AreBytes (front ++ first) =
    AreBytes-append front first (AreBytes-left front (l ++ rest) parts)
    (AreBytes-take inner rest (AreBytes-right l rest behind)) in
    let whole_so = found_whole h is n fits first are_first size in
    let short : take body first ≡ take body rest = take-take body inner rest (omega arith) in
    let value : value_behind h n first ≡ value_behind h n rest = λ i. record {
      config = h.config;
      stereo = h.stereo;
      frames = cut (short i) (frame_lengths h.sizes n);
    } in
    let up_to : self_size h n ≡ length front + (length l + inner) = omega arith in
    let taken : take (self_size h n) bs ≡ front ++ (l ++ first) =
    ap (take (self_size h n)) spelled ∙ ap (λ m. take m (front ++ (l ++ rest))) up_to
    ∙ take-append-add front (l ++ rest) (length l + inner)
    ∙ ap (λ xs. front ++ xs) (take-append-add l rest inner) in
    record {
      within = within;
      spelled = (
        drop body first,
        subst (IsSelfDelimited (value_behind h n rest) h.shape (drop body first)) (sym taken)
            (subst (λ v. IsSelfDelimited v h.shape (drop body first) (front ++ (l ++ first))) value whole_so),
      );
    }
