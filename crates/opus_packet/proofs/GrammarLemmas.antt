-- A packet is a header, frames of its lengths, and its padding, and nothing else.
use Rattle.std.proofs.Common.{◌≡◌, ℕ, zero, suc, ◌+◌, ◌-◌, ◌*◌, ◌<◌, ◌≤◌, Bool, true, false, List, [], ◌∷◌, ◌++◌, map, length, get_or, take, drop, sum, refl, sym, ap, ◌∙◌, subst, append_assoc, length-append, length-take-le, take_at, drop_at, drop-drop, ⊎_elim, arith}
use Rattle.std.proofs.Math.Nat.{mul-le-mul_left, mul-lt-mul_of_pos_left}
use Rattle.std.proofs.lemmas.Bool.{cases_order}
use Rattle.std.specs.List.{AllByRecursion, concat}
use Rattle.std.proofs.lemmas.List.{length-map}
use Rattle.opus_toc.specs.Configuration.{samples_of}
use Rattle.opus_packet.specs.declared.shape.Shape.{Shape}
use Rattle.opus_packet.specs.Value.{PacketValue, IsPacketValue, IsFrame, max_frame, max_duration}
use Rattle.opus_packet.specs.Header.{Header, Sizes, equal, given, frame_count, given_lengths, frame_lengths, body_size, padding_data, header_bytes}
use Rattle.opus_packet.specs.PacketGrammar.{HaveOneLength, SuitsCode, Suits, sizes_for, header_for, IsPacket}
use Rattle.opus_packet.specs.HeaderRead.{whole, shape_of, header_read}
use Rattle.opus_packet.specs.HeaderStands.{value_at}
use Rattle.opus_packet.specs.Cut.{cut}
use Rattle.opus_packet.proofs.LengthsReadLemmas.{AreLengths}
use Rattle.opus_packet.proofs.HeaderLemmas.{SuitsSizes, IsHeader, header_read-spelled}
use Rattle.opus_packet.proofs.CutLemmas.{cut-concat, length-concat, lengths-each, lengths-replicate, AreLengths-take, AreLengths-at, take-last}
pub use Rattle.opus_packet.proofs.FoundLemmas.{length-frame_lengths, sum-frame_lengths, AreLengths-frame_lengths, sizes_for-frame_lengths, SuitsCode-from_sizes, found}

-- the other way: the header of a packet

-- the lengths of the frames, as a header tells them
pub record AreSizes (code : ℕ) (vbr : Bool) (pad : ℕ) (frames : List (List ℕ)) (sizes : Sizes) : Type 0 where
  pub suits : SuitsSizes code vbr pad sizes
  pub count_is : frame_count sizes ≡ length frames
  pub last : ℕ
  pub lengths_are : frame_lengths sizes last ≡ map length frames
  pub are_lengths : AreLengths (given_lengths sizes)
  pub fits : last ≤ max_frame

equal_sizes : (code : ℕ) (vbr : Bool) (pad : ℕ) (frames : List (List ℕ)) → 1 ≤ length frames
    → AllByRecursion IsFrame frames → HaveOneLength frames
    → SuitsSizes code vbr pad (equal (length frames)) → AreSizes code vbr pad frames (equal (length frames))
equal_sizes code vbr pad [] some each same suits = absurd (omega arith)
equal_sizes code vbr pad (f ∷ fs) some each same suits =
    let first : length f ≡ same.0 = same.1.0 in
    record {
      suits = suits;
      count_is = refl;
      last = same.0;
      lengths_are = sym (lengths-replicate (f ∷ fs) same.0 same.1);
      are_lengths = tt;
      fits = subst (λ n. n ≤ max_frame) first each.0;
    }

given_sizes : (code : ℕ) (vbr : Bool) (pad : ℕ) (frames : List (List ℕ)) → 1 ≤ length frames
    → AllByRecursion IsFrame frames
    → SuitsSizes code vbr pad (given (take (length (map length frames) - 1) (map length frames)))
    → AreSizes code vbr pad frames (given (take (length (map length frames) - 1) (map length frames)))
given_sizes code vbr pad frames some each suits =
    let lengths = map length frames in
    let size : length lengths ≡ length frames = length-map frames length in
    let are : AreLengths lengths = lengths-each frames each in
    let front : length (take (length lengths - 1) lengths) ≡ length lengths - 1 =
    length-take-le (length lengths - 1) lengths (omega arith) in
    record {
      suits = suits;
      count_is = omega arith;
      last = get_or lengths (length lengths - 1) 0;
      lengths_are = take-last lengths (omega arith);
      are_lengths = AreLengths-take (length lengths - 1) lengths are;
      fits = AreLengths-at lengths (length lengths - 1) are;
    }

one_length : (frames : List (List ℕ)) → length frames ≡ 1 → HaveOneLength frames
one_length [] size = cc
one_length (f ∷ []) size = (length f, (refl, tt))
one_length (f ∷ g ∷ fs) size = absurd (omega arith)

sizes_of_equal : (code : ℕ) (vbr : Bool) (pad : ℕ) (frames : List (List ℕ))
    → AreSizes code vbr pad frames (equal (length frames))
    → AreSizes code vbr pad frames (equal (length (map length frames)))
sizes_of_equal code vbr pad frames are =
    subst (λ n. AreSizes code vbr pad frames (equal n)) (sym (length-map frames length)) are

sizes_by : (code : ℕ) (vbr : Bool) (pad : ℕ) (frames : List (List ℕ)) → 1 ≤ length frames
    → AllByRecursion IsFrame frames → SuitsCode code vbr pad frames
    → AreSizes code vbr pad frames (sizes_for (shape_of code vbr pad) (map length frames))
sizes_by zero true pad frames some each suits = (let plain = suits.0 in cc)
sizes_by zero false pad frames some each suits =
    sizes_of_equal 0 false pad frames
    (equal_sizes 0 false pad frames some each (one_length frames suits.2) suits)
sizes_by (suc zero) true pad frames some each suits = (let plain = suits.0 in cc)
sizes_by (suc zero) false pad frames some each suits =
    sizes_of_equal 1 false pad frames
    (equal_sizes 1 false pad frames some each suits.3 (suits.0, suits.1, suits.2))
sizes_by (suc (suc zero)) vbr pad frames some each suits =
    let lengths = map length frames in
    let two : length frames ≡ 2 = suits.2 in
    let size : length lengths ≡ length frames = length-map frames length in
    let front : length (take (length lengths - 1) lengths) ≡ length lengths - 1 =
    length-take-le (length lengths - 1) lengths (omega arith) in
    given_sizes 2 vbr pad frames some each (suits.0, suits.1, omega arith)
sizes_by (suc (suc (suc zero))) true pad frames some each suits =
    given_sizes 3 true pad frames some each (suits.0, refl)
sizes_by (suc (suc (suc zero))) false pad frames some each suits =
    sizes_of_equal 3 false pad frames
    (equal_sizes 3 false pad frames some each (suits.1 refl) (suits.0, refl))
sizes_by (suc (suc (suc (suc code)))) vbr pad frames some each suits = absurd suits

pub sizes_of : (v : PacketValue) (s : Shape) → IsPacketValue v → Suits s v.frames
    → AreSizes s.code s.vbr s.pad v.frames (header_for v s).sizes
sizes_of v s is suits = sizes_by s.code s.vbr s.pad v.frames is.some is.each suits

pub header_for-is : (v : PacketValue) (s : Shape) → IsPacketValue v → Suits s v.frames
    → IsHeader (header_for v s)
header_for-is v s is suits =
    let sizes = sizes_of v s is suits in
    let count = sizes.count_is in
    let some = is.some in
    record {
      config = is.config;
      some = omega arith;
      lasts = subst (λ n. n * samples_of v.config ≤ max_duration) (sym count) is.duration;
      are_lengths = sizes.are_lengths;
      suits = sizes.suits;
    }

-- where a packet stands, and nothing else can
pub record IsFoundAt (v : PacketValue) (s : Shape) (tail bs : List ℕ) (n : ℕ) : Type 0 where
  pub fits : n ≤ max_frame
  pub read : header_read bs ≡ whole (header_for v s)
  pub size : length bs
      ≡ length (header_bytes (header_for v s)) + body_size (header_for v s).sizes n + padding_data s.pad
  pub value_is : v ≡ value_at (header_for v s) n bs
  pub tail_is : tail
      ≡ drop (length (header_bytes (header_for v s)) + body_size (header_for v s).sizes n) bs

only_by : (v : PacketValue) (s : Shape) (tail bs : List ℕ) (n : ℕ) (p : IsPacket v s tail bs)
    → n ≤ max_frame → frame_lengths (header_for v s).sizes n ≡ map length v.frames
    → IsFoundAt v s tail bs n
only_by v s tail bs n p fits lengths =
    let h = header_for v s in
    let front = length (header_bytes h) in
    let joined = concat v.frames in
    let body = body_size h.sizes n in
    let spelled : bs ≡ header_bytes h ++ (joined ++ tail) =
    p.spelled ∙ append_assoc (header_bytes h) joined tail in
    let body_is : length joined ≡ body =
    length-concat v.frames ∙ ap sum (sym lengths) ∙ sum-frame_lengths h.sizes n in
    let size : length bs ≡ front + (length joined + length tail) =
    ap length spelled ∙ length-append (header_bytes h) (joined ++ tail)
    ∙ ap (λ m. front + m) (length-append joined tail) in
    let padding = p.padding in
    let behind : drop front bs ≡ joined ++ tail =
    ap (drop front) spelled ∙ drop_at (header_bytes h) (joined ++ tail) front refl in
    let first : take body (drop front bs) ≡ joined =
    ap (take body) behind ∙ take_at joined tail body body_is in
    let frames : cut (take body (drop front bs)) (frame_lengths h.sizes n) ≡ v.frames =
    ap (λ l. cut l (frame_lengths h.sizes n)) first ∙ ap (cut joined) lengths ∙ cut-concat v.frames in
    record {
      fits = fits;
      read = ap header_read spelled ∙ header_read-spelled h (header_for-is v s p.value p.suits) (joined ++ tail);
      size = omega arith;
      value_is = (λ i. record { config = v.config; stereo = v.stereo; frames = sym frames i });
      tail_is = sym (sym (drop-drop body front bs) ∙ ap (drop body) behind ∙ drop_at joined tail body body_is);
    }

pub only : (v : PacketValue) (s : Shape) (tail bs : List ℕ) → IsPacket v s tail bs
    → (n : ℕ) × IsFoundAt v s tail bs n
only v s tail bs p =
    let sizes = sizes_of v s p.value p.suits in
    (sizes.last, only_by v s tail bs sizes.last p sizes.fits sizes.lengths_are)

-- a longer last frame makes a longer body, and no other last length fits

pub body_size-le : (sizes : Sizes) (m n : ℕ) → m ≤ n → body_size sizes m ≤ body_size sizes n
body_size-le (equal count) m n below = mul-le-mul_left count below
body_size-le (given lengths) m n below = omega arith

pub body_size-unique : (sizes : Sizes) (m n : ℕ) → 1 ≤ frame_count sizes
    → body_size sizes m ≡ body_size sizes n → m ≡ n
body_size-unique (equal count) m n some e =
    ⊎_elim (λ same. same)
    (λ other. ⊎_elim
    (λ less. let below : count * m < count * n = mul-lt-mul_of_pos_left less some in absurd (omega arith))
    (λ more. let above : count * n < count * m = mul-lt-mul_of_pos_left more some in absurd (omega arith))
    other)
    (cases_order m n)
body_size-unique (given lengths) m n some e = omega arith

-- one list has at most one value, one shape and one padding

pub same_header : {g h : Header} → whole g ≡ whole h → g ≡ h
same_header e = cc

same_value : (v w : PacketValue) (s u : Shape) (tail rest bs : List ℕ) (m n : ℕ)
    → IsHeader (header_for v s) → header_for v s ≡ header_for w u
    → IsFoundAt v s tail bs m → IsFoundAt w u rest bs n
    → (v ≡ w) × (s ≡ u) × (tail ≡ rest)
same_value v w s u tail rest bs m n is e p q =
    let g = header_for v s in
    let h = header_for w u in
    let shapes : s ≡ u = ap (λ (k : Header). k.shape) e in
    let size : length bs ≡ length (header_bytes g) + body_size g.sizes n + padding_data s.pad =
    subst (λ (k : Header). length bs ≡ length (header_bytes k) + body_size k.sizes n + padding_data k.shape.pad)
    (sym e) q.size in
    let sizes = p.size in
    let last : m ≡ n = body_size-unique g.sizes m n is.some (omega arith) in (
      p.value_is ∙ ap (λ k. value_at g k bs) last ∙ ap (λ k. value_at k n bs) e ∙ sym q.value_is,
      shapes,
      p.tail_is ∙ ap (λ k. drop (length (header_bytes g) + body_size g.sizes k) bs) last
          ∙ ap (λ (k : Header). drop (length (header_bytes k) + body_size k.sizes n) bs) e ∙ sym q.tail_is,
    )

pub IsPacket-unique : (v w : PacketValue) (s u : Shape) (tail rest bs : List ℕ)
    → IsPacket v s tail bs → IsPacket w u rest bs → (v ≡ w) × (s ≡ u) × (tail ≡ rest)
IsPacket-unique v w s u tail rest bs p q =
    let (m, first) = only v s tail bs p in
    let (n, second) = only w u rest bs q in
    same_value v w s u tail rest bs m n (header_for-is v s p.value p.suits)
    (same_header (sym first.read ∙ second.read)) first second
