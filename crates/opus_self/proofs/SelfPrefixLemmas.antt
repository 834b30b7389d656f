-- What can still become a self-delimited packet: what is missing is added.
use Rattle.std.proofs.Common.{◌≡◌, ℕ, ◌+◌, ◌-◌, ◌≤◌, List, [], ◌∷◌, ◌++◌, length, take, drop, replicate, refl, sym, ap, ◌∙◌, subst, append_assoc, append-nil, length-append, take-append-drop, take-take, take_all, drop_at, take_at, ⊎_elim, arith}
use Rattle.std.proofs.lemmas.Bool.{cases_lt}
use Rattle.std.proofs.lemmas.List.{length-replicate, nil_from_length}
use Rattle.opus_flen.specs.FrameLength.{length_bytes, length_read}
use Rattle.opus_flen.specs.declared.frame_length.LenRead.TheVariants.{Cut as CutLength}
use Rattle.opus_flen.proofs.LengthLemmas.{length_read-sound, length_read-completed}
use Rattle.opus_packet.specs.declared.fault.Rule.{Rule}
use Rattle.opus_packet.specs.declared.shape.Shape.{Shape}
use Rattle.opus_packet.specs.Value.{PacketValue}
use Rattle.opus_packet.specs.Header.{Header, header_bytes}
use Rattle.opus_packet.specs.HeaderRead.{whole, refused, header_read}
use Rattle.opus_packet.specs.PacketGrammar.{header_for}
use Rattle.opus_packet.specs.PacketPrefix.{AreBytes}
use Rattle.opus_packet.specs.SelfGrammar.{SpellsSelf, IsSomeSelfDelimited, BeginsWithSelf}
use Rattle.opus_packet.specs.SelfPrefix.{SelfHeaderRead, sized, unsized, never, after_header, self_header_read, self_size, CanBecomeSelf, IsSelfDelimitedPrefix, self_fault_by, self_delimited_fault}
use Rattle.opus_packet.proofs.BytesLemmas.{AreBytes-at, AreBytes-append, AreBytes-drop, AreBytes-zeros}
use Rattle.opus_packet.proofs.HeaderLemmas.{header_read-begins, header_read-refused_more, header_read-refused_at}
use Rattle.opus_packet.proofs.PrefixLemmas.{header_read-completed}
use Rattle.opus_self.specs.ValueBehind.{value_behind}
use Rattle.opus_self.specs.BecomesSelf.{BecomesSelf, BeginsWithNone}
use Rattle.opus_self.specs.LongestSelfPrefix.{IsLongestSelfPrefix}
use Rattle.opus_self.proofs.SelfLemmas.{last_of, self_header_read-spelled, IsReadAt, begins_only}
pub use Rattle.opus_self.proofs.SizedLemmas.{BeginsSized, IsSized, is_sized, IsUnsized, no_header, no_length, way_to, self_header_read-begins, self_header_read-more, begins_found}

-- a prefix becomes a packet

sized_becomes : (bs : List ℕ) → AreBytes bs → (h : Header) (n : ℕ) → self_header_read bs ≡ sized h n
    → length bs ≤ self_size h n → BecomesSelf bs
sized_becomes bs are h n read fits =
    let missing = self_size h n - length bs in
    let more : List ℕ = replicate missing 0 in
    let zeros : AreBytes more = AreBytes-zeros missing in
    let room : length more ≡ missing = length-replicate missing 0 in
    let size : length (bs ++ more) ≡ length bs + length more = length-append bs more in
    let begins = begins_found (bs ++ more) (AreBytes-append bs more are zeros) h n
    (self_header_read-more bs are h n read more) (omega arith) in
    record {
      more = more;
      are_bytes = zeros;
      value = value_behind h n (drop (length (header_bytes h) + length (length_bytes n)) (bs ++ more));
      shape = h.shape;
      used = self_size h n;
      begins = begins;
      all = fits;
    }

-- what becomes a packet with some bytes behind it becomes one
longer_becomes : (bs more : List ℕ) → AreBytes more → BecomesSelf (bs ++ more) → BecomesSelf bs
longer_becomes bs more are longer =
    let size = length-append bs more in
    let all = longer.all in
    record {
      more = more ++ longer.more;
      are_bytes = AreBytes-append more longer.more are longer.are_bytes;
      value = longer.value;
      shape = longer.shape;
      used = longer.used;
      begins = subst (BeginsWithSelf longer.value longer.shape longer.used)
          (append_assoc bs more longer.more) longer.begins;
      all = omega arith;
    }

-- a cut length behind a header is completed by a byte 0
length_becomes : (bs : List ℕ) → AreBytes bs → (h : Header) → header_read bs ≡ whole h
    → length_read (drop (length (header_bytes h)) bs) ≡ CutLength → BecomesSelf bs
length_becomes bs are h read cut =
    let begins = header_read-begins bs are h read in
    let front = header_bytes h in
    let behind = drop (length front) bs in
    let are_behind = AreBytes-drop (length front) bs are in
    let (n, fits, ended) = length_read-completed behind (AreBytes-at behind are_behind) cut in
    let zero_byte : AreBytes (0 ∷ []) = (omega arith, tt) in
    let longer : AreBytes (behind ++ 0 ∷ []) = AreBytes-append behind (0 ∷ []) are_behind zero_byte in
    let found = length_read-sound (behind ++ 0 ∷ []) n (length behind + 1)
    (AreBytes-at (behind ++ 0 ∷ []) longer) ended in
    let size = length-append behind (0 ∷ []) in
    let l_is : behind ++ 0 ∷ [] ≡ length_bytes n =
    sym (take_all (length behind + 1) (behind ++ 0 ∷ []) (omega arith)) ∙ found.0.spelled in
    let after : behind ≡ begins.rest =
    ap (drop (length front)) begins.spelled ∙ drop_at front begins.rest (length front) refl in
    let all : bs ++ 0 ∷ [] ≡ front ++ (length_bytes n ++ []) =
    ap (λ l. l ++ 0 ∷ []) (begins.spelled ∙ ap (λ l. front ++ l) (sym after))
    ∙ append_assoc front behind (0 ∷ [])
    ∙ ap (λ l. front ++ l) (l_is ∙ sym (append-nil (length_bytes n))) in
    let total : length (bs ++ 0 ∷ []) ≡ length front + length (length_bytes n) =
    ap length all ∙ length-append front (length_bytes n ++ [])
    ∙ ap (λ l. length front + length l) (append-nil (length_bytes n)) in
    longer_becomes bs (0 ∷ []) zero_byte
    (sized_becomes (bs ++ 0 ∷ []) (AreBytes-append bs (0 ∷ []) are zero_byte) h n
    (ap self_header_read all ∙ self_header_read-spelled h begins.is_header n []) (omega arith))

unsized_becomes : (bs : List ℕ) → AreBytes bs → IsUnsized bs → BecomesSelf bs
unsized_becomes bs are (no_length {h} read cut) = length_becomes bs are h read cut
unsized_becomes bs are (no_header read) =
    let c = header_read-completed bs are read in
    let all : List ℕ = bs ++ c.more in
    let behind : drop (length (header_bytes c.header)) all ≡ [] =
    ap (drop (length (header_bytes c.header))) (c.spelled ∙ sym (append-nil (header_bytes c.header)))
    ∙ drop_at (header_bytes c.header) [] (length (header_bytes c.header)) refl in
    longer_becomes bs c.more c.bytes
    (length_becomes all (AreBytes-append bs c.more are c.bytes) c.header c.read (ap length_read behind))

pub self_becomes : (bs : List ℕ) → AreBytes bs → IsSelfDelimitedPrefix bs → BecomesSelf bs
self_becomes bs are can = go (self_header_read bs) refl can
  where
    go : (r : SelfHeaderRead) → self_header_read bs ≡ r → CanBecomeSelf r (length bs) → BecomesSelf bs
    go (sized h n) read fits = sized_becomes bs are h n read fits
    go unsized read fits = unsized_becomes bs are (way_to bs unsized read)
    go (never rule place) read fits = absurd fits

-- what becomes a packet is a prefix

-- what is refused stays refused
never_more : (bs : List ℕ) (rule : Rule) (place : ℕ) → header_read bs ≡ refused rule place → (more : List ℕ)
    → self_header_read (bs ++ more) ≡ never rule place
never_more bs rule place read more = ap (after_header (bs ++ more)) (header_read-refused_more bs rule place read more)

prefix_by : (bs more : List ℕ) → AreBytes bs → (v : PacketValue) (s : Shape) (used : ℕ)
    → IsReadAt v s used (bs ++ more) → length bs ≤ used
    → (r : SelfHeaderRead) → self_header_read bs ≡ r → CanBecomeSelf r (length bs)
prefix_by bs more are v s used at all (sized h n) read =
    let both : sized (header_for v s) (last_of v) ≡ sized h n =
    sym at.read ∙ self_header_read-more bs are h n read more in
    let fits = at.used_is in
    let most : length bs ≤ self_size (header_for v s) (last_of v) = omega arith in
    subst (λ r. CanBecomeSelf r (length bs)) both most
prefix_by bs more are v s used at all unsized read = tt
prefix_by bs more are v s used at all (never rule place) read =
    let ever = at.read in
    let no = never_more bs rule place (way_to bs (never rule place) read) more in
    cc

pub prefix_of_self : (bs : List ℕ) → AreBytes bs → BecomesSelf bs → IsSelfDelimitedPrefix bs
prefix_of_self bs are c =
    prefix_by bs c.more are c.value c.shape c.used
    (begins_only c.value c.shape c.used (bs ++ c.more) c.begins) c.all (self_header_read bs) refl

-- the place of a fault

itself_longest : (bs : List ℕ) → IsSelfDelimitedPrefix bs → IsLongestSelfPrefix bs (length bs)
itself_longest bs can = record {
  within = omega arith;
  is_prefix = subst IsSelfDelimitedPrefix (sym (take_all (length bs) bs (omega arith))) can;
  longest = (λ n past within is. omega arith);
}

refused_longest : (bs : List ℕ) (rule : Rule) (place : ℕ) → header_read bs ≡ refused rule place → IsLongestSelfPrefix bs place
refused_longest bs rule place read =
    let at = header_read-refused_at bs rule place read in
    let inside = at.within in
    record {
      within = omega arith;
      is_prefix = subst (λ r. CanBecomeSelf (after_header (take place bs) r) (length (take place bs)))
          (sym at.before) tt;
      longest = (λ n past within is.
          let front : take (place + 1) (take n bs) ≡ take (place + 1) bs = take-take (place + 1) n bs (omega arith) in
          let behind = drop (place + 1) (take n bs) in
          let split : take n bs ≡ take (place + 1) bs ++ behind =
          sym (take-append-drop (place + 1) (take n bs)) ∙ ap (λ l. l ++ behind) front in
          let no : self_header_read (take n bs) ≡ never rule place =
          ap self_header_read split ∙ never_more (take (place + 1) bs) rule place at.there behind in
          subst (λ r. CanBecomeSelf r (length (take n bs))) no is);
    }

fault_at : (bs : List ℕ) → AreBytes bs → BeginsWithNone bs → (r : SelfHeaderRead) → self_header_read bs ≡ r
    → IsLongestSelfPrefix bs (self_fault_by r (length bs)).place
fault_at bs are none (sized h n) read =
    ⊎_elim
    (λ short. let fits : length bs ≤ self_size h n = omega arith in
    itself_longest bs (subst (λ r. CanBecomeSelf r (length bs)) (sym read) fits))
    (λ long. absurd (none _ h.shape (self_size h n) (begins_found bs are h n read long)))
    (cases_lt (length bs) (self_size h n))
fault_at bs are none unsized read =
    itself_longest bs (subst (λ r. CanBecomeSelf r (length bs)) (sym read) tt)
fault_at bs are none (never rule place) read = refused_longest bs rule place (way_to bs (never rule place) read)

pub self_delimited_fault-longest : (bs : List ℕ) → AreBytes bs → BeginsWithNone bs
    → IsLongestSelfPrefix bs (self_delimited_fault bs).place
self_delimited_fault-longest bs are none = fault_at bs are none (self_header_read bs) refl

pub self_delimited_fault-whole : (bs : List ℕ) → IsSelfDelimitedPrefix bs
    → (self_delimited_fault bs).place ≡ length bs
self_delimited_fault-whole bs can = go (self_header_read bs) can
  where
    go : (r : SelfHeaderRead) → CanBecomeSelf r (length bs) → (self_fault_by r (length bs)).place ≡ length bs
    go (sized h n) fits = refl
    go unsized fits = refl
    go (never rule place) fits = absurd fits

-- where a packet ends

pub begins_once : (v w : PacketValue) (s u : Shape) (m n : ℕ) (bs : List ℕ)
    → BeginsWithSelf v s m bs → BeginsWithSelf w u n bs → m ≡ n
begins_once v w s u m n bs p q =
    let first = begins_only v s m bs p in
    let second = begins_only w u n bs q in
    first.used_is ∙ same_size (sym first.read ∙ second.read) ∙ sym second.used_is
  where
    same_size : {g h : Header} {i j : ℕ} → sized g i ≡ sized h j → self_size g i ≡ self_size h j
    same_size e = cc

whole_begins : (v : PacketValue) (s : Shape) (bs more : List ℕ) → SpellsSelf v s bs
    → BeginsWithSelf v s (length bs) (bs ++ more)
whole_begins v s bs more p =
    let size = length-append bs more in
    record {
      within = omega arith;
      spelled = subst (SpellsSelf v s) (sym (take_at bs more (length bs) refl)) p;
    }

pub ends : (bs more : List ℕ) → IsSomeSelfDelimited bs → IsSomeSelfDelimited (bs ++ more) → more ≡ []
ends bs more (v, s, p) (w, u, q) =
    let all = bs ++ more in
    let size = length-append bs more in
    let second : BeginsWithSelf w u (length all) all =
    subst (BeginsWithSelf w u (length all)) (append-nil all) (whole_begins w u all [] q) in
    let same = begins_once v w s u (length bs) (length all) all (whole_begins v s bs more p) second in
    nil_from_length more (omega arith)
