-- A packet's places: the numbers of a header fit its bytes, and what fits is the packet.
use Rattle.std.proofs.Common.{◌≡◌, ℕ, ◌+◌, ◌-◌, ◌*◌, ◌≤◌, List, ◌∷◌, ◌++◌, length, take, drop, sum, flat_map, refl, sym, ap, ◌∙◌, subst, append_assoc, length-append, length-take, take_at, drop_at, arith}
use Rattle.std.proofs.lemmas.List.Sums.{sum_by-le}
use Rattle.std.proofs.Math.Nat.{mul-le-mul}
use Rattle.std.specs.List.{slice_range}
use Rattle.opus_flen.specs.FrameLength.{length_bytes}
use Rattle.opus_toc.specs.Toc.{toc_byte}
use Rattle.opus_toc.specs.Configuration.{samples_of}
use Rattle.opus_packet.specs.declared.places.Places.{Places}
use Rattle.opus_packet.specs.declared.places.LensAt as declared
use Rattle.opus_packet.specs.declared.places.LensAt.TheVariants.{Equal, Spelled}
use Rattle.opus_packet.specs.declared.header.Header as declared_header
use Rattle.opus_packet.specs.declared.header.Sizes as declared_sizes
use Rattle.opus_packet.specs.declared.header.Sizes.TheVariants.{Equal as EqualSizes, Given}
use Rattle.opus_packet.specs.declared.spelled.Spelled as declared_spelled
use Rattle.opus_packet.specs.Value.{max_duration, max_frame}
use Rattle.opus_packet.specs.Spelled.{lengths_of, lengths_in, SpellsLengths}
use Rattle.opus_packet.specs.Header.{Header, Sizes, equal, given, header_bytes, body_size, count_and_padding, frame_count, given_lengths, padding_data}
use Rattle.opus_packet.specs.HeaderRead.{whole, header_read}
use Rattle.opus_packet.specs.HeaderStands.{HeaderStands, AreSized, header_value, sizes_value, value_at}
use Rattle.opus_packet.specs.PacketGrammar.{IsPacket}
use Rattle.opus_packet.specs.PacketPrefix.{AreBytes}
use Rattle.opus_packet.specs.Places.{HeaderFits, Fits, IsFrom, KeepsLens, AreSpelledAt, sizes_by, spelling_at, header_at}
use Rattle.opus_packet.proofs.HeaderLemmas.{header_read-begins, header_bytes-is}
use Rattle.opus_packet.proofs.GrammarLemmas.{found}

-- what stands at the end of a front
end_of_front : (xs ys rest : List ℕ) (at width : ℕ) → at ≡ length (xs ++ ys) → width ≡ length ys
    → slice_range ((xs ++ ys) ++ rest) (at - width) at ≡ ys
end_of_front xs ys rest at width at_is width_is =
    let total = length-append xs ys in
    let start : at - width ≡ length xs = omega arith in
    let size : at - (at - width) ≡ length ys = omega arith in
    rw (size, start) (ap (λ l. take (length ys) (drop (length xs) l)) (append_assoc xs ys rest)
    ∙ ap (λ l. take (length ys) l) (drop_at xs (ys ++ rest) (length xs) refl)
    ∙ take_at ys rest (length ys) refl)

-- the lengths stand at the header's end
pub lengths_lie : (bytes : List ℕ) → AreBytes bytes → (h : Header) → header_read bytes ≡ whole h
    → (used width : ℕ) → used ≡ length (header_bytes h)
    → width ≡ length (flat_map length_bytes (given_lengths h.sizes))
    → spelling_at width used bytes ≡ flat_map length_bytes (given_lengths h.sizes)
lengths_lie bytes are h said used width used_is width_is =
    let begins = header_read-begins bytes are h said in
    let front = toc_byte h.config h.stereo h.shape.code ∷ count_and_padding h.shape (frame_count h.sizes) in
    let spelled = flat_map length_bytes (given_lengths h.sizes) in
    let parts : header_bytes h ≡ front ++ spelled = header_bytes-is h in
    let all : bytes ≡ (front ++ spelled) ++ begins.rest = begins.spelled ∙ ap (λ l. l ++ begins.rest) parts in
    ap (λ l. slice_range l (used - width) used) all
    ∙ end_of_front front spelled begins.rest used width (used_is ∙ ap length parts) width_is

record LensLie (lens : declared.LensAt) (count used : ℕ) (bytes : List ℕ) (sizes : declared_sizes.Sizes) : Type 0 where
  sizes_are : sizes_by lens count used bytes ≡ sizes_value sizes
  spelled : AreSpelledAt lens count used bytes
  counted : count ≡ frame_count (sizes_value sizes)
  some : 1 ≤ count
  most : count ≤ 48

lens_lie : (lens : declared.LensAt) (count used : ℕ) (bytes : List ℕ) (sizes : declared_sizes.Sizes) (h : Header)
    → AreBytes bytes → KeepsLens lens count sizes → AreSized sizes → header_read bytes ≡ whole h
    → h.sizes ≡ sizes_value sizes → used ≡ length (header_bytes h) → LensLie lens count used bytes sizes
lens_lie Equal count used bytes (EqualSizes n) h are keeps sized said sizes_is used_is = record {
  sizes_are = ap equal keeps;
  spelled = tt;
  counted = keeps;
  some = omega (arith, keeps, sized.0);
  most = omega (arith, keeps, sized.1);
}
lens_lie Equal count used bytes (Given s) h are keeps sized said sizes_is used_is = absurd keeps
lens_lie (Spelled width) count used bytes (EqualSizes n) h are keeps sized said sizes_is used_is = absurd keeps
lens_lie (Spelled width) count used bytes (Given s) h are keeps sized said sizes_is used_is =
    let own : s.bytes.now ≡ flat_map length_bytes (lengths_of s) = sized.spells.own in
    let same : flat_map length_bytes (given_lengths h.sizes) ≡ s.bytes.now =
    ap (λ (z : Sizes). flat_map length_bytes (given_lengths z)) sizes_is ∙ sym own in
    let lies : spelling_at width used bytes ≡ s.bytes.now =
    lengths_lie bytes are h said used width used_is (keeps.1 ∙ sym (ap length same)) ∙ same in
    let count_is : count - 1 ≡ s.count = omega (arith, keeps.0) in
    record {
      sizes_are = ap (λ k. given (lengths_in k (spelling_at width used bytes))) count_is ∙ ap (λ l. given (lengths_in s.count l)) lies;
      spelled = (
        omega (arith, keeps.1, used_is, ap length same, length-header h),
        omega (arith, keeps.1, sized.short, count_is),
        subst (λ k. SpellsLengths k (spelling_at width used bytes)) (sym count_is) (subst (λ l. SpellsLengths s.count l) (sym lies) sized.spells),
      );
      counted = omega (arith, keeps.0, sized.spells.counted);
      some = omega (arith, keeps.0);
      most = omega (arith, keeps.0, sized.most);
    }
  where
    length-header : (g : Header) → length (flat_map length_bytes (given_lengths g.sizes)) ≤ length (header_bytes g)
    length-header g =
        let parts = ap length (header_bytes-is g) in
        omega (arith, parts, length-append (count_and_padding g.shape (frame_count g.sizes)) (flat_map length_bytes (given_lengths g.sizes)))

-- the header that the numbers tell is the one that they were taken from
pub header-value : (h : declared_header.Header) (last : ℕ) (p : Places) (bytes : List ℕ) → AreBytes bytes
    → HeaderStands h (length bytes) (header_read bytes) → IsFrom h last p → header_at p bytes ≡ header_value h
header-value h last p bytes are s from =
    let lie = lens_lie p.lens p.count p.used bytes h.sizes (header_value h) are from.lens s.sized s.said_is refl (from.used ∙ s.used_is) in
    rw (from.config, from.stereo, from.shape, lie.sizes_are) refl

-- the numbers of a header that stands first fit the bytes
pub header-fits : (h : declared_header.Header) (last : ℕ) (p : Places) (bytes : List ℕ) → AreBytes bytes
    → last ≤ max_frame → HeaderStands h (length bytes) (header_read bytes) → IsFrom h last p
    → HeaderFits p bytes
header-fits h last p bytes are fits s from =
    let lie = lens_lie p.lens p.count p.used bytes h.sizes (header_value h) are from.lens s.sized s.said_is refl (from.used ∙ s.used_is) in
    let value : header_at p bytes ≡ header_value h = rw (from.config, from.stereo, from.shape, lie.sizes_are) refl in
    record {
      said_is = s.said_is ∙ ap (λ g. whole g) (sym value);
      used_is = from.used ∙ s.used_is ∙ ap (λ g. length (header_bytes g)) (sym value);
      within = rw from.used s.within;
      small = rw from.used s.small;
      tail_is = rw (from.tail, from.shape) s.tail_is;
      tail_small = rw from.tail s.tail_small;
      code = rw (from.code, from.shape) s.code;
      some = lie.some;
      most = lie.most;
      lens = lie.spelled;
      lasts = rw (lie.counted, from.config) s.lasts;
      frame = rw from.last_is fits;
    }

-- and a packet that they fill fits whole
pub fits-from : (h : declared_header.Header) (last : ℕ) (p : Places) (bytes : List ℕ) → AreBytes bytes
    → last ≤ max_frame → HeaderStands h (length bytes) (header_read bytes) → IsFrom h last p
    → length bytes ≡ h.used + body_size (sizes_value h.sizes) last + h.tail → Fits p bytes
fits-from h last p bytes are fits s from fills =
    let lie = lens_lie p.lens p.count p.used bytes h.sizes (header_value h) are from.lens s.sized s.said_is refl (from.used ∙ s.used_is) in
    record {
      header = header-fits h last p bytes are fits s from;
      fills = rw (lie.sizes_are, from.used, from.last_is, from.tail) fills;
    }

-- what fits is the packet that stands there
pub fits-found : (p : Places) (bytes : List ℕ) (at : ℕ) → AreBytes bytes → Fits p bytes → at ≡ length bytes - p.tail
    → IsPacket (value_at (header_at p bytes) p.last bytes) p.shape (drop at bytes) bytes
fits-found p bytes at are fits at_is =
    let h = header_at p bytes in
    let size : length bytes ≡ length (header_bytes h) + body_size h.sizes p.last + padding_data h.shape.pad =
    omega (arith, fits.fills, fits.header.used_is, fits.header.tail_is) in
    let same : at ≡ length (header_bytes h) + body_size h.sizes p.last = omega (arith, size, at_is, fits.header.tail_is) in
    subst (λ k. IsPacket (value_at h p.last bytes) p.shape (drop k bytes) bytes) (sym same)
    (found bytes are h fits.header.said_is p.last fits.header.frame size)

-- the header is made again from the numbers

-- what a header made again keeps of the lengths
pub record AreMade (p : Places) (bytes : List ℕ) (body : ℕ) (sizes : declared_sizes.Sizes) : Type 0 where
  pub value : sizes_value sizes ≡ (header_at p bytes).sizes
  pub sized : AreSized sizes

pub made-equal : (p : Places) (bytes : List ℕ) (body : ℕ) → HeaderFits p bytes → p.lens ≡ Equal
    → AreMade p bytes body (EqualSizes p.count)
made-equal p bytes body fits is = record {
  value = ap (λ l. sizes_by l p.count p.used bytes) (sym is);
  sized = (fits.some, fits.most);
}

pub made-given : (p : Places) (bytes : List ℕ) (body width : ℕ) (s : declared_spelled.Spelled) → HeaderFits p bytes
    → p.lens ≡ Spelled width → body ≡ body_size (header_at p bytes).sizes p.last
    → s.bytes.now ≡ spelling_at width p.used bytes → s.count ≡ p.count - 1 → s.sum ≡ body - p.last
    → AreMade p bytes body (Given s)
made-given p bytes body width s fits is size lies count total =
    let spelled : AreSpelledAt (Spelled width) p.count p.used bytes = subst (λ l. AreSpelledAt l p.count p.used bytes) is fits.lens in
    let ns = lengths_in (p.count - 1) (spelling_at width p.used bytes) in
    let own : lengths_of s ≡ ns = ap (λ k. lengths_in k s.bytes.now) count ∙ ap (λ l. lengths_in (p.count - 1) l) lies in
    let value : given (lengths_of s) ≡ (header_at p bytes).sizes = ap given own ∙ ap (λ l. sizes_by l p.count p.used bytes) (sym is) in
    let body_is : body ≡ sum ns + p.last = size ∙ ap (λ l. body_size (sizes_by l p.count p.used bytes) p.last) is in
    let spells : SpellsLengths s.count s.bytes.now = subst (λ k. SpellsLengths k s.bytes.now) (sym count) (subst (λ l. SpellsLengths (p.count - 1) l) (sym lies) spelled.2) in
    let small : sum ns ≤ length ns * max_frame = sum_by-le (λ (x : ℕ). x) max_frame ns spelled.2.each in
    record {
      value = value;
      sized = record {
        spells = spells;
        sum_is = total ∙ omega (arith, body_is) ∙ ap sum (sym own);
        most = omega (arith, count, fits.most);
        low = omega (arith, total, body_is, small, spelled.2.counted, fits.most);
        short = omega (arith, ap length lies, spelling_short width p.used bytes, spelled.1, count);
      };
    }
  where
    spelling_short : (k used : ℕ) (bs : List ℕ) → length (spelling_at k used bs) ≤ k
    spelling_short k used bs = omega (arith, length-take (used - (used - k)) (drop (used - k) bs))

pub header-stands : (p : Places) (bytes : List ℕ) (body : ℕ) (h : declared_header.Header) → HeaderFits p bytes
    → h.toc ≡ p.toc → h.shape ≡ p.shape → h.used ≡ p.used → h.tail ≡ p.tail → AreMade p bytes body h.sizes
    → HeaderStands h (length bytes) (header_read bytes)
header-stands p bytes body h fits toc shape used tail made =
    let value : header_value h ≡ header_at p bytes = rw (toc, shape, made.value) refl in
    record {
      said_is = fits.said_is ∙ ap (λ g. whole g) (sym value);
      used_is = used ∙ fits.used_is ∙ ap (λ g. length (header_bytes g)) (sym value);
      within = rw used fits.within;
      small = rw used fits.small;
      tail_is = rw (tail, shape) fits.tail_is;
      tail_small = rw tail fits.tail_small;
      code = rw (toc, shape) fits.code;
      sized = made.sized;
      lasts = rw (made.value, toc) (lasts_at p.lens p.count p.used bytes p.toc.config fits.lens fits.some fits.lasts);
    }
  where
    lasts_at : (l : declared.LensAt) (count used : ℕ) (bs : List ℕ) (config : ℕ) → AreSpelledAt l count used bs → 1 ≤ count
        → count * samples_of config ≤ max_duration
        → frame_count (sizes_by l count used bs) * samples_of config ≤ max_duration
    lasts_at Equal count used bs config spelled some lasts = lasts
    lasts_at (Spelled width) count used bs config spelled some lasts =
        let same : length (lengths_in (count - 1) (spelling_at width used bs)) + 1 ≡ count = omega (arith, spelled.2.counted, some) in
        subst (λ k. k * samples_of config ≤ max_duration) (sym same) lasts

pub given-small : (p : Places) (bytes : List ℕ) (body width : ℕ) → HeaderFits p bytes → p.lens ≡ Spelled width
    → body ≡ body_size (header_at p bytes).sizes p.last → body - p.last ≤ 59925
given-small p bytes body width fits is size =
    let spelled : AreSpelledAt (Spelled width) p.count p.used bytes = subst (λ l. AreSpelledAt l p.count p.used bytes) is fits.lens in
    let ns = lengths_in (p.count - 1) (spelling_at width p.used bytes) in
    let body_is : body ≡ sum ns + p.last = size ∙ ap (λ l. body_size (sizes_by l p.count p.used bytes) p.last) is in
    let small : sum ns ≤ length ns * max_frame = sum_by-le (λ (x : ℕ). x) max_frame ns spelled.2.each in
    omega (arith, body_is, small, spelled.2.counted, fits.most)

-- a header that was made again has the places' shape
pub made-shape : (p : Places) (bytes : List ℕ) (h : declared_header.Header) → header_value h ≡ header_at p bytes
    → h.shape ≡ p.shape
made-shape p bytes h value = ap (λ (g : Header). g.shape) value

-- the frames of what fits
pub body-there : (p : Places) (bytes : List ℕ) → Fits p bytes
    → take (length bytes - p.tail - p.used) (drop p.used bytes)
    ≡ take (body_size (header_at p bytes).sizes p.last) (drop (length (header_bytes (header_at p bytes))) bytes)
body-there p bytes fits =
    let size : length bytes - p.tail - p.used ≡ body_size (header_at p bytes).sizes p.last = omega (arith, fits.fills) in
    ap (λ n. take n (drop p.used bytes)) size
    ∙ ap (λ n. take (body_size (header_at p bytes).sizes p.last) (drop n bytes)) fits.header.used_is

body-few : (p : Places) (bytes : List ℕ) → HeaderFits p bytes → body_size (header_at p bytes).sizes p.last ≤ 61200
body-few p bytes fits = go p.lens p.count p.used bytes fits.lens fits.some fits.most
  where
    go : (l : declared.LensAt) (count used : ℕ) (bs : List ℕ) → AreSpelledAt l count used bs → 1 ≤ count → count ≤ 48
        → body_size (sizes_by l count used bs) p.last ≤ 61200
    go Equal count used bs spelled some most = omega (arith, mul-le-mul most fits.frame)
    go (Spelled width) count used bs spelled some most =
        omega (arith, sum_by-le (λ (x : ℕ). x) max_frame (lengths_in (count - 1) (spelling_at width used bs)) spelled.2.each, spelled.2.counted, most, fits.frame)

-- what fits is not long
pub fits-size : (p : Places) (bytes : List ℕ) → Fits p bytes → length bytes ≤ 16904304
fits-size p bytes fits =
    omega (arith, fits.fills, fits.header.small, fits.header.tail_small, body-few p bytes fits.header)
