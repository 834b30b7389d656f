-- A self-delimited packet's places: what was read fits the packet's own bytes, and what fits is the packet.
use Rattle.std.proofs.Common.{◌≡◌, ℕ, ◌+◌, ◌-◌, ◌≤◌, List, ◌++◌, length, take, drop, refl, sym, ap, ◌∙◌, subst, append_assoc, length-append, length-take-le, drop_at, drop-drop, length-drop, arith}
use Rattle.std.proofs.Math.Seq.{take-append-add}
use Rattle.opus_flen.specs.FrameLength.{length_bytes, length_read}
use Rattle.opus_flen.specs.declared.frame_length.LenRead.TheVariants.{Len}
use Rattle.opus_packet.specs.declared.header.Header as declared_header
use Rattle.opus_packet.specs.Value.{max_frame}
use Rattle.opus_packet.specs.Header.{Header, header_bytes, body_size, padding_data}
use Rattle.opus_packet.specs.HeaderRead.{header_read}
use Rattle.opus_packet.specs.HeaderStands.{HeaderStands, header_value, sizes_value, value_with}
use Rattle.opus_packet.specs.PacketPrefix.{AreBytes}
use Rattle.opus_packet.specs.Places.{IsFrom, header_at}
use Rattle.opus_packet.specs.SelfGrammar.{IsSelfDelimited}
use Rattle.opus_packet.specs.SelfPrefix.{sized, self_header_read, self_size}
use Rattle.opus_packet.proofs.BytesLemmas.{AreBytes-take, AreBytes-append, AreBytes-left, AreBytes-drop}
use Rattle.opus_packet.proofs.PrefixLemmas.{header_read-take}
use Rattle.opus_packet.proofs.PlacesLemmas.{header-fits, header-value}
use Rattle.opus_self.specs.declared.places.SelfPlaces.{SelfPlaces}
use Rattle.opus_self.specs.SelfFits.{SelfFits}
use Rattle.opus_self.proofs.ReadSelf.{reads_last}
use Rattle.opus_self.proofs.SelfLemmas.{self_header_read-spelled, found_whole}
use Rattle.opus_self.proofs.SelfPrefixLemmas.{self_header_read-begins}

-- header and last length are read so from any front that has them
pub read-front : (bytes : List ℕ) → AreBytes bytes → (h : Header) (n size : ℕ) → self_header_read bytes ≡ sized h n
    → length (header_bytes h) + length (length_bytes n) ≤ size → self_header_read (take size bytes) ≡ sized h n
read-front bytes are h n size read past =
    let begins = self_header_read-begins bytes are h n read in
    let front = header_bytes h ++ length_bytes n in
    let long = length-append (header_bytes h) (length_bytes n) in
    let all : bytes ≡ front ++ begins.rest = begins.spelled ∙ sym (append_assoc (header_bytes h) (length_bytes n) begins.rest) in
    let up_to : size ≡ length front + (size - length front) = omega (arith, long, past) in
    ap self_header_read
    (ap (λ l. take size l) all ∙ ap (λ k. take k (front ++ begins.rest)) up_to
    ∙ take-append-add front begins.rest (size - length front)
    ∙ append_assoc (header_bytes h) (length_bytes n) (take (size - length front) begins.rest))
    ∙ self_header_read-spelled h begins.is_header n (take (size - length front) begins.rest)

stands-front : (h : declared_header.Header) (bytes : List ℕ) (size : ℕ) → AreBytes bytes
    → HeaderStands h (length bytes) (header_read bytes) → h.used ≤ size → size ≤ length bytes
    → HeaderStands h (length (take size bytes)) (header_read (take size bytes))
stands-front h bytes size are s past within =
    let short = length-take-le size bytes within in
    record {
      said_is = header_read-take bytes are (header_value h) s.said_is size (omega (arith, s.used_is, past));
      used_is = s.used_is;
      within = omega (arith, short, past);
      small = s.small;
      tail_is = s.tail_is;
      tail_small = s.tail_small;
      code = s.code;
      sized = s.sized;
      lasts = s.lasts;
    }

pub self-fits-from : (h : declared_header.Header) (last width : ℕ) (p : SelfPlaces) (bytes : List ℕ)
    → AreBytes bytes → last ≤ max_frame → HeaderStands h (length bytes) (header_read bytes) → IsFrom h last p.places
    → length_read (drop h.used bytes) ≡ Len last width → width ≡ length (length_bytes last)
    → p.size ≡ h.used + width + body_size (sizes_value h.sizes) last + h.tail → p.size ≤ length bytes
    → SelfFits p (take p.size bytes)
self-fits-from h last width p bytes are fits s from read width_is size within =
    let own = take p.size bytes in
    let there = stands-front h bytes p.size are s (omega (arith, size)) within in
    let fit = header-fits h last p.places own (AreBytes-take p.size bytes are) fits there from in
    let value : header_at p.places own ≡ header_value h = header-value h last p.places own (AreBytes-take p.size bytes are) there from in
    let said = reads_last (header_value h) bytes h.used (Len last width) s.said_is s.used_is read in
    let front = read-front bytes are (header_value h) last p.size said (omega (arith, size, s.used_is, width_is)) in
    let long = length-take-le p.size bytes within in
    record {
      header = fit;
      read = front ∙ ap (λ g. sized g last) (sym value) ∙ ap (λ n. sized (header_at p.places own) n) (sym from.last_is);
      size_is = sym long;
      fills = long ∙ size ∙ omega (arith, s.used_is, width_is, s.tail_is)
          ∙ ap (λ g. self_size g last) (sym value) ∙ ap (λ n. self_size (header_at p.places own) n) (sym from.last_is);
    }

-- what fits falls into header and last length, frames, and padding bytes
pub record FallsApart (p : SelfPlaces) (bytes : List ℕ) (front end : ℕ) : Type 0 where
  pub found : IsSelfDelimited (value_with (header_at p.places bytes) p.places.last (take (end - front) (drop front bytes)))
      p.places.shape (drop end bytes) bytes
  pub body_is : length (take (end - front) (drop front bytes)) ≡ body_size (header_at p.places bytes).sizes p.places.last
  pub tail_is : length (drop end bytes) ≡ padding_data p.places.shape.pad
  pub within : front ≤ end
  pub short : end ≤ length bytes

pub falls-apart : (p : SelfPlaces) (bytes : List ℕ) (front end : ℕ) → AreBytes bytes → SelfFits p bytes
    → front ≡ p.places.used + length (length_bytes p.places.last) → end ≡ length bytes - p.places.tail
    → FallsApart p bytes front end
falls-apart p bytes front end are fits front_is end_is =
    let h = header_at p.places bytes in
    let n = p.places.last in
    let begins = self_header_read-begins bytes are h n fits.read in
    let first = header_bytes h ++ length_bytes n in
    let long = length-append (header_bytes h) (length_bytes n) in
    let all : bytes ≡ first ++ begins.rest = begins.spelled ∙ sym (append_assoc (header_bytes h) (length_bytes n) begins.rest) in
    let total = length-append first begins.rest in
    let at : front ≡ length first = omega (arith, front_is, fits.header.used_is, long) in
    let size : length begins.rest ≡ body_size h.sizes n + padding_data h.shape.pad = omega (arith, ap length all, total, fits.fills, long) in
    let behind : drop front bytes ≡ begins.rest = ap (λ k. drop k bytes) at ∙ ap (λ l. drop (length first) l) all ∙ drop_at first begins.rest (length first) refl in
    let body : end - front ≡ body_size h.sizes n = omega (arith, end_is, at, long, fits.fills, fits.header.tail_is) in
    let stop : end ≡ front + body_size h.sizes n = omega (arith, body, end_is, at, long, fits.fills, fits.header.tail_is) in
    let rest : drop end bytes ≡ drop (body_size h.sizes n) begins.rest = ap (λ k. drop k bytes) stop ∙ sym (drop-drop (body_size h.sizes n) front bytes) ∙ ap (λ l. drop (body_size h.sizes n) l) behind in
    let frames : take (body_size h.sizes n) begins.rest ≡ take (end - front) (drop front bytes) = ap (λ k. take k begins.rest) (sym body) ∙ ap (λ l. take (end - front) l) (sym behind) in
    let parts : AreBytes (header_bytes h ++ begins.rest) = AreBytes-append (header_bytes h) begins.rest (AreBytes-left (header_bytes h) (length_bytes n ++ begins.rest) (subst AreBytes begins.spelled are)) (subst AreBytes behind (AreBytes-drop front bytes are)) in
    let whole = found_whole h begins.is_header n begins.fits begins.rest parts size in
    record {
      found = subst (λ l. IsSelfDelimited (value_with h n (take (end - front) (drop front bytes))) h.shape (drop end bytes) l) (sym begins.spelled)
          (subst (λ q. IsSelfDelimited (value_with h n (take (end - front) (drop front bytes))) h.shape q (header_bytes h ++ (length_bytes n ++ begins.rest))) (sym rest)
          (subst (λ l. IsSelfDelimited (value_with h n l) h.shape (drop (body_size h.sizes n) begins.rest) (header_bytes h ++ (length_bytes n ++ begins.rest))) frames whole));
      body_is = ap length (sym frames) ∙ length-take-le (body_size h.sizes n) begins.rest (omega (arith, size));
      tail_is = ap length rest ∙ length-drop (body_size h.sizes n) begins.rest ∙ omega (arith, size);
      within = omega (arith, stop);
      short = omega (arith, end_is);
    }
