-- What norm wrote is read again: one record.
use Rattle.std.proofs.Common.{◌≡◌, ℕ, ◌≤◌, false, List, ◌++◌, length, map, refl, sym, ap, subst, arith}
use Rattle.std.specs.List.{concat}
use Rattle.std.proofs.lemmas.Bool.{le-ltb}
use Rattle.job_loop.specs.Shown.{Shown}
use Rattle.opus_packet.specs.declared.shape.Shape.{Shape}
use Rattle.opus_packet.specs.Value.{PacketValue, IsPacketValue}
use Rattle.opus_packet.specs.PacketPrefix.{AreBytes}
use Rattle.opus_packet.specs.PacketGrammar.{IsPacket, header_for}
use Rattle.opus_packet.specs.SelfGrammar.{IsSelfDelimited, self_header_bytes}
use Rattle.opus_packet.specs.Header.{header_bytes, padding_data}
use Rattle.opus_packet.specs.Tail.{max_tail}
use Rattle.opus_packet.specs.Canonical.{keep_shape}
use Rattle.opus_packet.proofs.BytesLemmas.{AreBytes-left, AreBytes-right}
use Rattle.opus_writer.proofs.KeptLemmas.{kept-is_packet, kept_self-is_packet}
use Rattle.opus_feed.specs.declared.framing.Framing.{Framing}
use Rattle.opus_feed.specs.declared.framing.Framing.TheVariants.{Whole, SelfDelimited}
use Rattle.opus_feed.specs.declared.padding.Padding.{Padding}
use Rattle.opus_feed.specs.declared.padding.Padding.TheVariants.{Drop, Keep}
use Rattle.pack_records.specs.declared.item.Item.{Item}
use Rattle.pack_records.specs.Fits.{form_of}
use Rattle.pack_records.specs.Holds.{Reads, HoldsPacket}
use Rattle.pack_records.proofs.LentLemmas.{tail-few}
use Rattle.pack_jobs.specs.Norm.{is_long}
use Rattle.pack_jobs.specs.Written.{payload_of}
use Rattle.pack_jobs.proofs.KeptBytes.{kept_of, kept_again, kept_are}
use Rattle.pack_jobs.proofs.FormBytes.{form-are}

-- bytes that are read again as they stand

pub record IsAgain (padding : Padding) (framing : Framing) (b : List ℕ) : Type 0 where
  pub value : PacketValue
  pub tail : List ℕ
  pub is_value : IsPacketValue value
  pub small : length tail ≤ max_tail
  pub again : kept_of padding tail ≡ tail
  pub bytes_are : b ≡ form_of framing value tail
  pub are : AreBytes b

pub record IsOwn (v : PacketValue) (tail : List ℕ) : Type 0 where
  pub value : IsPacketValue v
  pub frames : AreBytes (concat v.frames)
  pub padding : AreBytes tail

pub own : (framing : Framing) (v : PacketValue) (shape : Shape) (tail bytes : List ℕ) → Reads framing v shape tail bytes
    → AreBytes bytes → IsOwn v tail
own Whole v shape tail bytes is are =
    let all = subst AreBytes is.spelled are in
    let front = AreBytes-left (header_bytes (header_for v shape) ++ concat v.frames) tail all in
    record {
      value = is.value;
      frames = AreBytes-right (header_bytes (header_for v shape)) (concat v.frames) front;
      padding = AreBytes-right (header_bytes (header_for v shape) ++ concat v.frames) tail all;
    }
own SelfDelimited v shape tail bytes is are =
    let all = subst AreBytes is.spelled are in
    let front = AreBytes-left (self_header_bytes v shape ++ concat v.frames) tail all in
    record {
      value = is.value;
      frames = AreBytes-right (self_header_bytes v shape) (concat v.frames) front;
      padding = AreBytes-right (self_header_bytes v shape ++ concat v.frames) tail all;
    }

pub packet_again : (padding : Padding) (framing : Framing) (start range : ℕ) (bytes : List ℕ) (r : Shown Item)
    → HoldsPacket padding framing start range bytes r → AreBytes bytes → IsAgain padding framing r.bytes
packet_again padding framing start range bytes r holds are =
    let parts = own framing holds.value holds.shape holds.tail bytes holds.reads are in
    let tail = kept_of padding holds.tail in
    let form = form_of framing holds.value tail in
    let is : r.bytes ≡ form = ap (λ (s : Shown Item). s.bytes) holds.shows in
    record {
      value = holds.value;
      tail = tail;
      is_value = parts.value;
      small = tail-few padding holds.tail;
      again = kept_again padding holds.tail;
      bytes_are = is;
      are = subst AreBytes (sym is) (form-are framing holds.value tail parts.value parts.frames (kept_are padding holds.tail parts.padding));
    }

-- the shape that is read again

abbrev pub shape_again : {padding : Padding} {framing : Framing} {b : List ℕ} → IsAgain padding framing b → Shape
shape_again a = keep_shape (map length a.value.frames) (length a.tail)

pub reads_again : (padding : Padding) (framing : Framing) (b : List ℕ) (a : IsAgain padding framing b)
    → Reads framing a.value (shape_again a) a.tail b
reads_again padding Whole b a =
    subst (λ l. IsPacket a.value (shape_again a) a.tail l) (sym a.bytes_are) (kept-is_packet a.value a.tail a.is_value a.small)
reads_again padding SelfDelimited b a =
    subst (λ l. IsSelfDelimited a.value (shape_again a) a.tail l) (sym a.bytes_are) (kept_self-is_packet a.value a.tail a.is_value a.small)

data_again : (padding : Padding) (framing : Framing) (b : List ℕ) (a : IsAgain padding framing b)
    → length a.tail ≡ padding_data (shape_again a).pad
data_again padding Whole b a = (reads_again padding Whole b a).padding
data_again padding SelfDelimited b a = (reads_again padding SelfDelimited b a).padding

pub taken_again : (padding : Padding) (framing : Framing) (b : List ℕ) (a : IsAgain padding framing b)
    → is_long padding (shape_again a) ≡ false
taken_again Drop framing b a = refl
taken_again Keep framing b a =
    le-ltb max_tail (padding_data (shape_again a).pad) (omega (arith, data_again Keep framing b a, a.small))

pub payload_again : (padding : Padding) (framing : Framing) (start range : ℕ) (bytes : List ℕ) (r : Shown Item)
    → HoldsPacket padding framing start range bytes r → payload_of r.item.found r.bytes ≡ r.bytes
payload_again padding framing start range bytes r holds =
    ap (λ f. payload_of f r.bytes) (ap (λ (s : Shown Item). s.item.found) holds.shows)
