-- A packet that is spelled in its kept form is shown where it lies.
use Rattle.std.proofs.Common.{◌≡◌, ℕ, ◌+◌, ◌≤◌, Bool, true, false, nat_le, if◌then◌else◌, List, [], ◌∷◌, ◌++◌, length, drop, map, refl, sym, ap, ◌∙◌, subst, leb-true, arith}
use Rattle.std.specs.List.{concat}
use Rattle.opus_packet.specs.declared.shape.Shape.{Shape}
use Rattle.opus_packet.specs.Value.{PacketValue, IsPacketValue}
use Rattle.opus_packet.specs.Header.{header_bytes}
use Rattle.opus_packet.specs.Tail.{max_tail, kept, counted, kept_bytes}
use Rattle.opus_packet.specs.PacketGrammar.{header_for}
use Rattle.opus_packet.specs.SelfGrammar.{self_header_bytes}
use Rattle.opus_packet.specs.Canonical.{keep_shape}
use Rattle.opus_packet.specs.Read.{PacketRead}
use Rattle.opus_packet.proofs.SpellingLemmas.{kept_form-is}
use Rattle.opus_writer.proofs.FormLemmas.{kept_self-is}
use Rattle.opus_feed.specs.declared.framing.Framing.{Framing}
use Rattle.opus_feed.specs.declared.framing.Framing.TheVariants.{Whole, SelfDelimited}
use Rattle.opus_feed.specs.declared.padding.Padding.{Padding}
use Rattle.opus_feed.specs.declared.padding.Padding.TheVariants.{Drop, Keep}
use Rattle.opus_feed.specs.Tails.{tail_kept}
use Rattle.pack_records.specs.declared.item.Found.TheVariants.{Packet}
use Rattle.pack_records.specs.declared.pieces.Pieces.{Pieces}
use Rattle.pack_records.specs.Fits.{form_of, ItemFits}
use Rattle.pack_records.specs.Forms.{IsFormOf}
use Rattle.pack_records.specs.Holds.{Reads, record_of, HoldsPacket}
use Rattle.pack_records.specs.Pieces.{lent_bytes, shown_by, item_of, IsReady}

-- padding bytes that are all kept are few enough
kept_small : (padding : Padding) (tail : List ℕ) → kept_bytes (tail_kept padding tail) ≡ tail → length tail ≤ max_tail
kept_small Drop [] same = omega arith
kept_small Drop (x ∷ xs) same = let none : 0 ≡ length (x ∷ xs) = ap length same in absurd (omega arith)
kept_small Keep tail same = go (nat_le (length tail) max_tail) refl same
  where
    go : (b : Bool) → nat_le (length tail) max_tail ≡ b
        → kept_bytes (if b then kept tail else counted (length tail)) ≡ tail → length tail ≤ max_tail
    go true few all = leb-true (length tail) max_tail few
    go false many none = let empty : 0 ≡ length tail = ap length none in omega arith

pub value_of : (framing : Framing) (v : PacketValue) (s : Shape) (tail bytes : List ℕ) → Reads framing v s tail bytes
    → IsPacketValue v
value_of Whole v s tail bytes reads = reads.value
value_of SelfDelimited v s tail bytes reads = reads.value

-- the bytes are the form
form_is : (framing : Framing) (v : PacketValue) (s : Shape) (tail bytes : List ℕ) → Reads framing v s tail bytes
    → s ≡ keep_shape (map length v.frames) (length tail) → bytes ≡ form_of framing v tail
form_is Whole v s tail bytes reads shape =
    reads.spelled ∙ ap (λ t. header_bytes (header_for v t) ++ concat v.frames ++ tail) shape
    ∙ sym (kept_form-is v tail)
form_is SelfDelimited v s tail bytes reads shape =
    reads.spelled ∙ ap (λ t. self_header_bytes v t ++ concat v.frames ++ tail) shape
    ∙ sym (kept_self-is v tail)

pub lent_here : (p : Pieces) (own : List ℕ) → p.lies ≡ true → lent_bytes p own ≡ drop p.before own
lent_here p own lies = ap (λ b. if b then drop p.before own else p.kept.items) lies

pub holds_here : (padding : Padding) (framing : Framing) (start range : ℕ) (bytes : List ℕ) (p : Pieces)
    (own : List ℕ) (packet : PacketRead) (tail : List ℕ) → Reads framing packet.value packet.shape tail bytes
    → IsFormOf padding packet tail → packet.size ≡ length bytes → lent_bytes p own ≡ bytes
    → p.item ≡ item_of start (start + packet.size) range (Packet framing packet.shape packet.size)
    → HoldsPacket padding framing start range bytes (shown_by p own)
holds_here padding framing start range bytes p own packet tail reads form size lies item = record {
  value = packet.value;
  shape = packet.shape;
  tail = tail;
  reads = reads;
  shows = ap (λ i. record { item = i; bytes = lent_bytes p own }) item
      ∙ ap (λ n. record_of start (start + n) range (Packet framing packet.shape n) (lent_bytes p own)) size
      ∙ ap (λ l. record_of start (start + length bytes) range (Packet framing packet.shape (length bytes)) l)
      (lies ∙ form_is framing packet.value packet.shape tail bytes reads form.shape
      ∙ ap (form_of framing packet.value) (sym form.kept));
}

pub ready_here : (padding : Padding) (framing : Framing) (start range : ℕ) (bytes : List ℕ) (p : Pieces)
    (own : List ℕ) (packet : PacketRead) (tail : List ℕ) → Reads framing packet.value packet.shape tail bytes
    → IsFormOf padding packet tail → lent_bytes p own ≡ bytes
    → p.item ≡ item_of start (start + packet.size) range (Packet framing packet.shape packet.size)
    → p.before ≤ length own → IsReady p own
ready_here padding framing start range bytes p own packet tail reads form lies item within = record {
  within = λ here. within;
  fits = subst (λ i. ItemFits i (lent_bytes p own)) (sym item) (record {
    value = packet.value;
    tail = tail;
    is_value = value_of framing packet.value packet.shape tail bytes reads;
    small = kept_small padding tail form.kept;
    bytes_are = lies ∙ form_is framing packet.value packet.shape tail bytes reads form.shape;
  });
}
