-- What bytes hold, they hold alone.
use Rattle.std.proofs.Common.{◌≡◌, ℕ, List, length, sym, ap, ◌∙◌, subst, take_all, arith, inl, inr}
use Rattle.job_loop.specs.Shown.{Shown}
use Rattle.opus_packet.specs.declared.shape.Shape.{Shape}
use Rattle.opus_packet.specs.Value.{PacketValue}
use Rattle.opus_packet.specs.SelfGrammar.{BeginsWithSelf, SpellsSelf, IsSelfDelimited}
use Rattle.opus_packet.proofs.GrammarLemmas.{IsPacket-unique}
use Rattle.opus_self.proofs.SelfLemmas.{IsSelfDelimited-unique}
use Rattle.opus_feed.specs.declared.framing.Framing.{Framing}
use Rattle.opus_feed.specs.declared.framing.Framing.TheVariants.{Whole, SelfDelimited}
use Rattle.opus_feed.specs.declared.padding.Padding.{Padding}
use Rattle.opus_feed.specs.Packets.{IsNone}
use Rattle.pack_records.specs.declared.item.Item.{Item}
use Rattle.pack_records.specs.Holds.{Reads, packet_record, HoldsPacket, Holds}

pub reads_same : (framing : Framing) (v w : PacketValue) (s u : Shape) (tail rest bytes : List ℕ)
    → Reads framing v s tail bytes → Reads framing w u rest bytes → (v ≡ w) × (s ≡ u) × (tail ≡ rest)
reads_same Whole v w s u tail rest bytes p q = IsPacket-unique v w s u tail rest bytes p q
reads_same SelfDelimited v w s u tail rest bytes p q = IsSelfDelimited-unique v w s u tail rest bytes p q

-- a packet begins with itself
pub itself_first : (v : PacketValue) (s : Shape) (tail bytes : List ℕ) → IsSelfDelimited v s tail bytes
    → BeginsWithSelf v s (length bytes) bytes
itself_first v s tail bytes p = record {
  within = omega arith;
  spelled = subst (SpellsSelf v s) (sym (take_all (length bytes) bytes (omega arith))) (tail, p);
}

pub reads_some : (framing : Framing) (v : PacketValue) (s : Shape) (tail bytes : List ℕ)
    → Reads framing v s tail bytes → IsNone framing bytes → ⊥
reads_some Whole v s tail bytes p none = none v s (tail, p)
reads_some SelfDelimited v s tail bytes p none = none v s (length bytes) (itself_first v s tail bytes p)

same_packet : (padding : Padding) (framing : Framing) (start range : ℕ) (bytes : List ℕ) (r s : Shown Item)
    → HoldsPacket padding framing start range bytes r → HoldsPacket padding framing start range bytes s → r ≡ s
same_packet padding framing start range bytes r s p q =
    let (value, shape, tail) = reads_same framing p.value q.value p.shape q.shape p.tail q.tail bytes p.reads q.reads in
    p.shows
    ∙ ap (λ v. packet_record padding framing start range v p.shape p.tail (length bytes)) value
    ∙ ap (λ u. packet_record padding framing start range q.value u p.tail (length bytes)) shape
    ∙ ap (λ t. packet_record padding framing start range q.value q.shape t (length bytes)) tail
    ∙ sym q.shows

-- the same bytes hold one record
pub holds_same : (padding : Padding) (framing : Framing) (start range : ℕ) (bytes : List ℕ) (r s : Shown Item)
    → Holds padding framing start range bytes r → Holds padding framing start range bytes s → r ≡ s
holds_same padding framing start range bytes r s (inl p) (inl q) = same_packet padding framing start range bytes r s p q
holds_same padding framing start range bytes r s (inl p) (inr q) =
    absurd (reads_some framing p.value p.shape p.tail bytes p.reads q.none)
holds_same padding framing start range bytes r s (inr p) (inl q) =
    absurd (reads_some framing q.value q.shape q.tail bytes q.reads p.none)
holds_same padding framing start range bytes r s (inr p) (inr q) = p.shows ∙ sym q.shows
