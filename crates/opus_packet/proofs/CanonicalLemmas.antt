-- The canonical form spells its value, and no other.
use Rattle.std.proofs.Common.{◌≡◌, ℕ, ◌≤◌, Bool, true, false, ◌==◌, if◌then◌else◌, List, [], ◌∷◌, ◌++◌, length, map, refl, sym, ap, ◌∙◌, subst, append-nil, eqb, eqb-true, arith}
use Rattle.std.specs.List.{AllByRecursion, concat, list_all}
use Rattle.std.proofs.lemmas.Bool.{and_parts, not-false}
use Rattle.opus_packet.specs.Value.{PacketValue, IsPacketValue}
use Rattle.opus_packet.specs.Header.{header_bytes, padding_data}
use Rattle.opus_packet.specs.HeaderRead.{shape_of}
use Rattle.opus_packet.specs.PacketGrammar.{HaveOneLength, Suits, header_for, IsPacket}
use Rattle.opus_packet.specs.Canonical.{have_one_length, canonical_shape, canonical}
use Rattle.opus_packet.proofs.GrammarLemmas.{IsPacket-unique}

pub canonical-is : (v : PacketValue)
    → canonical v ≡ header_bytes (header_for v (canonical_shape (map length v.frames))) ++ concat v.frames
unfolding canonical
canonical-is v = refl

all_same : (n : ℕ) (frames : List (List ℕ)) → list_all (λ m. m == n) (map length frames) ≡ true
    → AllByRecursion (λ frame. length frame ≡ n) frames
all_same n [] same = tt
all_same n (f ∷ fs) same =
    let both = and_parts (eqb (length f) n) (list_all (λ m. m == n) (map length fs)) same in
    (eqb-true (length f) n both.0, all_same n fs both.1)

pub one_length : (f : List ℕ) (fs : List (List ℕ)) → have_one_length (map length (f ∷ fs)) ≡ true
    → HaveOneLength (f ∷ fs)
one_length f fs same = (length f, (refl, all_same (length f) fs same))

two_frames : (f g : List ℕ) (b : Bool) → (length g == length f) ≡ b
    → Suits (if b then shape_of 1 false 0 else shape_of 2 false 0) (f ∷ g ∷ [])
two_frames f g true same = (refl, refl, refl, (length f, (refl, (eqb-true (length g) (length f) same, tt))))
two_frames f g false other = (refl, refl, refl)

pub canonical_suits : (frames : List (List ℕ)) → 1 ≤ length frames
    → Suits (canonical_shape (map length frames)) frames
canonical_suits [] some = absurd (omega arith)
canonical_suits (f ∷ []) some = (refl, refl, refl)
canonical_suits (f ∷ g ∷ []) some = two_frames f g (length g == length f) refl
canonical_suits (f ∷ g ∷ k ∷ fs) some = (
  omega arith,
  λ plain. one_length f (g ∷ k ∷ fs) (not-false (have_one_length (map length (f ∷ g ∷ k ∷ fs))) plain),
)

-- nothing is padded
plain_two : (b : Bool) → (if b then shape_of 1 false 0 else shape_of 2 false 0).pad ≡ 0
plain_two true = refl
plain_two false = refl

pub canonical_shape-pad : (lengths : List ℕ) → (canonical_shape lengths).pad ≡ 0
canonical_shape-pad [] = refl
canonical_shape-pad (n ∷ []) = refl
canonical_shape-pad (n ∷ m ∷ []) = plain_two (m == n)
canonical_shape-pad (n ∷ m ∷ k ∷ ns) = refl

pub canonical-is_packet : (v : PacketValue) → IsPacketValue v
    → IsPacket v (canonical_shape (map length v.frames)) [] (canonical v)
canonical-is_packet v is =
    let shape = canonical_shape (map length v.frames) in
    record {
      value = is;
      suits = canonical_suits v.frames is.some;
      padding = sym (ap padding_data (canonical_shape-pad (map length v.frames)));
      spelled = canonical-is v ∙ sym (append-nil (header_bytes (header_for v shape) ++ concat v.frames));
    }

pub canonical-unique : (v w : PacketValue) → IsPacketValue v → IsPacketValue w
    → canonical v ≡ canonical w → v ≡ w
canonical-unique v w p q e =
    let own = canonical-is_packet v p in
    let other : IsPacket w (canonical_shape (map length w.frames)) [] (canonical v) =
    subst (IsPacket w (canonical_shape (map length w.frames)) []) (sym e) (canonical-is_packet w q) in
    (IsPacket-unique v w (canonical_shape (map length v.frames)) (canonical_shape (map length w.frames))
    [] [] (canonical v) own other).0
