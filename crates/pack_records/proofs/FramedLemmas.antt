-- The machine of self-delimited packets one after another.
use Rattle.std.proofs.Common.{◌≡◌, ℕ, ◌+◌, ◌≤◌, Bool, true, false, List, [], ◌∷◌, ◌++◌, length, min, None, inr, refl, sym, ap, ◌∙◌, subst, append-nil, length-append, arith}
use Rattle.std.specs.List.{concat}
use Rattle.job_loop.specs.Shown.{Shown}
use Rattle.job_loop.specs.Forms.{HasFed}
use Rattle.opus_packet.specs.PacketPrefix.{AreBytes}
use Rattle.opus_packet.proofs.BytesLemmas.{AreBytes-append, AreBytes-right}
use Rattle.opus_feed.specs.declared.framing.Framing.TheVariants.{SelfDelimited}
use Rattle.opus_feed.specs.Packets.{fault_of}
use Rattle.pack_records.specs.declared.self_form.Mode.{Mode}
use Rattle.pack_records.specs.declared.self_form.Mode.TheVariants.{Fresh, Within, Over}
use Rattle.pack_records.specs.declared.item.Item.{Item}
use Rattle.pack_records.specs.declared.pieces.Pieces.{Pieces}
use Rattle.pack_records.specs.Early.{IsEarly}
use Rattle.pack_records.specs.EarlyLaws.{early_none}
use Rattle.pack_records.specs.Framed.{Framed, end_records, SelfEnds, SelfStands, HasRead}
use Rattle.pack_records.specs.FramedLaws.{end_tells}
use Rattle.pack_records.specs.Holds.{Holds}
use Rattle.pack_records.specs.HoldsLaws.{holds_same}
use Rattle.pack_records.specs.Pieces.{PieceStands, shown_by}
use Rattle.pack_records.specs.Settled.{early_records}
use Rattle.pack_records.proofs.ShowsLemmas.{early, none_first, nil_early, open_is, open_nil, shows_last, longer, framed_packet, rest_shows, framed_rest, framed_end}
use Rattle.pack_records.specs.SettledLaws.{fault_record, early_one, early_longer, early_same}

-- nothing came
pub self_none : (p : Pieces) → SelfStands Fresh p 0 [] []
self_none p = record {
  rest = [];
  framed = record { are_bytes = tt; packets = []; parts = refl; none = none_first; shows = sym (nil_early 0) };
  at = refl;
}

-- bytes of one packet came
pub self_fed : (mode : Mode) (whole : Bool) (q : Pieces) (now start : ℕ) (h rest own : List ℕ)
    (rs : List (Shown Item)) (at : ℕ) → q.framing ≡ SelfDelimited
    → Framed q.padding (early_records SelfDelimited) h rs rest → early start rest ≡ []
    → start + length rest ≡ length h → 1 ≤ length own → AreBytes own → at ≡ length h + length own
    → HasRead mode q now start (rest ++ own) own whole
    → HasFed (SelfStands mode q now) (λ (r : Shown Item). r.item.place) (shown_by q own) whole h rs own at
self_fed Fresh true q now start h rest own rs at is f none size some are place read =
    let ends : start + length (rest ++ own) ≡ at = omega (arith, size, place, length-append rest own) in (
      record {
        rest = [];
        framed = framed_packet q.padding h rest own rs (shown_by q own) start f none size are read;
        at = refl;
      },
      ap (λ (r : Shown Item). r.item.place) read.shows ∙ ends,
    )
self_fed Fresh false q now start h rest own rs at is f none size some are place read = absurd read
self_fed Within true q now start h rest own rs at is f none size some are place read = absurd read
self_fed Within false q now start h rest own rs at is f none size some are place read =
    let n = open_is q.framing (rest ++ own) is read.0.open_is in
    let shut = sym (open_nil q start (rest ++ own) is read.0) in
    record {
      rest = rest ++ own;
      framed = subst (λ l. Framed q.padding (early_records SelfDelimited) (h ++ own) l (rest ++ own)) (append-nil rs)
          (framed_rest q.padding h rest own rs [] start f none size are n.1 shut);
      at = (
        read.0,
        omega (arith, some, length-append rest own),
        omega (arith, read.1, size, length-append rest own, length-append h own),
      );
    }
self_fed Over true q now start h rest own rs at is f none size some are place read =
    let decided : IsEarly SelfDelimited (rest ++ own) = omega (arith, read.0) in
    let ends : start + min ((fault_of SelfDelimited (rest ++ own)).place + 1) (length (rest ++ own)) ≡ at =
    omega (arith, read.0, size, place, length-append rest own) in (
      record {
        rest = rest ++ own;
        framed = framed_rest q.padding h rest own rs (shown_by q own ∷ []) start f none size are read.1.none
            (ap (λ r. r ∷ []) read.1.shows ∙ sym (early_one SelfDelimited start (rest ++ own) decided));
        at = decided;
      },
      ap (λ (r : Shown Item). r.item.place) read.1.shows ∙ ends,
    )
self_fed Over false q now start h rest own rs at is f none size some are place read = absurd read

-- at the first byte of a packet
pub fresh_fed : (mode : Mode) (whole : Bool) (p q : Pieces) (before now at : ℕ) (h own : List ℕ)
    (rs : List (Shown Item)) (next : ℕ) → q.framing ≡ SelfDelimited → q.padding ≡ p.padding
    → SelfStands Fresh p before h rs → length h ≡ at → 1 ≤ length own → AreBytes own → next ≡ at + length own
    → HasRead mode q now at own own whole
    → HasFed (SelfStands mode q now) (λ (r : Shown Item). r.item.place) (shown_by q own) whole h rs own next
fresh_fed mode whole p q before now at h own rs next is same s size some are place read =
    self_fed mode whole q now at h [] own rs next is
    (subst (λ d. Framed d (early_records SelfDelimited) h rs []) (sym same)
    (subst (λ l. Framed p.padding (early_records SelfDelimited) h rs l) s.at s.framed)) (nil_early at)
    (omega (arith, size)) some are (omega (arith, size, place)) read

-- within one
pub within_fed : (mode : Mode) (whole : Bool) (p q : Pieces) (start now at : ℕ) (h own : List ℕ)
    (rs : List (Shown Item)) (next : ℕ) → p.framing ≡ SelfDelimited → q.framing ≡ SelfDelimited
    → q.padding ≡ p.padding → SelfStands Within p start h rs → length h ≡ at → 1 ≤ length own → AreBytes own
    → next ≡ at + length own
    → ((rest : List ℕ) → PieceStands p rest → start + length rest ≡ at
    → HasRead mode q now start (rest ++ own) own whole)
    → HasFed (SelfStands mode q now) (λ (r : Shown Item). r.item.place) (shown_by q own) whole h rs own next
within_fed mode whole p q start now at h own rs next is is' same s size some are place read =
    self_fed mode whole q now start h s.rest own rs next is'
    (subst (λ d. Framed d (early_records SelfDelimited) h rs s.rest) (sym same) s.framed)
    (open_nil p start s.rest is s.at.0) s.at.2 some are (omega (arith, size, place))
    (read s.rest s.at.0 (s.at.2 ∙ size))

-- what comes behind a fault is passed over
pub self_over : (p : Pieces) (start : ℕ) (h own : List ℕ) (rs : List (Shown Item)) → SelfStands Over p start h rs
    → AreBytes own → SelfStands Over p start (h ++ own) rs
self_over p start h own rs s are =
    let f = s.framed in
    let rest = s.rest in
    let all = rest ++ own in
    let are_rest = AreBytes-right (concat f.packets) rest (subst AreBytes f.parts f.are_bytes) in
    let more = early_longer SelfDelimited rest own are_rest s.at in
    record {
      rest = all;
      framed = record {
        are_bytes = AreBytes-append h own f.are_bytes are;
        packets = f.packets;
        parts = longer h rest own f.packets f.parts;
        none = early_none SelfDelimited all (AreBytes-append rest own are_rest are) more;
        shows = shows_last p.padding (early_records SelfDelimited) (early_records SelfDelimited) 0 f.packets rest all rs
            f.shows (early_one SelfDelimited (0 + length (concat f.packets)) rest s.at
            ∙ ap (λ r. r ∷ []) (sym (early_same SelfDelimited (0 + length (concat f.packets)) rest own are_rest s.at))
            ∙ sym (early_one SelfDelimited (0 + length (concat f.packets)) all more));
      };
      at = more;
    }

-- the end of the input

pub fresh_ends : (p : Pieces) (start : ℕ) (h : List ℕ) (rs : List (Shown Item)) → SelfStands Fresh p start h rs
    → SelfEnds p.padding h rs None
fresh_ends p start h rs s =
    framed_end p.padding h s.rest rs s.framed
    (λ n. subst (λ l. early n l ≡ end_records n l) (sym s.at) (nil_early n))

pub over_ends : (p : Pieces) (start : ℕ) (h : List ℕ) (rs : List (Shown Item)) → SelfStands Over p start h rs
    → SelfEnds p.padding h rs None
over_ends p start h rs s =
    framed_end p.padding h s.rest rs s.framed
    (λ n. early_one SelfDelimited n s.rest s.at ∙ sym (end_tells n s.rest s.at))

end_one : (start : ℕ) (rest : List ℕ) → 1 ≤ length rest
    → end_records start rest ≡ fault_record SelfDelimited start rest ∷ []
end_one start [] some = absurd (omega (arith, some))
end_one start (x ∷ xs) some = refl

pub within_ends : (p : Pieces) (start : ℕ) (h : List ℕ) (rs : List (Shown Item)) (r : Shown Item)
    → p.framing ≡ SelfDelimited → SelfStands Within p start h rs
    → ((rest : List ℕ) → PieceStands p rest → start + length rest ≡ length h
    → Holds p.padding SelfDelimited start 0 rest r)
    → SelfEnds p.padding h (rs ++ r ∷ []) None
within_ends p start h rs r is s holds =
    let f = s.framed in
    let bad : r ≡ fault_record SelfDelimited start s.rest =
    holds_same p.padding SelfDelimited start 0 s.rest r (fault_record SelfDelimited start s.rest)
    (holds s.rest s.at.0 s.at.2) (inr (record { none = f.none; shows = refl })) in (
      s.rest,
      record {
        are_bytes = f.are_bytes;
        packets = f.packets;
        parts = f.parts;
        none = f.none;
        shows = rest_shows p.padding end_records h s.rest s.rest rs (r ∷ []) start f
            (open_nil p start s.rest is s.at.0) s.at.2
            (ap (λ r. r ∷ []) bad ∙ sym (end_one start s.rest s.at.1));
      },
      refl,
    )
