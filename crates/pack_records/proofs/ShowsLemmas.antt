-- The records of packets one after another and of a rest.
use Rattle.std.proofs.Common.{◌≡◌, ℕ, ◌+◌, List, [], ◌∷◌, ◌++◌, length, None, refl, sym, ap, ◌∙◌, subst, append_assoc, append-nil, length-append, arith}
use Rattle.std.proofs.lemmas.List.Folds.{concat-append}
use Rattle.std.specs.List.{concat}
use Rattle.job_loop.specs.Shown.{Shown}
use Rattle.opus_flen.proofs.LengthLemmas.{length-length_bytes}
use Rattle.opus_packet.specs.PacketPrefix.{AreBytes}
use Rattle.opus_packet.specs.SelfPrefix.{IsSelfDelimitedPrefix}
use Rattle.opus_packet.proofs.BytesLemmas.{AreBytes-append}
use Rattle.opus_self.proofs.SelfLemmas.{last_of, begins_only}
use Rattle.opus_self.proofs.SelfPrefixLemmas.{self_delimited_fault-whole}
use Rattle.opus_feed.specs.declared.framing.Framing.{Framing}
use Rattle.opus_feed.specs.declared.framing.Framing.TheVariants.{SelfDelimited}
use Rattle.opus_feed.specs.declared.padding.Padding.{Padding}
use Rattle.opus_feed.specs.declared.step.Step.TheVariants.{More as MoreStep}
use Rattle.opus_feed.specs.Answers.{Answers}
use Rattle.opus_feed.specs.Packets.{IsNone}
use Rattle.pack_records.specs.declared.item.Item.{Item}
use Rattle.pack_records.specs.declared.pieces.Pieces.{Pieces}
use Rattle.pack_records.specs.Framed.{Shows, Framed, end_records, SelfEnds}
use Rattle.pack_records.specs.Holds.{HoldsPacket}
use Rattle.pack_records.specs.Pieces.{PieceStands}
use Rattle.pack_records.specs.Settled.{early_records}
use Rattle.pack_records.specs.SettledLaws.{early_nil}

abbrev pub early : ℕ → List ℕ → List (Shown Item)
early start rest = early_records SelfDelimited start rest

-- no packet has no bytes
pub none_first : IsNone SelfDelimited []
none_first v s used b =
    let at = begins_only v s used [] b in
    absurd (omega (arith, b.within, at.used_is, (length-length_bytes (last_of v)).0))

pub nil_early : (start : ℕ) → early start [] ≡ []
nil_early start = early_nil SelfDelimited start [] (omega arith)

-- bytes of a packet that isn't whole
pub open_is : (framing : Framing) (h : List ℕ) → framing ≡ SelfDelimited → Answers framing h MoreStep
    → IsSelfDelimitedPrefix h × IsNone SelfDelimited h
open_is framing h is can = subst (λ f. Answers f h MoreStep) is can

pub open_nil : (p : Pieces) (start : ℕ) (h : List ℕ) → p.framing ≡ SelfDelimited → PieceStands p h → early start h ≡ []
open_nil p start h is s =
    let place = self_delimited_fault-whole h (open_is p.framing h is s.open_is).0 in
    early_nil SelfDelimited start h (omega (arith, place))

-- the rest is another one, with the same records
pub shows_last : (padding : Padding) (last other : ℕ → List ℕ → List (Shown Item)) (start : ℕ) (ps : List (List ℕ))
    (rest next : List ℕ) (rs : List (Shown Item)) → Shows padding last start ps rest rs
    → last (start + length (concat ps)) rest ≡ other (start + length (concat ps)) next
    → Shows padding other start ps next rs
shows_last padding last other start [] rest next rs a is =
    let place : start + 0 ≡ start = omega arith in
    a ∙ subst (λ n. last n rest ≡ other n next) place is
shows_last padding last other start (p ∷ ps) rest next [] a is = absurd a
shows_last padding last other start (p ∷ ps) rest next (r ∷ rs) a is =
    let place : start + length (p ++ concat ps) ≡ start + length p + length (concat ps) =
    omega (arith, length-append p (concat ps)) in (
      a.0,
      shows_last padding last other (start + length p) ps rest next rs a.1
          (subst (λ n. last n rest ≡ other n next) place is),
    )

-- the rest had no record, and packets and records follow
shows_then : (padding : Padding) (last other : ℕ → List ℕ → List (Shown Item)) (start : ℕ) (ps qs : List (List ℕ))
    (rest next : List ℕ) (rs ss : List (Shown Item)) → Shows padding last start ps rest rs
    → last (start + length (concat ps)) rest ≡ [] → Shows padding other (start + length (concat ps)) qs next ss
    → Shows padding other start (ps ++ qs) next (rs ++ ss)
shows_then padding last other start [] qs rest next rs ss a none b =
    let place : start + 0 ≡ start = omega arith in
    subst (λ l. Shows padding other start qs next (l ++ ss))
    (sym (a ∙ subst (λ n. last n rest ≡ []) place none)) (subst (λ n. Shows padding other n qs next ss) place b)
shows_then padding last other start (p ∷ ps) qs rest next [] ss a none b = absurd a
shows_then padding last other start (p ∷ ps) qs rest next (r ∷ rs) ss a none b =
    let place : start + length (p ++ concat ps) ≡ start + length p + length (concat ps) =
    omega (arith, length-append p (concat ps)) in (
      a.0,
      shows_then padding last other (start + length p) ps qs rest next rs ss a.1
          (subst (λ n. last n rest ≡ []) place none) (subst (λ n. Shows padding other n qs next ss) place b),
    )

-- the rest begins at `start`
rest_at : (h rest : List ℕ) (start : ℕ) (ps : List (List ℕ)) → h ≡ concat ps ++ rest
    → start + length rest ≡ length h → 0 + length (concat ps) ≡ start
rest_at h rest start ps parts size =
    omega (arith, size, ap (λ (l : List ℕ). length l) parts, length-append (concat ps) rest)

pub longer : (h rest own : List ℕ) (ps : List (List ℕ)) → h ≡ concat ps ++ rest → h ++ own ≡ concat ps ++ (rest ++ own)
longer h rest own ps parts = ap (λ l. l ++ own) parts ∙ append_assoc (concat ps) rest own

-- a packet is whole
pub framed_packet : (padding : Padding) (h rest own : List ℕ) (rs : List (Shown Item)) (r : Shown Item) (start : ℕ)
    → Framed padding (early_records SelfDelimited) h rs rest → early start rest ≡ []
    → start + length rest ≡ length h → AreBytes own → HoldsPacket padding SelfDelimited start 0 (rest ++ own) r
    → Framed padding (early_records SelfDelimited) (h ++ own) (rs ++ r ∷ []) []
framed_packet padding h rest own rs r start f none size are holds =
    let p = rest ++ own in
    let place = sym (rest_at h rest start f.packets f.parts size) in
    record {
      are_bytes = AreBytes-append h own f.are_bytes are;
      packets = f.packets ++ p ∷ [];
      parts = longer h rest own f.packets f.parts ∙ ap (λ l. concat f.packets ++ l) (sym (append-nil p))
          ∙ sym (concat-append f.packets (p ∷ [])) ∙ sym (append-nil (concat (f.packets ++ p ∷ [])));
      none = none_first;
      shows = shows_then padding (early_records SelfDelimited) (early_records SelfDelimited) 0 f.packets (p ∷ []) rest
          [] rs (r ∷ []) f.shows (subst (λ n. early n rest ≡ []) place none)
          (subst (λ n. Shows padding (early_records SelfDelimited) n (p ∷ []) [] (r ∷ [])) place
          (holds, sym (nil_early (start + length p))));
    }

-- the same packets, and of another rest nothing or one record more
pub rest_shows : (padding : Padding) (last : ℕ → List ℕ → List (Shown Item)) (h rest next : List ℕ)
    (rs ss : List (Shown Item)) (start : ℕ) (f : Framed padding (early_records SelfDelimited) h rs rest)
    → early start rest ≡ [] → start + length rest ≡ length h → ss ≡ last start next
    → Shows padding last 0 f.packets next (rs ++ ss)
rest_shows padding last h rest next rs ss start f none size is =
    let place = sym (rest_at h rest start f.packets f.parts size) in
    subst (λ ps. Shows padding last 0 ps next (rs ++ ss)) (append-nil f.packets)
    (shows_then padding (early_records SelfDelimited) last 0 f.packets [] rest next rs ss f.shows
    (subst (λ n. early n rest ≡ []) place none) (subst (λ n. ss ≡ last n next) place is))

pub framed_rest : (padding : Padding) (h rest own : List ℕ) (rs ss : List (Shown Item)) (start : ℕ)
    → Framed padding (early_records SelfDelimited) h rs rest → early start rest ≡ []
    → start + length rest ≡ length h → AreBytes own → IsNone SelfDelimited (rest ++ own)
    → ss ≡ early start (rest ++ own) → Framed padding (early_records SelfDelimited) (h ++ own) (rs ++ ss) (rest ++ own)
framed_rest padding h rest own rs ss start f none size are no_packet is = record {
  are_bytes = AreBytes-append h own f.are_bytes are;
  packets = f.packets;
  parts = longer h rest own f.packets f.parts;
  none = no_packet;
  shows = rest_shows padding (early_records SelfDelimited) h rest (rest ++ own) rs ss start f none size is;
}

-- the end of the input tells all of the rest
pub framed_end : (padding : Padding) (h rest : List ℕ) (rs : List (Shown Item))
    → Framed padding (early_records SelfDelimited) h rs rest → ((n : ℕ) → early n rest ≡ end_records n rest)
    → SelfEnds padding h rs None
framed_end padding h rest rs f is = (
  rest,
  record {
    are_bytes = f.are_bytes;
    packets = f.packets;
    parts = f.parts;
    none = f.none;
    shows = shows_last padding (early_records SelfDelimited) end_records 0 f.packets rest rest rs f.shows
        (is (0 + length (concat f.packets)));
  },
  refl,
)
