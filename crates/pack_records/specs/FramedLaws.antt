-- The laws of self-delimited packets one after another.
use Rattle.std.proofs.Common.{◌≡◌, ℕ, ◌+◌, List, [], ◌∷◌, ◌++◌, length, take, drop, inl, ⊎_elim, refl, sym, ap, ◌∙◌, subst, append_assoc, length-append, take_at, arith}
use Rattle.std.proofs.Math.Seq.{take-append_seam, drop-append_seam}
use Rattle.std.proofs.lemmas.Bool.{cases_lt}
use Rattle.std.specs.declared.option.Option.{Option}
use Rattle.std.specs.List.{concat}
use Rattle.job_loop.specs.Shown.{Shown}
use Rattle.job_loop.specs.Forms.{Begins}
use Rattle.opus_packet.specs.PacketPrefix.{AreBytes}
use Rattle.opus_packet.specs.SelfGrammar.{SpellsSelf, BeginsWithSelf}
use Rattle.opus_packet.proofs.BytesLemmas.{AreBytes-append, AreBytes-right}
use Rattle.opus_self.proofs.SelfPrefixLemmas.{begins_once}
use Rattle.opus_feed.specs.declared.framing.Framing.TheVariants.{SelfDelimited}
use Rattle.opus_feed.specs.declared.padding.Padding.{Padding}
use Rattle.opus_feed.specs.Packets.{IsNone, fault_of}
use Rattle.pack_records.specs.declared.cut.Cut.{Cut}
use Rattle.pack_records.specs.declared.self_form.Mode.{Mode}
use Rattle.pack_records.specs.declared.item.Item.{Item}
use Rattle.pack_records.specs.declared.pieces.Pieces.{Pieces}
use Rattle.pack_records.specs.Early.{IsEarly}
use Rattle.pack_records.specs.EarlyLaws.{early_none}
use Rattle.pack_records.specs.Holds.{HoldsPacket}
use Rattle.pack_records.specs.HoldsLaws.{holds_same}
use Rattle.pack_records.specs.Framed.{Shows, Framed, end_records, SelfSettles, SelfEnds, SelfStands}
use Rattle.pack_records.specs.Settled.{early_records}
use Rattle.pack_records.specs.SettledLaws.{fault_record, early_one, early_nil, early_longer, early_same}

pub self_settled : (mode : Mode) (pieces : Pieces) (start : ℕ) (h : List ℕ) (rs : List (Shown Item))
    → SelfStands mode pieces start h rs → SelfSettles pieces.padding h rs
self_settled mode pieces start h rs stands = (stands.rest, stands.framed)

-- a whole packet stands first, whatever comes behind it
first_is : (padding : Padding) (start : ℕ) (p more : List ℕ) (r : Shown Item)
    → (holds : HoldsPacket padding SelfDelimited start 0 p r)
    → BeginsWithSelf holds.value holds.shape (length p) (p ++ more)
first_is padding start p more r holds = record {
  within = omega (arith, length-append p more);
  spelled = subst (SpellsSelf holds.value holds.shape) (sym (take_at p more (length p) refl))
      (holds.tail, holds.reads);
}

-- so what begins with none doesn't begin so
no_first : (padding : Padding) (start : ℕ) (p more all : List ℕ) (r : Shown Item)
    → HoldsPacket padding SelfDelimited start 0 p r → all ≡ p ++ more → IsNone SelfDelimited all → ⊥
no_first padding start p more all r holds is none =
    none holds.value holds.shape (length p)
    (subst (BeginsWithSelf holds.value holds.shape (length p)) (sym is) (first_is padding start p more r holds))

-- two packets that stand first are one
one_first : (padding : Padding) (start : ℕ) (p q xs ys : List ℕ) (r s : Shown Item)
    → HoldsPacket padding SelfDelimited start 0 p r → HoldsPacket padding SelfDelimited start 0 q s
    → p ++ xs ≡ q ++ ys → (p ≡ q) × (xs ≡ ys)
one_first padding start p q xs ys r s a b is =
    let size : length p ≡ length q =
    begins_once a.value b.value a.shape b.shape (length p) (length q) (p ++ xs) (first_is padding start p xs r a)
    (subst (BeginsWithSelf b.value b.shape (length q)) (sym is) (first_is padding start q ys s b)) in (
      sym (take-append_seam p xs) ∙ ap (take (length p)) is ∙ ap (λ n. take n (q ++ ys)) size ∙ take-append_seam q ys,
      sym (drop-append_seam p xs) ∙ ap (drop (length p)) is ∙ ap (λ n. drop n (q ++ ys)) size ∙ drop-append_seam q ys,
    )

-- and are shown alike
one_shown : (padding : Padding) (start : ℕ) (p q : List ℕ) (r s : Shown Item) → p ≡ q
    → HoldsPacket padding SelfDelimited start 0 p r → HoldsPacket padding SelfDelimited start 0 q s → r ≡ s
one_shown padding start p q r s is a b =
    holds_same padding SelfDelimited start 0 q r s
    (inl (subst (λ l. HoldsPacket padding SelfDelimited start 0 l r) is a)) (inl b)

-- `last` gives the record of a fault that is decided early
abbrev pub TellsEarly : (ℕ → List ℕ → List (Shown Item)) → Type 0
TellsEarly last =
    (start : ℕ) (b : List ℕ) → IsEarly SelfDelimited b → last start b ≡ fault_record SelfDelimited start b ∷ []

early_tells : TellsEarly (early_records SelfDelimited)
early_tells start b early = early_one SelfDelimited start b early

pub end_tells : TellsEarly end_records
end_tells start [] early = absurd (omega (arith, early))
end_tells start (x ∷ xs) early = refl

-- what is settled early stands first: of a rest behind which more bytes came
rest_begins : (start : ℕ) (rest : List ℕ) (rs ss : List (Shown Item)) → rs ≡ early_records SelfDelimited start rest
    → (IsEarly SelfDelimited rest → Begins (fault_record SelfDelimited start rest ∷ []) ss) → Begins rs ss
rest_begins start rest rs ss is early =
    ⊎_elim
    (λ less. subst (λ l. Begins l ss) (sym (is ∙ early_one SelfDelimited start rest less)) (early less))
    (λ late. (ss, ap (λ l. l ++ ss) (sym (is ∙ early_nil SelfDelimited start rest late))))
    (cases_lt (fault_of SelfDelimited rest).place (length rest))

shows_begin : (padding : Padding) (last : ℕ → List ℕ → List (Shown Item)) → TellsEarly last → (start : ℕ)
    (ps qs : List (List ℕ)) (rest rest' more : List ℕ) (rs ss : List (Shown Item)) → AreBytes rest
    → AreBytes more → IsNone SelfDelimited rest' → Shows padding (early_records SelfDelimited) start ps rest rs
    → Shows padding last start qs rest' ss → (concat ps ++ rest) ++ more ≡ concat qs ++ rest' → Begins rs ss
shows_begin padding last tells start [] [] rest rest' more rs ss are are' none a b is =
    rest_begins start rest rs ss a
    (λ early. (
      [],
      b ∙ ap (last start) (sym is)
          ∙ tells start (rest ++ more) (early_longer SelfDelimited rest more are early)
          ∙ ap (λ r. r ∷ []) (early_same SelfDelimited start rest more are early),
    ))
shows_begin padding last tells start [] (q ∷ qs) rest rest' more rs [] are are' none a b is = absurd b
shows_begin padding last tells start [] (q ∷ qs) rest rest' more rs (s ∷ ss) are are' none a b is =
    rest_begins start rest rs (s ∷ ss) a
    (λ early. absurd (no_first padding start q (concat qs ++ rest') (rest ++ more) s b.0
    (is ∙ append_assoc q (concat qs) rest')
    (early_none SelfDelimited (rest ++ more) (AreBytes-append rest more are are')
    (early_longer SelfDelimited rest more are early))))
shows_begin padding last tells start (p ∷ ps) qs rest rest' more [] ss are are' none a b is = absurd a
shows_begin padding last tells start (p ∷ ps) [] rest rest' more (r ∷ rs) ss are are' none a b is =
    absurd (no_first padding start p ((concat ps ++ rest) ++ more) rest' r a.0
    (sym is ∙ ap (λ l. l ++ more) (append_assoc p (concat ps) rest) ∙ append_assoc p (concat ps ++ rest) more) none)
shows_begin padding last tells start (p ∷ ps) (q ∷ qs) rest rest' more (r ∷ rs) [] are are' none a b is = absurd b
shows_begin padding last tells start (p ∷ ps) (q ∷ qs) rest rest' more (r ∷ rs) (s ∷ ss) are are' none a b is =
    let same = one_first padding start p q ((concat ps ++ rest) ++ more) (concat qs ++ rest') r s a.0 b.0
    (sym (append_assoc p (concat ps ++ rest) more) ∙ ap (λ l. l ++ more) (sym (append_assoc p (concat ps) rest)) ∙ is
    ∙ append_assoc q (concat qs) rest') in
    let behind = shows_begin padding last tells (start + length q) ps qs rest rest' more rs ss are are' none
    (subst (λ l. Shows padding (early_records SelfDelimited) (start + length l) ps rest rs) same.0 a.1) b.1 same.1 in (
      behind.0,
      ap (λ l. s ∷ l) behind.1
          ∙ ap (λ r. r ∷ (rs ++ behind.0)) (sym (one_shown padding start p q r s same.0 a.0 b.0)),
    )

framed_begin : (padding : Padding) (last : ℕ → List ℕ → List (Shown Item)) → TellsEarly last
    → (h more rest rest' : List ℕ) (rs ss : List (Shown Item))
    → Framed padding (early_records SelfDelimited) h rs rest → Framed padding last (h ++ more) ss rest' → Begins rs ss
framed_begin padding last tells h more rest rest' rs ss a b =
    shows_begin padding last tells 0 a.packets b.packets rest rest' more rs ss
    (AreBytes-right (concat a.packets) rest (subst AreBytes a.parts a.are_bytes)) (AreBytes-right h more b.are_bytes)
    b.none a.shows b.shows (ap (λ l. l ++ more) (sym a.parts) ∙ b.parts)

pub self_grows : (padding : Padding) (h more : List ℕ) (rs ss : List (Shown Item)) → SelfSettles padding h rs
    → SelfSettles padding (h ++ more) ss → Begins rs ss
self_grows padding h more rs ss a b =
    framed_begin padding (early_records SelfDelimited) early_tells h more a.0 b.0 rs ss a.1 b.1

pub self_ends_grow : (padding : Padding) (h more : List ℕ) (rs ss : List (Shown Item)) (cut : Option Cut)
    → SelfSettles padding h rs → SelfEnds padding (h ++ more) ss cut → Begins rs ss
self_ends_grow padding h more rs ss cut a b =
    framed_begin padding end_records end_tells h more a.0 b.0 rs ss a.1 b.1

-- an input is cut into packets in one way
shows_once : (padding : Padding) (last : ℕ → List ℕ → List (Shown Item)) (start : ℕ) (ps qs : List (List ℕ))
    (rest rest' : List ℕ) (rs ss : List (Shown Item)) → IsNone SelfDelimited rest → IsNone SelfDelimited rest'
    → Shows padding last start ps rest rs → Shows padding last start qs rest' ss
    → concat ps ++ rest ≡ concat qs ++ rest' → rs ≡ ss
shows_once padding last start [] [] rest rest' rs ss none none' a b is = a ∙ ap (last start) is ∙ sym b
shows_once padding last start [] (q ∷ qs) rest rest' rs [] none none' a b is = absurd b
shows_once padding last start [] (q ∷ qs) rest rest' rs (s ∷ ss) none none' a b is =
    absurd (no_first padding start q (concat qs ++ rest') rest s b.0 (is ∙ append_assoc q (concat qs) rest') none)
shows_once padding last start (p ∷ ps) qs rest rest' [] ss none none' a b is = absurd a
shows_once padding last start (p ∷ ps) [] rest rest' (r ∷ rs) ss none none' a b is =
    absurd (no_first padding start p (concat ps ++ rest) rest' r a.0 (sym is ∙ append_assoc p (concat ps) rest) none')
shows_once padding last start (p ∷ ps) (q ∷ qs) rest rest' (r ∷ rs) [] none none' a b is = absurd b
shows_once padding last start (p ∷ ps) (q ∷ qs) rest rest' (r ∷ rs) (s ∷ ss) none none' a b is =
    let same = one_first padding start p q (concat ps ++ rest) (concat qs ++ rest') r s a.0 b.0
    (sym (append_assoc p (concat ps) rest) ∙ is ∙ append_assoc q (concat qs) rest') in
    ap (λ l. r ∷ l) (shows_once padding last (start + length q) ps qs rest rest' rs ss none none'
    (subst (λ l. Shows padding last (start + length l) ps rest rs) same.0 a.1) b.1 same.1)
    ∙ ap (λ r. r ∷ ss) (one_shown padding start p q r s same.0 a.0 b.0)

pub self_ends_once : (padding : Padding) (h : List ℕ) (rs ss : List (Shown Item)) (a b : Option Cut)
    → SelfEnds padding h rs a → SelfEnds padding h ss b → (rs ≡ ss) × (a ≡ b)
self_ends_once padding h rs ss a b p q = (
  shows_once padding end_records 0 p.1.packets q.1.packets p.0 q.0 rs ss p.1.none q.1.none p.1.shows q.1.shows
      (sym p.1.parts ∙ q.1.parts),
  p.2 ∙ sym q.2,
)
