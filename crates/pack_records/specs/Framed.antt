-- Self-delimited packets one after another (RFC 6716, Appendix B).
use Rattle.std.specs.Prelude.{◌≡◌, ℕ, ◌+◌, ◌≤◌, List, [], ◌∷◌, ◌++◌, length, Bool, true, false, Option, None}
use Rattle.std.specs.List.{concat}
use Rattle.job_loop.specs.Shown.{Shown}
use Rattle.opus_packet.specs.PacketPrefix.{AreBytes}
use Rattle.opus_feed.specs.declared.framing.Framing.TheVariants.{SelfDelimited}
use Rattle.opus_feed.specs.declared.padding.Padding.{Padding}
use Rattle.opus_feed.specs.Packets.{IsNone, fault_of}
use Rattle.pack_records.specs.declared.cut.Cut.{Cut}
use Rattle.pack_records.specs.declared.self_form.Mode.{Mode}
use Rattle.pack_records.specs.declared.self_form.Mode.TheVariants.{Fresh, Within, Over}
use Rattle.pack_records.specs.declared.item.Item.{Item}
use Rattle.pack_records.specs.declared.pieces.Pieces.{Pieces}
use Rattle.pack_records.specs.Early.{IsEarly, IsDecided}
use Rattle.pack_records.specs.Holds.{HoldsPacket, HoldsBad, bad_record}
use Rattle.pack_records.specs.Pieces.{PieceStands, shown_by}
use Rattle.pack_records.specs.Settled.{early_records}

-- The records of packets one after another, each with its place counted from the one where its packet begins, and
-- then those that `last` makes of a rest behind them. The first packet begins at `start`.
abbrev pub Shows : Padding → (ℕ → List ℕ → List (Shown Item)) → ℕ → List (List ℕ) → List ℕ → List (Shown Item) → Type 0
Shows padding last start [] rest rs = rs ≡ last start rest
Shows padding last start (p ∷ ps) rest [] = ⊥
Shows padding last start (p ∷ ps) rest (r ∷ rs) =
    HoldsPacket padding SelfDelimited start 0 p r × Shows padding last (start + length p) ps rest rs

-- an input is packets joined and a rest that begins with none, and these are its records
pub record Framed (padding : Padding) (last : ℕ → List ℕ → List (Shown Item)) (h : List ℕ) (rs : List (Shown Item))
    (rest : List ℕ) : Type 0 where
  pub are_bytes : AreBytes h
  pub packets : List (List ℕ)
  pub parts : h ≡ concat packets ++ rest
  pub none : IsNone SelfDelimited rest
  pub shows : Shows padding last 0 packets rest rs

-- the end of the input makes one record of a rest, with its fault, and none where nothing is left
abbrev pub end_records : ℕ → List ℕ → List (Shown Item)
end_records start [] = []
end_records start (x ∷ xs) =
    bad_record start 0 (fault_of SelfDelimited (x ∷ xs)) (length (x ∷ xs)) ∷ []

-- bytes settle their packets, and the record of a fault that none behind them can mend
abbrev pub SelfSettles : Padding → List ℕ → List (Shown Item) → Type 0
SelfSettles padding h rs = (rest : List ℕ) × Framed padding (early_records SelfDelimited) h rs rest

-- a whole input is its packets, and one record more where a rest is left; it is never cut
abbrev pub SelfEnds : Padding → List ℕ → List (Shown Item) → Option Cut → Type 0
SelfEnds padding h rs cut = (rest : List ℕ) × Framed padding end_records h rs rest × (cut ≡ None)

-- where a machine stands that was fed h, of which the rest belongs to no whole packet
abbrev pub SelfAt : Mode → Pieces → ℕ → List ℕ → List ℕ → Type 0
SelfAt Fresh pieces start h rest = rest ≡ []
SelfAt Within pieces start h rest =
    PieceStands pieces rest × (1 ≤ length rest) × (start + length rest ≡ length h)
SelfAt Over pieces start h rest = IsEarly SelfDelimited rest

-- a machine was fed these bytes, and these records stand
pub record SelfStands (mode : Mode) (pieces : Pieces) (start : ℕ) (h : List ℕ) (rs : List (Shown Item)) : Type 0 where
  pub rest : List ℕ
  pub framed : Framed pieces.padding (early_records SelfDelimited) h rs rest
  pub at : SelfAt mode pieces start h rest

-- What a machine read of a packet that begins at `start`, of which these are all bytes so far and `own` those taken
-- last: all of it; a front that none begins with; or a part.
abbrev pub HasRead : Mode → Pieces → ℕ → ℕ → List ℕ → List ℕ → Bool → Type 0
HasRead Fresh pieces now start bytes own true =
    HoldsPacket pieces.padding SelfDelimited start 0 bytes (shown_by pieces own)
HasRead Fresh pieces now start bytes own false = ⊥
HasRead Within pieces now start bytes own true = ⊥
HasRead Within pieces now start bytes own false = PieceStands pieces bytes × (now ≡ start)
HasRead Over pieces now start bytes own true =
    IsDecided SelfDelimited bytes × HoldsBad SelfDelimited start 0 bytes (shown_by pieces own)
HasRead Over pieces now start bytes own false = ⊥
