-- The machine of an input that is one payload.
use Rattle.std.proofs.Common.{◌≡◌, ℕ, ◌+◌, Bool, true, false, not, List, [], ◌∷◌, ◌++◌, length, take, None, refl, sym, ap, ◌∙◌, subst, length-append, take_all, arith}
use Rattle.job_loop.specs.Forms.{HasEnded}
use Rattle.opus_packet.specs.PacketPrefix.{AreBytes}
use Rattle.opus_packet.proofs.BytesLemmas.{AreBytes-append}
use Rattle.pack_records.specs.Payloads.{Reading, IsReading, IsDecided}
use Rattle.pack_records.specs.OnePayload.{Ends, RawStands}

module _ {P L R : Type 0} (m : Reading P L R) where
  -- nothing is decided yet
  pub one_more : (p q : P) (h piece : List ℕ) (rs : List R) → RawStands m false p h rs → AreBytes piece
      → m.stands q 0 (h ++ piece) → RawStands m false q (h ++ take (length piece) piece) rs
  one_more p q h piece rs s bytes now =
      subst (λ l. RawStands m false q (h ++ l) rs) (sym (take_all (length piece) piece (omega arith)))
      record { are_bytes = AreBytes-append h piece s.are_bytes bytes; at = (now, s.at.1) }

  -- a byte decides the record
  pub one_decided : (p q : P) (h own : List ℕ) (rs : List R) (at : ℕ) → RawStands m false p h rs → AreBytes own
      → IsDecided m q 0 0 (h ++ own) → length h + length own ≡ at
      → RawStands m true q (h ++ own) (rs ++ m.current q own ∷ []) × (m.place (m.current q own) ≡ at)
  one_decided p q h own rs at s bytes d size = (
    record {
      are_bytes = AreBytes-append h own s.are_bytes bytes;
      at = record {
        early = d.early;
        records_are = ap (λ l. l ++ m.current q own ∷ []) s.at.1 ∙ ap (λ r. r ∷ []) (d.shown own);
      };
    },
    ap m.place (d.shown own) ∙ d.place ∙ omega (arith, size, length-append h own),
  )

  -- what comes behind is passed over
  pub one_over : IsReading m → (p : P) (h own : List ℕ) (rs : List R) → RawStands m true p h rs → AreBytes own
      → RawStands m true p (h ++ own) rs
  one_over laws p h own rs s bytes =
      let all = AreBytes-append h own s.are_bytes bytes in
      let l = (laws.showing (m.layout p)).early_stays 0 0 h own all s.at.early in
      record {
        are_bytes = all;
        at = record { early = l.longer; records_are = s.at.records_are ∙ ap (λ r. r ∷ []) (sym l.same) };
      }

  -- the end of the input: a record that was given doesn't come again, and else it decides one
  pub one_end : IsReading m → (over : Bool) (p : P) (h : List ℕ) (rs : List R) (r : R) → RawStands m over p h rs
      → (over ≡ false → m.stands p 0 h → (m.shows (m.layout p)).holds 0 0 h r)
      → HasEnded (Ends (m.shows (m.layout p))) r (not over) None h rs
  one_end laws true p h rs r s holds = record {
    are_bytes = s.are_bytes;
    shown = (m.shows (m.layout p)).decides.told 0 0 h s.at.early;
    holds = (laws.showing (m.layout p)).early_holds 0 0 h s.are_bytes s.at.early;
    records_are = s.at.records_are;
    cut_is = refl;
  }
  one_end laws false p h rs r s holds = record {
    are_bytes = s.are_bytes;
    shown = r;
    holds = holds refl s.at.0;
    records_are = ap (λ l. l ++ r ∷ []) s.at.1;
    cut_is = refl;
  }
