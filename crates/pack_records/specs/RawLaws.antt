-- What bytes settle that are one undelimited packet, or none, by its two cases.
use Rattle.std.proofs.Common.{◌≡◌, ◌⊎◌, inl, inr, ℕ, ◌≤◌, List, length, ⊎_elim, sym, ◌∙◌, arith}
use Rattle.std.proofs.lemmas.Bool.{cases_lt}
use Rattle.job_loop.specs.Shown.{Shown}
use Rattle.opus_feed.specs.declared.framing.Framing.TheVariants.{Whole}
use Rattle.opus_feed.specs.Packets.{fault_of}
use Rattle.pack_records.specs.declared.item.Item.{Item}
use Rattle.pack_records.specs.Early.{IsEarly}
use Rattle.pack_records.specs.OnePayload.{OneRecord, NoneYet, SaysSettles}
use Rattle.pack_records.specs.Raw.{RawSettles}
use Rattle.pack_records.specs.Settled.{early_records}
use Rattle.pack_records.specs.SettledLaws.{early_one, early_nil}
use Rattle.pack_records.specs.Undelimited.{packet_decides}

told_by : (h : List ℕ) (rs : List (Shown Item)) → OneRecord packet_decides h rs ⊎ NoneYet packet_decides h rs
    → rs ≡ early_records Whole 0 h
told_by h rs (inl e) = e.records_are ∙ sym (early_one Whole 0 h e.early)
told_by h rs (inr n) =
    ⊎_elim (λ less. absurd (n.undecided less)) (λ late. n.records_are ∙ sym (early_nil Whole 0 h late))
    (cases_lt (fault_of Whole h).place (length h))

by_place : (h : List ℕ) (rs : List (Shown Item)) → rs ≡ early_records Whole 0 h
    → IsEarly Whole h ⊎ (length h ≤ (fault_of Whole h).place)
    → OneRecord packet_decides h rs ⊎ NoneYet packet_decides h rs
by_place h rs is (inl less) = inl record { early = less; records_are = is ∙ early_one Whole 0 h less }
by_place h rs is (inr late) = inr record {
  undecided = λ early. omega (arith, late, early);
  records_are = is ∙ early_nil Whole 0 h late;
}

pub raw_says : SaysSettles packet_decides RawSettles
raw_says = record {
  to_own = λ h rs s. record { are_bytes = s.are_bytes; records_are = told_by h rs s.shows };
  from_own = λ h rs s. record {
    are_bytes = s.are_bytes;
    shows = by_place h rs s.records_are (cases_lt (fault_of Whole h).place (length h));
  };
}
