-- What the machine stands for is settled.
use Rattle.std.proofs.Common.{◌≡◌, inl, inr, ℕ, ◌+◌, ◌<◌, List, [], ◌∷◌, ◌++◌, length, refl, sym, ap, ◌∙◌, subst, append-nil, arith}
use Rattle.std.specs.List.{flat_map}
use Rattle.job_loop.specs.Shown.{Shown}
use Rattle.rec_store.specs.Dump.{dump_record_bytes}
use Rattle.rec_store.specs.DumpStore.{AreBytes, IsOpeningPart, IsRecordPart}
use Rattle.rec_store.specs.declared.stop.StoreFault.TheVariants.{DumpLength}
use Rattle.rec_store.proofs.PartLemmas.{opening_part-line, opening_part-head, record_part-of, record_part-one, record_part-nil}
use Rattle.dump_records.specs.declared.item.Item.{Item}
use Rattle.dump_records.specs.declared.form.DumpForm.{DumpForm}
use Rattle.dump_records.specs.declared.mode.Mode.{Mode}
use Rattle.dump_records.specs.declared.mode.Mode.TheVariants.{Line, Head, Fresh, Kept, First, Part, Bad}
use Rattle.dump_records.specs.Capture.{shown_records, bad_record, ShowsRecords, DumpSettles}
use Rattle.dump_records.specs.Wants.{Wants}
use Rattle.dump_records.specs.DumpForm.{InHead, InRecords, InShort, StandsIn, DumpStands}

-- ---- parts

pub head_part : (seen : ℕ) (h : List ℕ) → seen < 16 → InHead seen h → IsOpeningPart h
head_part seen h fits s =
    subst IsOpeningPart (sym s.parts) (opening_part-head s.line s.part s.is_line s.are (omega (arith, s.count, fits)))

pub first_part : (came : List ℕ) → length came ≡ 1 → AreBytes came → IsRecordPart came
first_part [] one are = absurd (omega (arith, one))
first_part (b ∷ []) one are = record_part-one b are.0
first_part (b ∷ c ∷ bs) one are = absurd (omega (arith, one))

pub wanted_part : (want : ℕ) (came : List ℕ) → Wants want came → AreBytes came → IsRecordPart came
wanted_part want came w are = record_part-of came want are w.two w.long w.fits w.first w.short

-- ---- what is settled

records_settled : (h : List ℕ) (rs : List (Shown Item)) (rest : List ℕ) → InRecords h rs rest → IsRecordPart rest
    → ShowsRecords h rs
records_settled h rs rest s part = record {
  head = s.head;
  records = s.records;
  rest = rest;
  front = s.front;
  first = s.first;
  at = s.first + length (flat_map dump_record_bytes s.records);
  first_is = refl;
  at_is = s.first_is;
  last = [];
  shows_rest = inl (part, refl);
  shows = s.shows ∙ sym (append-nil (shown_records s.first s.records));
}

short_settled : (h : List ℕ) (rs : List (Shown Item)) → InShort h rs → ShowsRecords h rs
short_settled h rs s = record {
  head = s.before.head;
  records = s.before.records;
  rest = s.rest;
  front = s.before.front;
  first = s.before.first;
  at = s.at;
  first_is = omega (arith, s.before.first_is, s.begins);
  at_is = s.begins;
  last = bad_record (s.at + 2) (DumpLength s.at) ∷ [];
  shows_rest = inr (s.short, refl);
  shows = s.shows ∙ ap (λ l. l ++ bad_record (s.at + 2) (DumpLength s.at) ∷ []) s.before.shows;
}

settled_in : (m : Mode) (s : DumpForm) (h : List ℕ) (rs : List (Shown Item)) → s.mode ≡ m → StandsIn m s h rs
    → DumpSettles h rs
settled_in Line s h rs mode stands = inl record { part = opening_part-line h stands.0; shows = stands.2 }
settled_in Head s h rs mode stands =
    inl record { part = head_part s.seen h (s.head mode) stands.0; shows = stands.1 }
settled_in Fresh s h rs mode stands = inr (inr (records_settled h rs [] stands record_part-nil))
settled_in Kept s h rs mode stands = inr (inr (records_settled h rs [] stands record_part-nil))
settled_in First s h rs mode stands =
    inr (inr (records_settled h rs s.kept.items stands.0.before (first_part s.kept.items (s.first mode) stands.0.are)))
settled_in Part s h rs mode stands =
    inr (inr (records_settled h rs s.kept.items stands.before (wanted_part s.want s.kept.items (s.part mode) stands.are)))
settled_in Bad s h rs mode (inl bad) = inr (inl bad)
settled_in Bad s h rs mode (inr short) = inr (inr (short_settled h rs short))

pub dump_settled : (s : DumpForm) (h : List ℕ) (rs : List (Shown Item)) → DumpStands s h rs → DumpSettles h rs
dump_settled s h rs stands = settled_in s.mode s h rs refl stands
