-- What the end of the input makes of a capture.
use Rattle.std.proofs.Common.{◌≡◌, inl, inr, ℕ, true, false, List, refl, sym, arith}
use Rattle.std.proofs.lemmas.Bool.{false≢true}
use Rattle.job_loop.specs.Shown.{Shown}
use Rattle.rec_store.specs.DumpStore.{IsStoreCut}
use Rattle.rec_store.proofs.PartLemmas.{opening_part-line}
use Rattle.rec_store.proofs.StoreLemmas.{opening_part-cut, record_part-cut}
use Rattle.rec_store.proofs.FaultLemmas.{bad_line-not_cut, short-not_cut}
use Rattle.dump_records.specs.declared.item.Item.{Item}
use Rattle.dump_records.specs.declared.form.DumpForm.{DumpForm}
use Rattle.dump_records.specs.declared.mode.Mode.{Mode}
use Rattle.dump_records.specs.declared.mode.Mode.TheVariants.{Line, Head, Fresh, Kept, First, Part, Bad}
use Rattle.dump_records.specs.Modes.{is_within}
use Rattle.dump_records.specs.DumpForm.{StandsIn, DumpStands}
use Rattle.dump_records.specs.Settled.{head_part, first_part, wanted_part}

cut_in : (m : Mode) (s : DumpForm) (h : List ℕ) (rs : List (Shown Item)) → s.mode ≡ m → is_within m ≡ true
    → StandsIn m s h rs → IsStoreCut h
cut_in Line s h rs mode w stands = opening_part-cut h (opening_part-line h stands.0)
cut_in Head s h rs mode w stands = opening_part-cut h (head_part s.seen h (s.head mode) stands.0)
cut_in Fresh s h rs mode w stands = absurd (false≢true w)
cut_in Kept s h rs mode w stands = absurd (false≢true w)
cut_in First s h rs mode w stands =
    let one = s.first mode in
    record_part-cut h record {
      head = stands.0.before.head;
      records = stands.0.before.records;
      rest = s.kept.items;
      front = stands.0.before.front;
      part = first_part s.kept.items one stands.0.are;
      some = omega (arith, one);
    }
cut_in Part s h rs mode w stands =
    let wants = s.part mode in
    record_part-cut h record {
      head = stands.before.head;
      records = stands.before.records;
      rest = s.kept.items;
      front = stands.before.front;
      part = wanted_part s.want s.kept.items wants stands.are;
      some = omega (arith, wants.two);
    }
cut_in Bad s h rs mode w stands = absurd (false≢true w)

whole_in : (m : Mode) (s : DumpForm) (h : List ℕ) (rs : List (Shown Item)) → is_within m ≡ false
    → StandsIn m s h rs → IsStoreCut h → ⊥
whole_in Line s h rs w stands cut = absurd (false≢true (sym w))
whole_in Head s h rs w stands cut = absurd (false≢true (sym w))
whole_in Fresh s h rs w stands cut = cut.not_whole stands.head stands.records stands.front
whole_in Kept s h rs w stands cut = cut.not_whole stands.head stands.records stands.front
whole_in First s h rs w stands cut = absurd (false≢true (sym w))
whole_in Part s h rs w stands cut = absurd (false≢true (sym w))
whole_in Bad s h rs w (inl bad) cut = bad_line-not_cut h bad.place bad.bad cut
whole_in Bad s h rs w (inr short) cut =
    short-not_cut h short.before.head short.before.records short.rest short.before.front short.short cut

pub cut_within : (s : DumpForm) (h : List ℕ) (rs : List (Shown Item)) → is_within s.mode ≡ true → DumpStands s h rs
    → IsStoreCut h
cut_within s h rs w stands = cut_in s.mode s h rs refl w stands

pub no_cut : (s : DumpForm) (h : List ℕ) (rs : List (Shown Item)) → is_within s.mode ≡ false → DumpStands s h rs
    → IsStoreCut h → ⊥
no_cut s h rs w stands = whole_in s.mode s h rs w stands
