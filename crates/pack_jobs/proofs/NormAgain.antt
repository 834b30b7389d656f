-- What norm wrote is read again, in each form.
use Rattle.std.proofs.Common.{◌≡◌, ℕ, List, [], ◌∷◌, ◌++◌, length, None, flat_map, inl, inr, refl, sym, ap, ◌∙◌, subst, arith}
use Rattle.std.specs.List.{AllByRecursion}
use Rattle.job_loop.specs.Shown.{Shown}
use Rattle.job_loop.specs.Meaning.{going, outcome}
use Rattle.job_loop.specs.declared.input_end.InputEnd.TheVariants.{Closed}
use Rattle.opus_feed.specs.declared.padding.Padding.{Padding}
use Rattle.opus_words.specs.declared.form.Form.{Form}
use Rattle.opus_words.specs.declared.form.Form.TheVariants.{Raw, Demo, SelfDelimited}
use Rattle.pack_records.specs.declared.item.Found.TheVariants.{Packet}
use Rattle.pack_records.specs.declared.item.Item.{Item}
use Rattle.pack_records.specs.Fits.{form_of}
use Rattle.pack_jobs.specs.Records.{record_bytes}
use Rattle.pack_jobs.specs.Norm.{norm}
use Rattle.pack_jobs.specs.Written.{IsTaken, AreTaken, normal_record}
use Rattle.pack_jobs.specs.SameRecords.{IsSameFound, IsSameRecord, AgreeOneByOne}
use Rattle.pack_jobs.specs.PackEnds.{ends_in}
use Rattle.pack_jobs.specs.Again.{IsReadAgain}
use Rattle.pack_jobs.proofs.FormSizes.{form_sizes}
use Rattle.pack_jobs.proofs.NormLemmas.{norm_taken}
use Rattle.pack_jobs.proofs.SameLemmas.{agree_text}
use Rattle.pack_jobs.proofs.HeldLemmas.{framing_in, IsRangeIn, HoldsBytes, IsLoss, IsHeld, all_read, all_held, held-found, held-range, all_good}
use Rattle.pack_jobs.proofs.AgainLemmas.{IsAgain, packet_again, shape_again, reads_again, taken_again, payload_again}
use Rattle.pack_jobs.proofs.WrittenAgain.{Spelling, Wrote, packet, loss, wrote_one, wrote_text, IsSpelling, IsWrote, read_at, bytes_at, next_at, payload_in, read_from, wrote-ends, counted-wrote}

-- ---- one record

-- what norm writes of a record
record NormOne (form : Form) (padding : Padding) (r : Shown Item) : Type 0 where
  wrote : Wrote
  is : IsWrote form wrote
  text : normal_record form r ≡ wrote_one form wrote
  agree : (start : ℕ) → IsSameRecord r (read_at padding form start wrote)
  taken : (start : ℕ) → IsTaken padding (read_at padding form start wrote).item.found

abbrev spelling_again : (form : Form) (padding : Padding) (r : Shown Item) → IsAgain padding (framing_in form) r.bytes → Spelling
spelling_again form padding r a =
    record { range = r.item.range; value = a.value; shape = shape_again a; tail = a.tail; bytes = r.bytes }

spelled_again : (form : Form) (padding : Padding) (r : Shown Item) (a : IsAgain padding (framing_in form) r.bytes)
    → IsRangeIn form r.item.range → IsSpelling form (spelling_again form padding r a)
spelled_again form padding r a in_form =
    let sizes = form_sizes (framing_in form) a.value a.tail a.is_value a.small in
    let size = ap length a.bytes_are in
    record {
      in_form = in_form;
      reads = reads_again padding (framing_in form) r.bytes a;
      are = a.are;
      some = omega (arith, size, sizes.0);
      fits = omega (arith, size, sizes.1);
    }

found_again : (form : Form) (padding : Padding) (start : ℕ) (r : Shown Item) (h : HoldsBytes form padding r)
    (a : IsAgain padding (framing_in form) r.bytes)
    → IsSameRecord r (read_at padding form start (packet (spelling_again form padding r a)))
found_again form padding start r h a = record {
  range = refl;
  found = subst (λ f. IsSameFound f r.bytes (Packet (framing_in form) (shape_again a) (length r.bytes)) (read_at padding form start (packet (spelling_again form padding r a))).bytes)
      (sym (held-found padding (framing_in form) h.start h.range h.bytes r h.holds))
      (a.bytes_are ∙ ap (form_of (framing_in form) a.value) (sym a.again));
}

packet_one : (form : Form) (padding : Padding) (r : Shown Item) → HoldsBytes form padding r → NormOne form padding r
packet_one form padding r h =
    let framing = framing_in form in
    let a = packet_again padding framing h.start h.range h.bytes r h.holds h.are in
    record {
      wrote = packet (spelling_again form padding r a);
      is = spelled_again form padding r a (subst (IsRangeIn form) (sym (held-range padding framing h.start h.range h.bytes r h.holds)) h.in_form);
      text = ap (record_bytes form r.item.range) (payload_again padding framing h.start h.range h.bytes r h.holds);
      agree = λ start. found_again form padding start r h a;
      taken = λ start. taken_again padding framing r.bytes a;
    }

loss_one : (padding : Padding) (r : Shown Item) → IsLoss r → NormOne Demo padding r
loss_one padding r gone =
    subst (NormOne Demo padding) (sym gone.shows) (record {
      wrote = loss gone.range;
      is = gone.fits;
      text = refl;
      agree = λ start. record { range = refl; found = tt };
      taken = λ start. tt;
    })

held_one : (form : Form) (padding : Padding) (r : Shown Item) → IsHeld form padding r → NormOne form padding r
held_one form padding r (inl h) = packet_one form padding r h
held_one Raw padding r (inr gone) = absurd gone
held_one Demo padding r (inr gone) = loss_one padding r gone
held_one SelfDelimited padding r (inr gone) = absurd gone

-- ---- all of them

record NormWrote (form : Form) (padding : Padding) (rs : List (Shown Item)) : Type 0 where
  wrote : List Wrote
  is : AllByRecursion (IsWrote form) wrote
  count : length wrote ≡ length rs
  text : flat_map (normal_record form) rs ≡ wrote_text form wrote
  agree : (at : ℕ) → AgreeOneByOne rs (read_from padding form at wrote)
  taken : (at : ℕ) → AreTaken padding (read_from padding form at wrote)

all_wrote : (form : Form) (padding : Padding) (rs : List (Shown Item)) → AllByRecursion (IsHeld form padding) rs
    → NormWrote form padding rs
all_wrote form padding [] held =
    record { wrote = []; is = tt; count = refl; text = refl; agree = λ at. tt; taken = λ at. tt }
all_wrote form padding (r ∷ rs) held =
    let one = held_one form padding r held.0 in
    let behind = all_wrote form padding rs held.1 in
    record {
      wrote = one.wrote ∷ behind.wrote;
      is = (one.is, behind.is);
      count = omega (arith, behind.count);
      text = ap (λ l. l ++ flat_map (normal_record form) rs) one.text ∙ ap (λ l. wrote_one form one.wrote ++ l) behind.text;
      agree = λ at. (one.agree (bytes_at form at), behind.agree (next_at form at (length (payload_in one.wrote))));
      taken = λ at. (one.taken (bytes_at form at), behind.taken (next_at form at (length (payload_in one.wrote))));
    }

pub norm_again : (form : Form) (padding : Padding) (x : List ℕ) (rs : List (Shown Item)) (text : List ℕ)
    → ends_in form padding x rs None → outcome (norm form padding) rs Closed ≡ going text tt
    → IsReadAgain form padding rs text
norm_again form padding x rs text ends e =
    let taken = (norm_taken form padding rs Closed text).0 e in
    let held = all_held form padding rs (all_good padding rs taken.0) (all_read form padding x rs None ends) in
    let m = all_wrote form padding rs held in
    let text_is : text ≡ wrote_text form m.wrote = taken.2 ∙ m.text in
    let records = read_from padding form 0 m.wrote in
    record {
      records = records;
      ends = subst (λ l. ends_in form padding l records None) (sym text_is)
          (wrote-ends form padding m.wrote (counted-wrote form padding x rs None ends m.wrote m.count m.is));
      agree = m.agree 0;
      same = (norm_taken form padding records Closed text).1
          (m.taken 0, tt, taken.2 ∙ agree_text form rs records (m.agree 0));
    }
