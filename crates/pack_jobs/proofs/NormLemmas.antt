-- What the job norm makes of records.
use Rattle.std.proofs.Common.{◌≡◌, ◌↔◌, ℕ, ◌+◌, Bool, true, false, if◌then◌else◌, List, [], ◌∷◌, ◌++◌, length, flat_map, refl, sym, ap, ◌∙◌}
use Rattle.job_loop.specs.Shown.{Shown}
use Rattle.job_loop.specs.Meaning.{going, broke, outcome}
use Rattle.job_loop.specs.declared.input_end.InputEnd.{InputEnd}
use Rattle.job_loop.specs.declared.input_end.InputEnd.TheVariants as ends
use Rattle.opus_feed.specs.declared.padding.Padding.{Padding}
use Rattle.opus_words.specs.declared.form.Form.{Form}
use Rattle.job_ends.specs.Refusal.{told, refusal_of}
use Rattle.job_ends.specs.Each.{Made, writes, refuses, text_of, texts_from, IsWritten, AreWritten, RefusesWith, IsUncut}
use Rattle.job_ends.proofs.EachLemmas.{each_written, each_refused, each_cut, all_written, written_all}
use Rattle.pack_records.specs.declared.cut.Cut.{Cut}
use Rattle.pack_records.specs.declared.item.Found.{Found}
use Rattle.pack_records.specs.declared.item.Found.TheVariants.{Packet, Lost, Bad}
use Rattle.pack_records.specs.declared.item.Item.{Item}
use Rattle.pack_jobs.specs.declared.refusal.Why.{Why}
use Rattle.pack_jobs.specs.declared.refusal.Why.TheVariants.{PaddingLong, StoreCut}
use Rattle.pack_jobs.specs.Refusal.{Refusal, cut_refusal}
use Rattle.pack_jobs.specs.Records.{record_bytes}
use Rattle.pack_jobs.specs.Norm.{is_long, norm_found, norm}
use Rattle.pack_jobs.specs.Written.{payload_of, normal_record, IsTaken, AreTaken, IsRefusedAs, FirstRefused}

abbrev made : Form → Padding → ℕ → Shown Item → Made Why
made form padding number r = norm_found form padding r r.item.found

-- one record

abbrev packet_made : Form → Shown Item → Bool → Made Why
packet_made form r long =
    if long then refuses r.item.place PaddingLong else writes (record_bytes form r.item.range r.bytes)

short_written : (form : Form) (r : Shown Item) (long : Bool) → long ≡ false → IsWritten (packet_made form r long)
short_written form r true short = let never = short in cc
short_written form r false short = tt

written_short : (form : Form) (r : Shown Item) (long : Bool) → IsWritten (packet_made form r long) → long ≡ false
written_short form r true written = absurd written
written_short form r false written = refl

long_refused : (form : Form) (r : Shown Item) (number : ℕ) (f : Refusal) (long : Bool) → long ≡ true
    → f ≡ refusal_of (told number) r.item.place PaddingLong → RefusesWith (packet_made form r long) number f
long_refused form r number f true is refusal = refusal
long_refused form r number f false is refusal = let never = is in cc

short_text : (form : Form) (r : Shown Item) (long : Bool) → long ≡ false
    → text_of (packet_made form r long) ≡ record_bytes form r.item.range r.bytes
short_text form r true short = let never = short in cc
short_text form r false short = refl

taken_written : (form : Form) (padding : Padding) (r : Shown Item) (found : Found) → IsTaken padding found
    → IsWritten (norm_found form padding r found)
taken_written form padding r (Packet framing shape size) taken = short_written form r (is_long padding shape) taken
taken_written form padding r Lost taken = tt
taken_written form padding r (Bad fault) taken = absurd taken

written_taken : (form : Form) (padding : Padding) (r : Shown Item) (found : Found)
    → IsWritten (norm_found form padding r found) → IsTaken padding found
written_taken form padding r (Packet framing shape size) written = written_short form r (is_long padding shape) written
written_taken form padding r Lost written = tt
written_taken form padding r (Bad fault) written = absurd written

refused_made : (form : Form) (padding : Padding) (number : ℕ) (r : Shown Item) (f : Refusal) (found : Found)
    → IsRefusedAs padding number r.item found f → RefusesWith (norm_found form padding r found) number f
refused_made form padding number r f (Packet framing shape size) refused =
    long_refused form r number f (is_long padding shape) refused.0 refused.1
refused_made form padding number r f Lost refused = absurd refused
refused_made form padding number r f (Bad fault) refused = refused

taken_text : (form : Form) (padding : Padding) (r : Shown Item) (found : Found) → IsTaken padding found
    → text_of (norm_found form padding r found) ≡ record_bytes form r.item.range (payload_of found r.bytes)
taken_text form padding r (Packet framing shape size) taken = short_text form r (is_long padding shape) taken
taken_text form padding r Lost taken = refl
taken_text form padding r (Bad fault) taken = absurd taken

-- all of them

all_taken : (form : Form) (padding : Padding) (number : ℕ) (rs : List (Shown Item)) → AreTaken padding rs
    → AreWritten (made form padding) number rs
all_taken form padding = all_written (made form padding) (λ (r : Shown Item). IsTaken padding r.item.found) (λ number r. taken_written form padding r r.item.found)

taken_all : (form : Form) (padding : Padding) (number : ℕ) (rs : List (Shown Item))
    → AreWritten (made form padding) number rs → AreTaken padding rs
taken_all form padding = written_all (made form padding) (λ (r : Shown Item). IsTaken padding r.item.found) (λ number r. written_taken form padding r r.item.found)

texts_are : (form : Form) (padding : Padding) (number : ℕ) (rs : List (Shown Item)) → AreTaken padding rs
    → texts_from (made form padding) number rs ≡ flat_map (normal_record form) rs
texts_are form padding number [] taken = refl
texts_are form padding number (r ∷ rs) taken =
    ap (λ l. l ++ texts_from (made form padding) (number + 1) rs) (taken_text form padding r r.item.found taken.0)
    ∙ ap (λ l. normal_record form r ++ l) (texts_are form padding (number + 1) rs taken.1)

-- outcomes

pub refused_outcome : (form : Form) (padding : Padding) (rs : List (Shown Item)) (end : InputEnd Cut)
    (f : Refusal) (at : FirstRefused padding rs f)
    → outcome (norm form padding) rs end ≡ broke (flat_map (normal_record form) at.before) f
refused_outcome form padding rs end f at =
    each_refused cut_refusal (made form padding) rs end f (record {
      before = at.before;
      first = at.first;
      after = at.after;
      parts = at.parts;
      written = all_taken form padding 0 at.before at.taken;
      refused = refused_made form padding (length at.before) at.first f at.first.item.found at.refused;
    })
    ∙ ap (λ l. broke l f) (texts_are form padding 0 at.before at.taken)

pub cut_outcome : (form : Form) (padding : Padding) (rs : List (Shown Item)) (c : Cut) → AreTaken padding rs
    → outcome (norm form padding) rs (ends.Cut c)
    ≡ broke (flat_map (normal_record form) rs) (refusal_of (told (length rs)) c.place StoreCut)
cut_outcome form padding rs c taken =
    each_cut cut_refusal (made form padding) rs c (all_taken form padding 0 rs taken)
    ∙ ap (λ l. broke l (refusal_of (told (length rs)) c.place StoreCut)) (texts_are form padding 0 rs taken)

-- where norm takes all

abbrev pub IsTakenWith : Form → Padding → List (Shown Item) → InputEnd Cut → List ℕ → Type 0
IsTakenWith form padding rs end text =
    AreTaken padding rs × IsUncut end × (text ≡ flat_map (normal_record form) rs)

pub norm_taken : (form : Form) (padding : Padding) (rs : List (Shown Item)) (end : InputEnd Cut) (text : List ℕ)
    → (outcome (norm form padding) rs end ≡ going text tt) ↔ IsTakenWith form padding rs end text
norm_taken form padding rs end text =
    let each = each_written cut_refusal (made form padding) rs end text in (
      λ is. (let d = each.0 is in
          let taken = taken_all form padding 0 rs d.0 in (taken, d.1, d.2 ∙ texts_are form padding 0 rs taken)),
      λ d. each.1 (all_taken form padding 0 rs d.0, d.1, d.2 ∙ sym (texts_are form padding 0 rs d.0)),
    )
