-- Each job that words stand for has the options of the table.
use Rattle.std.proofs.Common.{◌≡◌, ◌&&◌, ◌||◌, ◌⊎◌, ◌∙◌, ◌∷◌, Bool, Err, IfSome, IsSomeAnd, List}
use Rattle.std.proofs.Common.{IsSome, None, Ok, Option, Result, Some, [], ap, false, find, if◌then◌else◌, inl, inr}
use Rattle.std.proofs.Common.{is_some, nat_le, not, rules, option_map, refl, slice_get, subst, sym, true, ℕ}
use Rattle.std.proofs.lemmas.Bool.{leb-true}
use Rattle.std.specs.List.{list_all, list_any}
use Rattle.std.specs.Option.{option_map_or}
use Rattle.std.specs.Str.{bytes_eq}
use Rattle.clap.specs.Words.{Row, matches_of}
use Rattle.clap.specs.Faults.{fault_of}
use Rattle.clap.specs.Kinds.{Kinds}
use Rattle.opus_words.specs.CommandLine.{command_app, line_of}
use Rattle.opus_words.specs.Fit.{IsBetween, IsFit, IsFormFor, IsNumberFor, IsPaddingFor, number_at}
use Rattle.opus_words.specs.Jobs.{form_name, form_within, forms_of, has_own_stream, is_form}
use Rattle.opus_words.specs.Jobs.{is_self_of_many}
use Rattle.text_numbers.specs.Number.{is_number, number_within, value_of}
use Rattle.opus_words.specs.Options.{lack_of, options, row_of}
use Rattle.opus_words.specs.Paddings.{padding_named}
use Rattle.opus_words.specs.Words.{first_fault, form_from, is_foreign, is_missing, is_need, is_unfit}
use Rattle.opus_words.specs.Words.{is_value_of, job_of_rows, job_with, judged, judged_if_named}
use Rattle.opus_words.specs.Words.{job_of_line, job_of_words, job_unless}
use Rattle.opus_words.specs.Words.{kind_of, number_from, number_of, padding_from, text_of}
use Rattle.opus_words.specs.declared.fault.UsageKind.{UsageKind}
use Rattle.opus_words.specs.declared.form.Form.{Form}
use Rattle.opus_words.specs.declared.form.Form.TheVariants.{Raw, Demo, SelfDelimited}
use Rattle.opus_words.specs.declared.job.Job.{Job}
use Rattle.opus_words.specs.declared.kind.JobKind.{JobKind}
use Rattle.opus_words.specs.declared.option.Opt.{Opt}
use Rattle.opus_words.specs.declared.option.Opt.TheVariants as opt
use Rattle.opus_words.specs.declared.table.Lack.{Lack}
use Rattle.opus_words.specs.declared.table.Lack.TheVariants.{Needed, Open, FirstWord, Number}
use Rattle.opus_words.specs.declared.table.Values.{Values}
use Rattle.opus_words.specs.declared.table.Values.TheVariants.{Forms, Numbers, Paddings}

-- ---- what `find` leaves

found : {X : Type 0} (q : X → Bool) (x : X) (rest : Bool) (o : Option X) (b c : Bool)
    → c ≡ q x → (c && rest) ≡ true → (rest ≡ true → IfSome o (λ y. q y ≡ true))
    → IfSome (if b then Some x else o) (λ y. q y ≡ true)
found q x rest o true true e h next = sym e
found q x rest o true false e h next = absurd (cc)
found q x rest o false true e h next = next h
found q x rest o false false e h next = absurd (cc)

-- what holds of each element holds of the one that is found
find_passes : {X : Type 0} (p q : X → Bool) (xs : List X) → list_all q xs ≡ true
    → IfSome (find p xs) (λ x. q x ≡ true)
find_passes p q [] h = tt
find_passes p q (x ∷ xs) h =
    found q x (list_all q xs) (find p xs) (p x) (q x) refl h (find_passes p q xs)

abbrev Among : Opt → List Opt → Type 0
Among o [] = ⊥
Among o (x ∷ xs) = (o ≡ x) ⊎ Among o xs

-- the table has each option
listed : (o : Opt) → Among o options
listed opt.Form = inl refl
listed _ = search (inl, inr) depth 32

passed_over : (x : Opt) (b : Bool) (o : Option Opt) → (if b then Some x else o) ≡ None
    → (b ≡ false) × (o ≡ None)
passed_over x true o h = absurd (cc)
passed_over x false o h = (refl, h)

find_none : (p : Opt → Bool) (xs : List Opt) (o : Opt) → find p xs ≡ None → Among o xs → p o ≡ false
find_none p [] o h a = absurd a
find_none p (x ∷ xs) o h (inl e) = ap p e ∙ (passed_over x (p x) (find p xs) h).0
find_none p (x ∷ xs) o h (inr a) = find_none p xs o (passed_over x (p x) (find p xs) h).1 a

none_left : (p : Opt → Bool) → find p options ≡ None → (o : Opt) → p o ≡ false
none_left p h o = find_none p options o h (listed o)

-- ---- each default is a value of its option

abbrev fits : Values → Lack → Bool
fits (Numbers least most) (Number n) = nat_le least n && nat_le n most
fits Forms (Number n) = false
fits Paddings (Number n) = false
fits values _ = true

row_fits : (o : Opt) → list_all (λ p. fits (row_of o).values p.1) (row_of o).jobs ≡ true
row_fits opt.Form = refl
row_fits _ = refl

mapped : (q : Lack → Bool) (o : Option (JobKind × Lack)) → IfSome o (λ p. q p.1 ≡ true)
    → IfSome (option_map (λ p. p.1) o) (λ l. q l ≡ true)
mapped q None h = tt
mapped q (Some p) h = h

lack_fits : (o : Opt) (kind : JobKind) → IfSome (lack_of o kind) (λ l. fits (row_of o).values l ≡ true)
lack_fits o kind = mapped (fits (row_of o).values) _ (find_passes _ _ (row_of o).jobs (row_fits o))

-- ---- a number that is read lies within its bounds

between : (least most n : ℕ) (b c d : Bool) → c ≡ nat_le least n → d ≡ nat_le n most
    → IfSome (if b && (c && d) then Some n else None) (IsBetween least most)
between least most n true true true c d = (leb-true least n (sym c), leb-true n most (sym d))
between least most n true true false c d = tt
between least most n true false true c d = tt
between least most n true false false c d = tt
between least most n false _ _ c d = tt

number_between : (least most : ℕ) (text : List ℕ)
    → IfSome (number_within least most text) (IsBetween least most)
number_between least most text = between least most (value_of text) (is_number text) _ _ refl refl

both : (b c : Bool) → (b && c) ≡ true → (b ≡ true) × (c ≡ true)
both true true h = (refl, refl)
both true false h = absurd (cc)
both false c h = absurd (cc)

some : {X : Type 0} (P : X → Type 0) (o : Option X) → not (is_some o) ≡ false → IfSome o P
    → IsSomeAnd o P
some P None e h = absurd (cc)
some P (Some x) e h = h

needed : (least most : ℕ) (text : List ℕ) → not (is_some (number_within least most text)) ≡ false
    → IsSomeAnd (number_within least most text) (IsBetween least most)
needed least most text e =
    some (IsBetween least most) (number_within least most text) e (number_between least most text)

default_between : (least most n : ℕ) → (nat_le least n && nat_le n most) ≡ true
    → IsBetween least most n
default_between least most n h =
    let parts = both (nat_le least n) (nat_le n most) h in
    (leb-true least n parts.0, leb-true n most parts.1)

-- the number of an option that is neither unfit nor missing
number_for : (kind : JobKind) (values : Values) (lack : Option Lack) (text : Option (List ℕ))
    → IfSome lack (λ l. fits values l ≡ true)
    → option_map_or (λ t. not (is_value_of values kind t)) text false ≡ false
    → (is_need lack && not (is_some text)) ≡ false
    → IsNumberFor values lack (number_from lack values text)
number_for kind Forms None text f u m = refl
number_for kind Forms (Some Needed) None f u m = refl
number_for kind Forms (Some Open) None f u m = refl
number_for kind Forms (Some FirstWord) None f u m = refl
number_for kind Forms (Some (Number n)) None f u m = absurd (cc)
number_for kind Forms (Some l) (Some t) f u m = refl
number_for kind Paddings None text f u m = refl
number_for kind Paddings (Some Needed) None f u m = refl
number_for kind Paddings (Some Open) None f u m = refl
number_for kind Paddings (Some FirstWord) None f u m = refl
number_for kind Paddings (Some (Number n)) None f u m = absurd (cc)
number_for kind Paddings (Some l) (Some t) f u m = refl
number_for kind (Numbers least most) None text f u m = refl
number_for kind (Numbers least most) (Some Needed) None f u m = absurd (cc)
number_for kind (Numbers least most) (Some Open) None f u m = tt
number_for kind (Numbers least most) (Some FirstWord) None f u m = tt
number_for kind (Numbers least most) (Some (Number n)) None f u m = default_between least most n f
number_for kind (Numbers least most) (Some Needed) (Some t) f u m = needed least most t u
number_for kind (Numbers least most) (Some Open) (Some t) f u m = number_between least most t
number_for kind (Numbers least most) (Some FirstWord) (Some t) f u m = number_between least most t
number_for kind (Numbers least most) (Some (Number n)) (Some t) f u m = needed least most t u

-- ---- the form

same_form : (f : Form) (b : Bool) → (is_form f f || b) ≡ true
same_form Raw b = refl
same_form Demo b = refl
same_form SelfDelimited b = refl

or_true : (b c : Bool) → c ≡ true → (b || c) ≡ true
or_true true c h = refl
or_true false c h = h

later : (f : Form) (fs : List Form) (o : Option Form)
    → IfSome o (λ x. list_any (is_form x) fs ≡ true)
    → IfSome o (λ x. list_any (is_form x) (f ∷ fs) ≡ true)
later f fs None h = tt
later f fs (Some x) h = or_true (is_form x f) (list_any (is_form x) fs) h

here : (f : Form) (fs : List Form) (o : Option Form) (b : Bool)
    → IfSome o (λ x. list_any (is_form x) fs ≡ true)
    → IfSome (if b then Some f else o) (λ x. list_any (is_form x) (f ∷ fs) ≡ true)
here f fs o true h = same_form f (list_any (is_form f) fs)
here f fs o false h = later f fs o h

find_among : (p : Form → Bool) (fs : List Form)
    → IfSome (find p fs) (λ x. list_any (is_form x) fs ≡ true)
find_among p [] = tt
find_among p (f ∷ fs) = here f fs (find p fs) (p f) (find_among p fs)

form_found : (p : Form → Bool) (fs : List Form) → not (is_some (find p fs)) ≡ false
    → IsFormFor fs (find p fs)
form_found p [] e = refl
form_found p (f ∷ fs) e = some _ (find p (f ∷ fs)) e (find_among p (f ∷ fs))

form_first : (fs : List Form) → IsFormFor fs (slice_get fs 0)
form_first [] = refl
form_first (f ∷ fs) = same_form f (list_any (is_form f) fs)

form_for : (kind : JobKind) (text : Option (List ℕ))
    → option_map_or (λ t. not (is_some (form_within kind t))) text false ≡ false
    → IsFormFor (forms_of kind) (form_from kind text)
form_for kind None u = form_first (forms_of kind)
form_for kind (Some t) u = form_found (λ form. bytes_eq (form_name form) t) (forms_of kind) u

-- ---- the padding

some_is : {X : Type 0} (o : Option X) → not (is_some o) ≡ false → IsSome o
some_is None e = absurd (cc)
some_is (Some x) e = search rules

padding_for : (kind : JobKind) (lack : Option Lack) (text : Option (List ℕ))
    → option_map_or (λ t. not (is_some (padding_named t))) text false ≡ false
    → IsPaddingFor lack (padding_from lack text)
padding_for kind None text u = refl
padding_for kind (Some lack) None u = search rules
padding_for kind (Some lack) (Some t) u = some_is (padding_named t) u

-- ---- the whole job

module _ (kind : JobKind) (rows : List Row) (unfit : (o : Opt) → is_unfit kind rows o ≡ false)
    (missing : (o : Opt) → is_missing kind rows o ≡ false) where
  number_fits : (o : Opt) → IsNumberFor (row_of o).values (lack_of o kind) (number_of kind rows o)
  number_fits o = number_for kind (row_of o).values (lack_of o kind) (text_of rows o)
      (lack_fits o kind) (unfit o) (missing o)

  same_number : (o : Opt) → number_of kind rows o ≡ number_at (job_with kind rows) o
  same_number opt.Form = number_fits opt.Form
  same_number opt.Padding = number_fits opt.Padding
  same_number _ = refl

  numbers : (o : Opt)
      → IsNumberFor (row_of o).values (lack_of o kind) (number_at (job_with kind rows) o)
  numbers o = subst (λ (n : Option ℕ). IsNumberFor (row_of o).values (lack_of o kind) n)
      (same_number o) (number_fits o)

unfaulted : (o : Option Opt) (fault : Opt → UsageKind) (next : Result Job UsageKind) (job : Job)
    → first_fault o fault next ≡ Ok job → (o ≡ None) × (next ≡ Ok job)
unfaulted None fault next job h = (refl, h)
unfaulted (Some o) fault next job h = absurd (cc)

weighed_fits : (a b : Bool) (x y : UsageKind) (j job : Job)
    → (if not a then Err x else (if b then Err y else Ok j)) ≡ Ok job → (j ≡ job) × (a ≡ true) × (b ≡ false)
weighed_fits true false x y j job h = (cc, refl, refl)
weighed_fits true true x y j job h = absurd (cc)
weighed_fits false b x y j job h = absurd (cc)

judged_fits : (kind : JobKind) (rows : List Row) (job : Job) → judged kind rows ≡ Ok job → IsFit job
judged_fits kind rows job h =
    let own = unfaulted (find (is_foreign kind rows) options) _ _ job h in
    let fit = unfaulted (find (is_unfit kind rows) options) _ _ job own.1 in
    let whole = unfaulted (find (is_missing kind rows) options) _ _ job fit.1 in
    let j : Job = job_with kind rows in
    let w = weighed_fits (has_own_stream j) (is_self_of_many j) _ _ j job whole.1 in
    let unfit = none_left (is_unfit kind rows) fit.0 in
    let missing = none_left (is_missing kind rows) whole.0 in
    let this : IsFit j = record {
      numbers = numbers kind rows unfit missing;
      form = form_for kind (text_of rows opt.Form) (unfit opt.Form);
      padding = padding_for kind (lack_of opt.Padding kind) (text_of rows opt.Padding) (unfit opt.Padding);
      own_stream = w.1;
      not_self_of_many = w.2;
    } in
    subst IsFit w.0 this

named_fits : (kind : Option JobKind) (rows : List Row) (job : Job)
    → judged_if_named kind rows ≡ Ok job → IsFit job
named_fits None rows job h = absurd (cc)
named_fits (Some kind) rows job h = judged_fits kind rows job h

-- each job that is found has the options of the table
pub job_of_rows-fits : (rows : List Row) (job : Job) (r : Result Job UsageKind)
    → r ≡ job_of_rows rows → r ≡ Ok job → IsFit job
job_of_rows-fits rows job r e h = named_fits (kind_of rows) rows job (sym e ∙ h)

unless_fits : (kinds : Kinds) (rows : List Row) (job : Job) → job_unless kinds rows ≡ Ok job → IsFit job
unless_fits [] rows job h = job_of_rows-fits rows job (Ok job) (sym h) refl
unless_fits (fault ∷ faults) rows job h = absurd (cc)

-- a job that words stand for has the options of the table
pub job_of_words-fits : (words : List (List ℕ)) (job : Job) → job_of_words words ≡ Ok job → IsFit job
unfolding job_of_line
job_of_words-fits words job h =
    unless_fits (fault_of command_app (line_of words)) (matches_of command_app (line_of words)) job h
