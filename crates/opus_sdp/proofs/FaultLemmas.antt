-- The faults of a parameter, and one parameter more.
use Rattle.std.proofs.Common.{◌≡◌, ◌<◌, ⊎_elim, ℕ, Bool, true, false, ◌||◌, ◌&&◌, nat_le, List, [], ◌∷◌, ◌++◌, length, get_or, get_or-set_other, is_some, Option, Some, None, if◌then◌else◌, refl, sym, ap, ◌∙◌, arith}
use Rattle.std.proofs.Math.ListN.{set, length-set}
use Rattle.std.proofs.lemmas.Grind.{get_or-set_at}
use Rattle.std.proofs.lemmas.Bool.{cases_eq}
use Rattle.std.proofs.lemmas.List.Folds.{list_any-append}
use Rattle.text_numbers.specs.Number.{value_of, is_number, number_within}
use Rattle.opus_sdp.specs.Table.{row_of, row_at, same_name, is_named, is_allowed}
use Rattle.opus_sdp.specs.Params.{number, others}
use Rattle.opus_sdp.specs.Parts.{Part, name_of, value_at, param_of}
use Rattle.opus_sdp.specs.Fault.{has_name, fault_after}
use Rattle.opus_sdp.specs.Names.{has_met}
use Rattle.opus_sdp.specs.Found.{Stands}
use Rattle.opus_sdp.specs.declared.param.Param.{Param}
use Rattle.opus_sdp.specs.declared.found.Found.{Found}
use Rattle.opus_sdp.specs.declared.fault.SdpFault.TheVariants.{Repeat, Value}
use Rattle.opus_sdp.proofs.ParamsLemmas.{is_named-known, is_named-other, number-other, number-first, others-known, others-other}

-- which fault it is

pub repeat-is : (before : List Param) (p : Part) → has_name p.text ≡ true → is_named (name_of p.text) before ≡ true
    → fault_after before p ≡ Some (Repeat p.at)
repeat-is before p has repeats = rw (has, repeats) refl

pub value-is : (before : List Param) (p : Part) → has_name p.text ≡ true → is_named (name_of p.text) before ≡ false
    → is_allowed (name_of p.text) (value_at p).text ≡ false → fault_after before p ≡ Some (Value (value_at p).at)
value-is before p has repeats allowed = rw (has, repeats, allowed) refl

pub none-is : (before : List Param) (p : Part) → has_name p.text ≡ true → is_named (name_of p.text) before ≡ false
    → is_allowed (name_of p.text) (value_at p).text ≡ true → fault_after before p ≡ None
none-is before p has repeats allowed = rw (has, repeats, allowed) refl

-- a number that is read is that of the text

some_value : (b : Bool) (v : ℕ) (o : Option ℕ) → o ≡ (if b then Some v else None) → is_some o ≡ true → o ≡ Some v
some_value true v o said some = said
some_value false v o said some = let none = ap is_some said in cc

pub some_number : (least most : ℕ) (text : List ℕ) (o : Option ℕ) → o ≡ number_within least most text → is_some o ≡ true
    → o ≡ Some (value_of text)
some_number least most text =
    some_value (is_number text && (nat_le least (value_of text) && nat_le (value_of text) most)) (value_of text)

pub number_within-row : (row least most : ℕ) (text : List ℕ) (o : Option ℕ) (p : Part) → o ≡ number_within least most text
    → least ≡ (row_at row).least → most ≡ (row_at row).most → text ≡ (value_at p).text
    → o ≡ number_within (row_at row).least (row_at row).most (value_at p).text
number_within-row row least most text o p said low high same =
    said ∙ ap (λ n. number_within n most text) low ∙ ap (λ n. number_within (row_at row).least n text) high
    ∙ ap (number_within (row_at row).least (row_at row).most) same

-- what is kept says that the name wasn't met
pub is_new : (found : Found) (before : List Param) (name : List ℕ) (row : ℕ) (b : Bool) → Stands found before → row < 8 → row_of name ≡ row
    → b ≡ is_some (get_or found.numbers row None) → is_named name before ≡ b
is_new found before name row b stands known at said =
    is_named-known name row known at before ∙ ap is_some (sym (stands.numbers row known)) ∙ sym said

-- one known parameter more

put-number : (numbers : List (Option ℕ)) (before : List Param) (p : Param) (row : ℕ) (n : Option ℕ) → length numbers ≡ 8 → row < 8
    → row_of p.name ≡ row → is_some (number row before) ≡ false → n ≡ Some (value_of p.value)
    → ((i : ℕ) → i < 8 → get_or numbers i None ≡ number i before)
    → (i : ℕ) → i < 8 → get_or (set numbers row n) i None ≡ number i (before ++ p ∷ [])
put-number numbers before p row n size known at none said stands i within =
    let inside : row < length numbers = omega arith in
    ⊎_elim
    (λ here. get_or-set_at numbers row i n None here inside ∙ said ∙ sym (number-first row before p at none)
    ∙ ap (λ k. number k (before ++ p ∷ [])) (sym here))
    (λ apart. get_or-set_other numbers row i n None apart ∙ (stands i within ∙ sym (number-other i before p (λ there. apart (sym there ∙ at)))))
    (cases_eq i row)

pub took-known : (found : Found) (before : List Param) (p : Param) (row : ℕ) (n : Option ℕ) → Stands found before → row < 8
    → row_of p.name ≡ row → is_some (number row before) ≡ false → n ≡ Some (value_of p.value)
    → Stands (record found { numbers = set found.numbers row n }) (before ++ p ∷ [])
took-known found before p row n stands known at none said = record {
  size = simp length-set stands.size;
  numbers = put-number found.numbers before p row n stands.size known at none said stands.numbers;
  rest = stands.rest ∙ sym (others-known before p (rw at known));
  names = λ name. stands.names name ∙ ap (is_named name) (sym (others-known before p (rw at known)));
}

-- one other parameter more

or_false : (b : Bool) → (b || false) ≡ b
or_false true = refl
or_false false = refl

-- what is kept goes on from what was kept, with one name more
pub record HasOther (old now : Found) (p : Param) : Type 0 where
  pub numbers : now.numbers ≡ old.numbers
  pub rest : now.others.items ≡ old.others.items ++ p ∷ []
  pub names : (name : List ℕ) → has_met now.names name ≡ (has_met old.names name || same_name p.name name)

pub took-other : (old now : Found) (before : List Param) (p : Param) → Stands old before → row_of p.name ≡ 8 → HasOther old now p
    → Stands now (before ++ p ∷ [])
took-other old now before p stands at has = record {
  size = ap length has.numbers ∙ stands.size;
  numbers = λ i within. ap (λ l. get_or l i None) has.numbers ∙ stands.numbers i within
      ∙ sym (number-other i before p (λ there. omega arith));
  rest = has.rest ∙ ap (λ l. l ++ p ∷ []) stands.rest ∙ sym (others-other before p at);
  names = λ name. has.names name ∙ ap (λ b. b || same_name p.name name) (stands.names name)
      ∙ sym (ap (is_named name) (others-other before p at)
      ∙ list_any-append (λ (q : Param). same_name q.name name) (others before) (p ∷ [])
      ∙ ap (λ b. is_named name (others before) || b) (or_false (same_name p.name name)));
}

-- what is kept says whether another name was met
pub is_met : (found : Found) (before : List Param) (name : List ℕ) → Stands found before → row_of name ≡ 8
    → has_met found.names name ≡ is_named name before
is_met found before name stands at = stands.names name ∙ sym (is_named-other name at before)

pub same_param : (p : Part) (name value : List ℕ) → name ≡ name_of p.text → value ≡ (value_at p).text
    → (let q : Param = record { name = name; value = value } in q) ≡ param_of p
same_param p name value named says = cc
