use Rattle.std.proofs.Common.{◌≡◌, true, false, is_some, Some, inr, sym, ap, ◌∙◌}
use Rattle.opus_sdp.specs.Table.{row_at, is_allowed}
use Rattle.opus_sdp.specs.Parts.{name_of, value_at}
use Rattle.opus_sdp.specs.declared.fault.SdpFault.TheVariants.{Repeat, Value}
use Rattle.opus_sdp.proofs.TableLemmas.{is_allowed-row}
use Rattle.opus_sdp.proofs.ParamsLemmas.{is_named-known}
use Rattle.opus_sdp.proofs.FaultLemmas.{repeat-is, value-is, none-is, number_within-row, some_number, is_new, took-known}
use Rattle.opus_sdp.proofs.found.Found.take_known.Goals as goal

pub returns-then-is_some : goal.returns-then-is_some
returns-then-is_some c = λ before p stands written has at.
    let named = is_new c.args.self.now before (name_of p.text) c.args.row c.is_some.result stands c.requires at c.is_some.ensures in
    inr (repeat-is before p has (named ∙ c.if-is_some.true) ∙ ap (λ n. Some (Repeat n)) (sym written.at))

pub returns-then-is_none : goal.returns-then-is_none
returns-then-is_none c = λ before p stands written has at.
    let named = is_new c.args.self.now before (name_of p.text) c.args.row c.is_some.result stands c.requires at c.is_some.ensures in
    let said = number_within-row c.args.row c.at-known.result.least c.at-known.result.most c.args.written.value.now c.read_number-number.result p
    c.read_number-number.ensures.value c.at-known.ensures.least c.at-known.ensures.most (ap (λ v. v.text) written.value) in
    let refused : is_allowed (name_of p.text) (value_at p).text ≡ false =
    is_allowed-row (name_of p.text) (value_at p).text c.args.row c.requires at ∙ ap is_some (sym said) ∙ c.if-is_none.ensures in
    inr (value-is before p has (named ∙ c.if-is_some.false) refused ∙ ap (λ v. Some (Value v.at)) (sym written.value))

pub returns : goal.returns
returns c = λ before p stands written has at.
    let named = is_new c.args.self.now before (name_of p.text) c.args.row c.is_some.result stands c.requires at c.is_some.ensures in
    let said = number_within-row c.args.row c.at-known.result.least c.at-known.result.most c.args.written.value.now c.read_number-number.result p
    c.read_number-number.ensures.value c.at-known.ensures.least c.at-known.ensures.most (ap (λ v. v.text) written.value) in
    let allowed : is_allowed (name_of p.text) (value_at p).text ≡ true =
    is_allowed-row (name_of p.text) (value_at p).text c.args.row c.requires at ∙ ap is_some (sym said) ∙ c.if-is_none.ensures in
    let new = is_named-known (name_of p.text) c.args.row c.requires at before in
    let value = some_number (row_at c.args.row).least (row_at c.args.row).most (value_at p).text c.read_number-number.result said c.if-is_none.ensures in (
      none-is before p has (named ∙ c.if-is_some.false) allowed,
      took-known c.args.self.now before _ c.args.row c.read_number-number.result stands c.requires at (sym new ∙ named ∙ c.if-is_some.false) value,
    )
