use Rattle.std.proofs.Common.{◌≡◌, true, false, ◌||◌, is_ok, [], ◌∷◌, ◌++◌, Some, inr, refl, sym, ap, ◌∙◌}
use Rattle.std.proofs.lemmas.Bool.{not-true, not-false}
use Rattle.opus_sdp.specs.Parts.{name_of, value_at}
use Rattle.opus_sdp.specs.Table.{same_name}
use Rattle.opus_sdp.specs.Names.{has_met}
use Rattle.opus_sdp.specs.declared.fault.SdpFault.TheVariants.{Repeat}
use Rattle.opus_sdp.proofs.TableLemmas.{is_allowed-other}
use Rattle.opus_sdp.proofs.FaultLemmas.{repeat-is, none-is, is_met, same_param, took-other}
use Rattle.opus_sdp.proofs.found.Found.take_other.Goals as goal

pub returns-then-not-branch : goal.returns-then-not-branch
returns-then-not-branch c = λ before p stands written has at.
    let names = c.args.self.now.names in
    let met : has_met names c.args.written.name.now ≡ true = not-false _ (sym c.in_ok-add.ensures.added ∙ c.if-not-branch.true) in
    let named = sym (is_met c.args.self.now before (name_of p.text) stands at) ∙ ap (has_met names) (sym written.name) ∙ met in
    inr (repeat-is before p has named ∙ ap (λ n. Some (Repeat n)) (sym written.at))

pub returns : goal.returns
returns c = λ before p stands written has at.
    let names = c.args.self.now.names in
    let met : has_met names c.args.written.name.now ≡ false = not-true _ (sym c.in_ok-add.ensures.added ∙ c.if-not-branch.false) in
    let named = sym (is_met c.args.self.now before (name_of p.text) stands at) ∙ ap (has_met names) (sym written.name) ∙ met in
    let pushed : is_ok c.push.result ≡ true = sym c.map_err.ensures.variant ∙ ap is_ok c.in_ok-map_err.was in
    let param = same_param p c.in_ok-copy.field-0 c.in_ok-copy-2.field-0 (c.in_ok-copy.ensures ∙ written.name)
    (c.in_ok-copy-2.ensures ∙ ap (λ v. v.text) written.value) in
    let items = rw pushed at c.push.ensures.items in (
      none-is before p has named (is_allowed-other (name_of p.text) (value_at p).text at),
      took-other c.args.self.now _ before _ stands at record {
        numbers = refl;
        rest = items ∙ ap (λ q. c.args.self.now.others.items ++ q ∷ []) param;
        names = λ name. c.in_ok-add.ensures.names name ∙ ap (λ n. has_met names name || same_name n name) written.name;
      },
    )
