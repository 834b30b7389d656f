use Rattle.std.proofs.Common.{rules, ◌≡◌, ◌++◌, ◌∙◌, sym, ap, subst}
use Rattle.opus_packet.specs.Canonical.{canonical, canonical_self_delimited, kept_form, kept_self_delimited}
use Rattle.opus_packet.specs.Tail.{kept_bytes}
use Rattle.opus_packet.proofs.SpellingLemmas.{kept_form-nil}
use Rattle.opus_writer.proofs.FormLemmas.{kept_self-nil}
use Rattle.pack_records.specs.Fits.{form_of}
use Rattle.pack_records.proofs.kept_form.append_form.Goals as goal

whole : (c : goal.After-unwrap-in-Whole-Dropped) → c.write_canon.new.out.items ≡ c.args.out.now.items ++ canonical c.args.packet.now.value
whole c = search rules

delimited : (c : goal.After-unwrap-in-SelfDelimited-Dropped) → c.write_canon_self.new.out.items ≡ c.args.out.now.items ++ canonical_self_delimited c.args.packet.now.value
delimited c = search rules

pub returns-in-Whole-Dropped-clause-form : goal.returns-in-Whole-Dropped-clause-form
returns-in-Whole-Dropped-clause-form c =
    let old = c.args.out.now.items in
    let v = c.args.packet.now.value in
    subst (λ f. c.write_canon.new.out.items ≡ old ++ form_of f v (kept_bytes c.args.packet.now.tail))
    (sym c.in-Whole-Dropped.is-0)
    (subst (λ t. c.write_canon.new.out.items ≡ old ++ kept_form v (kept_bytes t)) c.in-Whole-Dropped.ensures.tail
    (whole c ∙ ap (λ l. old ++ l) (sym (kept_form-nil v))))

pub returns-in-SelfDelimited-Dropped-clause-form : goal.returns-in-SelfDelimited-Dropped-clause-form
returns-in-SelfDelimited-Dropped-clause-form c =
    let old = c.args.out.now.items in
    let v = c.args.packet.now.value in
    subst (λ f. c.write_canon_self.new.out.items ≡ old ++ form_of f v (kept_bytes c.args.packet.now.tail))
    (sym c.in-SelfDelimited-Dropped.is-0)
    (subst (λ t. c.write_canon_self.new.out.items ≡ old ++ kept_self_delimited v (kept_bytes t))
    c.in-SelfDelimited-Dropped.ensures.tail
    (delimited c ∙ ap (λ l. old ++ l) (sym (kept_self-nil v))))
