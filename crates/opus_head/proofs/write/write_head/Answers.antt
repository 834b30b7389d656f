use Rattle.std.proofs.Common.{◌≡◌, ◌++◌, subst, sym, ap, ◌∙◌}
use Rattle.opus_head.specs.HeadBytes.{number_bytes, head_bytes}
use Rattle.opus_head.specs.Inside.{value_inside}
use Rattle.opus_head.proofs.WriteLemmas.{Appended, head-written}
use Rattle.opus_head.proofs.write.write_head.Goals as goal

pub returns-clause-ok : goal.returns-clause-ok
returns-clause-ok c =
    let h = value_inside c.head.inside in
    let old = c.args.out.now.items in
    let out = c.extend_from_slice-3.new.self.items in
    let numbers : c.extend_from_slice-2.new.self.items ≡ c.push_reserved-2.new.self.items ++ c.numbers.result =
    rw c.unwrap-2.ensures at c.extend_from_slice-2.ensures.items in
    let extra : out ≡ c.append_table.new.out.items ++ c.as_slice-extra.result.now =
    rw c.unwrap-3.ensures at c.extend_from_slice-3.ensures.items in
    let appended : Appended h old c.reserve.new.self.items c.extend_from_slice.new.self.items c.push_reserved.new.self.items
    c.push_reserved-2.new.self.items c.extend_from_slice-2.new.self.items c.push_reserved-3.new.self.items c.append_table.new.out.items out =
    record {
      reserved = c.in_ok-reserve.ensures.items;
      begun = rw c.unwrap.ensures at c.extend_from_slice.ensures.items;
      version = c.push_reserved.ensures.items;
      channels = c.push_reserved-2.ensures.items;
      numbers = numbers ∙ ap (λ l. c.push_reserved-2.new.self.items ++ l) (c.numbers.ensures ∙ sym (ap number_bytes c.head.view_is));
      family = c.push_reserved-3.ensures.items;
      table = c.append_table.ensures.items;
      extra = extra ∙ ap (λ l. c.append_table.new.out.items ++ l) c.as_slice-extra.ensures;
    } in
    subst (λ v. out ≡ old ++ head_bytes v) c.head.view_is (head-written h old _ _ _ _ _ _ _ out appended)
