use Rattle.std.proofs.Common.{◌≡◌, ◌<◌, ◌+◌, [], ◌∷◌, ◌++◌, length, drop, ap, sym, ◌∙◌, arith, vec_capacity}
use Rattle.std.specs.List.{filter_map, zip}
use Rattle.opus_sdp.specs.Table.{table, row_at}
use Rattle.opus_sdp.specs.Printed.{params_after, row_param, known_params}
use Rattle.opus_sdp.specs.Writing.{separator_behind}
use Rattle.opus_sdp.proofs.WriteLemmas.{printed-more, separator-append, rows_before, row_text, rows-none, rows-some, rows-all}
use Rattle.opus_sdp.proofs.SizeLemmas.{param, rows-split, room-more}
use Rattle.opus_sdp.proofs.write.push_known.Goals as goal
use Rattle.opus_sdp.proofs.write.push_known.Goals.{in-Some, in_default}

pub push_param-requires : goal.push_param-requires
push_param-requires c =
    let numbers = c.numbers.result in
    let i = c.loop-row.row in
    let n = c.in-Some.number in
    let size : length numbers ≡ 8 = ap length c.numbers.ensures in
    let within : i < length numbers = omega arith in
    let more = rows-some i numbers n c.loop-row-test.true within c.in-Some.is in
    let name = c.at.result.name.now in
    let value = c.as_bytes-value.result.now in
    let rest = filter_map row_param (drop (i + 1) (zip table numbers)) in
    let is : param name value ≡ row_text i n =
    ap (λ l. param l value) c.at.ensures.name ∙ ap (param (row_at i).name) (c.as_bytes-value.ensures.value ∙ c.format.ensures.text) in
    room-more c.args.out.now.items c.loop-row.out.items 32 c.loop-row.separator (rows_before i numbers) (param name value) rest
    (known_params c.args.fmtp.now) (vec_capacity c.args.out.now) (vec_capacity c.loop-row.out)
    c.loop-row.invariant.1 c.loop-row.invariant.2
    (ap (λ q. (rows_before i numbers ++ q ∷ []) ++ rest) is ∙ ap (λ ps. ps ++ rest) (sym more) ∙ rows-split (i + 1) numbers
    ∙ ap (λ l. filter_map row_param (zip table l)) c.numbers.ensures)
    c.requires c.loop-row.invariant.3

pub loop-row-preserved : goal.loop-row-preserved
loop-row-preserved c =
    let numbers = c.numbers.result in
    let i = c.loop-row.row in
    let old = c.args.out.now.items in
    let out = c.loop-row.out.items in
    let next = c.loop-row.separator in
    let size : length numbers ≡ 8 = ap length c.numbers.ensures in
    let within : i < length numbers = omega arith in
    elim c.match-number.branch [
      | in-Some w ↦
          let n = w.in-Some.number in
          let more = rows-some i numbers n c.loop-row-test.true within w.in-Some.is in
          let value = w.as_bytes-value.ensures.value ∙ w.format.ensures.text in
          let pushed = w.push_param.ensures.items
          ∙ ap (λ l. out ++ next ∷ (l ++ 61 ∷ w.as_bytes-value.result.now)) w.at.ensures.name
          ∙ ap (λ l. out ++ next ∷ ((row_at i).name ++ 61 ∷ l)) value in
          let printed = printed-more old out w.push_param.new.out.items 32 next (rows_before i numbers) (row_text i n)
          c.loop-row.invariant.1 c.loop-row.invariant.2 pushed in (
            c.loop-row.invariant.0,
            ap (λ v. v.items) w.out-is ∙ printed ∙ ap (λ ps. old ++ params_after 32 ps) (sym more),
            w.separator-is ∙ sym (ap (separator_behind 32) more ∙ separator-append 32 (rows_before i numbers) (row_text i n)),
            omega (arith, ap (λ v. vec_capacity v) w.out-is, w.push_param.ensures.capacity, c.loop-row.invariant.3),
          )
      | in_default w ↦
          let same = rows-none i numbers c.loop-row-test.true within w.in_default.is in (
            c.loop-row.invariant.0,
            ap (λ v. v.items) w.out-is ∙ c.loop-row.invariant.1 ∙ ap (λ ps. old ++ params_after 32 ps) (sym same),
            w.separator-is ∙ c.loop-row.invariant.2 ∙ ap (separator_behind 32) (sym same),
            omega (arith, ap (λ v. vec_capacity v) w.out-is, c.loop-row.invariant.3),
          )
    ]

-- all rows were looked at
rows_are : (c : goal.After-loop-row) → rows_before c.loop-row.row c.numbers.result ≡ known_params c.args.fmtp.now
rows_are c =
    let end : c.loop-row.row ≡ 8 = omega arith in
    ap (λ i. rows_before i c.numbers.result) end ∙ rows-all c.numbers.result
    ∙ ap (λ numbers. filter_map row_param (zip table numbers)) c.numbers.ensures

pub returns-clause-items : goal.returns-clause-items
returns-clause-items c = c.loop-row.invariant.1 ∙ ap (λ ps. c.args.out.now.items ++ params_after 32 ps) (rows_are c)

pub returns-clause-separator : goal.returns-clause-separator
returns-clause-separator c = c.loop-row.invariant.2 ∙ ap (separator_behind 32) (rows_are c)
