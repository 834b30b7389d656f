use Rattle.std.proofs.Common.{◌≡◌, ◌<◌, ◌+◌, length, ap, sym, ◌∙◌, subst, arith}
use Rattle.std.specs.List.{filter_map, zip}
use Rattle.std.specs.Fmt.{decimal}
use Rattle.opus_sdp.specs.Table.{table, row_at}
use Rattle.opus_sdp.specs.Printed.{params_after, row_param, known_params}
use Rattle.opus_sdp.specs.Writing.{Counts}
use Rattle.opus_sdp.proofs.WriteLemmas.{rows_before, row_text, rows-none, rows-some, rows-all}
use Rattle.opus_sdp.proofs.SizeLemmas.{counts_sum, size-more}
use Rattle.opus_sdp.proofs.size.known_size.Goals as goal
use Rattle.opus_sdp.proofs.size.known_size.Goals.{in-Some, in_default}

pub loop-row-preserved : goal.loop-row-preserved
loop-row-preserved c =
    let numbers = c.numbers.result in
    let i = c.loop-row.row in
    let size : length numbers ≡ 8 = ap length c.numbers.ensures in
    let within : i < length numbers = omega arith in
    elim c.match-number.branch [
      | in-Some w ↦
          let n = w.in-Some.number in
          let more = rows-some i numbers n c.loop-row-test.true within w.in-Some.is in
          let own : Counts w.param_size.result (length (row_at i).name + length (decimal n) + 2) =
          rw (sym (ap length w.at.ensures.name), sym w.digits.ensures) w.param_size.ensures in (
            c.loop-row.invariant.0,
            rw w.size-is (subst (Counts w.saturating_add-size.result) (sym (ap (λ ps. length (params_after 32 ps)) more ∙ size-more 32 (rows_before i numbers) (row_text i n)))
                (counts_sum c.loop-row.size w.param_size.result _ _ w.saturating_add-size.result c.loop-row.invariant.1 own w.saturating_add-size.ensures)),
          )
      | in_default w ↦
          let same = rows-none i numbers c.loop-row-test.true within w.in_default.is in (
            c.loop-row.invariant.0,
            rw w.size-is (subst (Counts c.loop-row.size) (sym (ap (λ ps. length (params_after 32 ps)) same)) c.loop-row.invariant.1),
          )
    ]

-- all rows were looked at
pub returns : goal.returns
returns c =
    let end : c.loop-row.row ≡ 8 = omega arith in
    let all : rows_before c.loop-row.row c.numbers.result ≡ known_params c.args.fmtp.now =
    ap (λ i. rows_before i c.numbers.result) end ∙ rows-all c.numbers.result
    ∙ ap (λ numbers. filter_map row_param (zip table numbers)) c.numbers.ensures in
    subst (λ ps. Counts c.loop-row.size (length (params_after 32 ps))) all c.loop-row.invariant.1
