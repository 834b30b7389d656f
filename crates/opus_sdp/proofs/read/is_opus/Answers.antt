use Rattle.std.proofs.Common.{◌≡◌, drop, ap, ◌∙◌}
use Rattle.std.proofs.lemmas.List.{take_rest}
use Rattle.std.specs.Prelude.{codes}
use Rattle.opus_sdp.specs.Text.{trim_end, trim}
use Rattle.opus_sdp.specs.Table.{same_name}
use Rattle.opus_sdp.proofs.TableLemmas.{same_name_equiv, same_name_tested}
use Rattle.opus_sdp.proofs.read.is_opus.Goals as goal

pub returns : goal.returns
returns c =
    let text = c.args.text.now in
    let codec = c.trim_end-codec.result.now in
    let is : codec ≡ trim text = c.trim_end-codec.ensures ∙ ap trim_end (take_rest text c.blanks.result)
    ∙ ap (λ n. trim_end (drop n text)) c.blanks.ensures.count in
    same_name_tested codec (codes "opus/48000/2") c.eq_ignore_ascii_case.result c.eq_ignore_ascii_case.ensures.test
    ∙ same_name_equiv.symm (codes "opus/48000/2") codec ∙ ap (λ l. same_name l (codes "opus/48000/2")) is
