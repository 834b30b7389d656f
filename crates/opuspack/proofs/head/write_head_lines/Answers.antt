use Rattle.std.proofs.Common.{◌≡◌, subst, ◌∙◌}
use Rattle.opus_io.proofs.Onward.{Onward-trans}
use Rattle.std.specs.Io.KnownBytes.{Appends}
use Rattle.job_loop.specs.Telling.{Front}
use Rattle.opuspack.specs.Texts.{all_texts}
use Rattle.opuspack.specs.HeadLines.{field_lines, channel_line, matrix_line, head_lines}
use Rattle.opuspack.proofs.PartsLemmas.{piece_front, first_front, second_front, third_front, all_three_if}
use Rattle.opuspack.proofs.head.write_head_lines.Goals as goal

pub returns-in-Err-clause-front : goal.returns-in-Err-clause-front
unfolding head_lines
returns-in-Err-clause-front g c =
    let h = c.args.head.now in
    let old = g.O.Sink.contents c.args.out.now in
    let new = g.O.Sink.contents c.write_all.new.sink in
    let is : c.as_bytes.result.now ≡ field_lines h = c.as_bytes.ensures.value ∙ c.as_str.ensures.value ∙ c.field_lines.ensures in
    first_front (field_lines h) (all_texts (channel_line h) h.channels) (matrix_line h h.table) old new new new
    (subst (λ t. Front t old new) is (piece_front c.as_bytes.result.now old new c.in-Err.ensures.front))

pub returns-in-Err-write_texts-clause-front : goal.returns-in-Err-write_texts-clause-front
unfolding head_lines
returns-in-Err-write_texts-clause-front g c =
    let h = c.args.head.now in
    let old = g.O.Sink.contents c.args.out.now in
    let mid = g.O.Sink.contents c.write_all.new.sink in
    let new = g.O.Sink.contents c.write_texts.new.out in
    let is : c.as_bytes.result.now ≡ field_lines h = c.as_bytes.ensures.value ∙ c.as_str.ensures.value ∙ c.field_lines.ensures in
    second_front (field_lines h) (all_texts (channel_line h) h.channels) (matrix_line h h.table) old mid new new
    (subst (λ t. Appends old mid t) is c.in_default.ensures.ok) c.in-Err-write_texts.ensures.front

pub returns-in-Err-write_texts-clause-onward : goal.returns-in-Err-write_texts-clause-onward
returns-in-Err-write_texts-clause-onward g c =
    Onward-trans _ _ _ _ _ _ c.in_default.ensures.onward c.in-Err-write_texts.ensures.onward

pub returns-clause-ok : goal.returns-clause-ok
unfolding head_lines
returns-clause-ok g c =
    let h = c.args.head.now in
    let old = g.O.Sink.contents c.args.out.now in
    let mid = g.O.Sink.contents c.write_all.new.sink in
    let now = g.O.Sink.contents c.write_texts.new.out in
    let new = g.O.Sink.contents c.write_matrix.new.out in
    let is : c.as_bytes.result.now ≡ field_lines h = c.as_bytes.ensures.value ∙ c.as_str.ensures.value ∙ c.field_lines.ensures in
    all_three_if (field_lines h) (all_texts (channel_line h) h.channels) (matrix_line h h.table) old mid now new c.write_matrix.result
    (subst (λ t. Appends old mid t) is c.in_default.ensures.ok) c.in_default-write_texts.ensures.ok c.write_matrix.ensures.ok

pub returns-clause-front : goal.returns-clause-front
unfolding head_lines
returns-clause-front g c =
    let h = c.args.head.now in
    let old = g.O.Sink.contents c.args.out.now in
    let mid = g.O.Sink.contents c.write_all.new.sink in
    let now = g.O.Sink.contents c.write_texts.new.out in
    let new = g.O.Sink.contents c.write_matrix.new.out in
    let is : c.as_bytes.result.now ≡ field_lines h = c.as_bytes.ensures.value ∙ c.as_str.ensures.value ∙ c.field_lines.ensures in
    third_front (field_lines h) (all_texts (channel_line h) h.channels) (matrix_line h h.table) old mid now new c.write_matrix.result
    (subst (λ t. Appends old mid t) is c.in_default.ensures.ok) c.in_default-write_texts.ensures.ok c.write_matrix.ensures.front

pub returns-clause-onward : goal.returns-clause-onward
returns-clause-onward g c =
    Onward-trans _ _ _ _ _ _ c.in_default.ensures.onward
    (Onward-trans _ _ _ _ _ _ c.in_default-write_texts.ensures.onward c.write_matrix.ensures.onward)
