use Rattle.std.proofs.Common.{[], ◌∷◌, codes, OnErr, sym, ◌∙◌}
use Rattle.opus_io.proofs.Onward.{Onward-trans}
use Rattle.job_loop.specs.Telling.{Front}
use Rattle.opuspack.proofs.PartsLemmas.{piece_front_if, second_front, third_front}
use Rattle.opuspack.proofs.HeadLemmas.{factors_text, matrix_by}
use Rattle.opuspack.proofs.head.write_matrix.Goals as goal

pub returns-in-Err-write_texts-clause-front : goal.returns-in-Err-write_texts-clause-front
returns-in-Err-write_texts-clause-front g c =
    let h = c.args.head.now in
    let old = g.O.Sink.contents c.args.out.now in
    let mid = g.O.Sink.contents c.write_all.new.sink in
    let new = g.O.Sink.contents c.write_texts.new.out in
    matrix_by h h.table c.in-Matrix.streams c.in-Matrix.coupled c.in-Matrix.entries (λ t. Front t old new)
    (sym c.table.ensures ∙ c.in-Matrix.is)
    (second_front (codes "matrix:") (factors_text h h.table) (10 ∷ []) old mid new new c.in_default-write_all.ensures.ok
    c.in-Err-write_texts.ensures.front)

pub returns-in-Err-write_texts-clause-onward : goal.returns-in-Err-write_texts-clause-onward
returns-in-Err-write_texts-clause-onward g c =
    Onward-trans _ _ _ _ _ _ c.in_default-write_all.ensures.onward c.in-Err-write_texts.ensures.onward

pub returns-clause-front : goal.returns-clause-front
returns-clause-front g c =
    let h = c.args.head.now in
    let old = g.O.Sink.contents c.args.out.now in
    let mid = g.O.Sink.contents c.write_all.new.sink in
    let now = g.O.Sink.contents c.write_texts.new.out in
    let new = g.O.Sink.contents c.write_all-2.new.sink in
    let stopped = c.write_all-2.result in
    matrix_by h h.table c.in-Matrix.streams c.in-Matrix.coupled c.in-Matrix.entries (λ t. OnErr stopped (Front t old new))
    (sym c.table.ensures ∙ c.in-Matrix.is)
    (third_front (codes "matrix:") (factors_text h h.table) (10 ∷ []) old mid now new stopped c.in_default-write_all.ensures.ok
    c.in_default-write_texts.ensures.ok (piece_front_if stopped (10 ∷ []) now new c.write_all-2.ensures.front))

pub returns-clause-onward : goal.returns-clause-onward
returns-clause-onward g c =
    Onward-trans _ _ _ _ _ _ c.in_default-write_all.ensures.onward
    (Onward-trans _ _ _ _ _ _ c.in_default-write_texts.ensures.onward c.write_all-2.ensures.onward)
