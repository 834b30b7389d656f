use Rattle.std.proofs.Common.{◌≡◌, ◌<◌, ◌+◌, [], length, map, drop, None, Ok, Err, sym, ap, subst, ◌∙◌, rules, arith}
use Rattle.std.proofs.lemmas.List.{take_rest}
use Rattle.std.specs.List.{position_or_len, before_first}
use Rattle.opus_sdp.specs.Text.{is_semicolon}
use Rattle.opus_sdp.specs.Fault.{first_fault}
use Rattle.opus_sdp.specs.Parts.{parts_of, param_of}
use Rattle.opus_sdp.specs.Found.{Tells, Stands, TakesAll, piece_parts}
use Rattle.opus_sdp.proofs.ReadLemmas.{size-shown, piece-shown, going-fault, going-done, going-more}
use Rattle.opus_sdp.proofs.read.read_params.Goals as goal
use Rattle.opus_sdp.proofs.read.read_params.Goals.{In_ok-take_piece, Then-size-rest}

pub returns-in_err-take_piece-clause-fault : goal.returns-in_err-take_piece-clause-fault
returns-in_err-take_piece-clause-fault c =
    let going = c.loop-found.invariant in
    let text = c.args.text.now in
    let from = c.loop-found.from in
    let fault = c.in_err-take_piece.field-0.0 in
    let takes = subst (λ p. TakesAll (Err fault) c.take_piece.new.self going.before (piece_parts (c.args.at + from) p))
    (piece-shown text from c.until-size.result c.until-size.ensures.count)
    (c.in_err-take_piece.ensures going.before going.stands) in
    let told : Tells fault (first_fault _ (parts_of c.args.at text)) =
    going-fault c.args.at text c.loop-found.found c.take_piece.new.self from fault going takes in
    search rules

-- the piece was taken
piece-taken : (c : In_ok-take_piece) → TakesAll (Ok tt) c.take_piece.new.self c.loop-found.invariant.before
    (piece_parts (c.args.at + c.loop-found.from) (before_first is_semicolon (drop c.loop-found.from c.args.text.now)))
piece-taken c =
    let going = c.loop-found.invariant in
    let from = c.loop-found.from in
    subst (λ p. TakesAll (Ok tt) c.take_piece.new.self going.before (piece_parts (c.args.at + from) p))
    (piece-shown c.args.text.now from c.until-size.result c.until-size.ensures.count)
    (c.in_ok-take_piece.ensures going.before going.stands)

-- it was the last one
all-taken : (c : Then-size-rest) → TakesAll (Ok tt) c.take_piece.new.self c.loop-found.invariant.before
    (piece_parts (c.args.at + c.loop-found.from) (before_first is_semicolon (drop c.loop-found.from c.args.text.now)))
    → (first_fault [] (parts_of c.args.at c.args.text.now) ≡ None) × Stands c.take_piece.new.self (map param_of (parts_of c.args.at c.args.text.now))
all-taken c =
    let text = c.args.text.now in
    let from = c.loop-found.from in
    let whole = sym (size-shown text from c.until-size.result c.until-size.ensures.count) ∙ c.if-size-rest.true ∙ ap length (take_rest text from) in
    going-done c.args.at text c.loop-found.found c.take_piece.new.self from c.loop-found.invariant whole

pub returns-then-size-rest-clause-none : goal.returns-then-size-rest-clause-none
returns-then-size-rest-clause-none c =
    let at = goal.at.returns-then-size-rest-clause-none c in
    (all-taken at.Then-size-rest (piece-taken at.In_ok-take_piece)).0

pub returns-then-size-rest-clause-ok : goal.returns-then-size-rest-clause-ok
returns-then-size-rest-clause-ok c =
    let at = goal.at.returns-then-size-rest-clause-ok c in
    c.finish.ensures _ (all-taken at.Then-size-rest (piece-taken at.In_ok-take_piece)).1

pub loop-found-preserved : goal.loop-found-preserved
loop-found-preserved c =
    let text = c.args.text.now in
    let from = c.loop-found.from in
    let size = size-shown text from c.until-size.result c.until-size.ensures.count in
    let all = ap length (take_rest text from) in
    let cut : position_or_len is_semicolon (drop from text) < length (drop from text) = omega (arith, c.until-size.ensures.within) in
    rw size (going-more c.args.at text c.loop-found.found c.take_piece.new.self from c.loop-found.invariant cut
    (piece-taken (goal.at.loop-found-preserved c).In_ok-take_piece))
