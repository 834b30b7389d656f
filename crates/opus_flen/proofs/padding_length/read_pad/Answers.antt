use Rattle.std.proofs.Common.{◌≡◌, ◌+◌, ◌*◌, ◌<◌, get_or, sym, arith}
use Rattle.opus_flen.specs.PaddingLength.{padding_read}
use Rattle.opus_flen.specs.declared.padding_length.PadRead.TheVariants.{Pad, Cut}
use Rattle.opus_flen.proofs.PaddingLemmas.{most_full-is, full_bytes-le, full_bytes-step, padding_read-cut}
use Rattle.opus_flen.proofs.PaddingReadLemmas.{padding_read-at_last, padding_read-from_limit, padding_read-reads, IsLimit}
use Rattle.opus_flen.proofs.padding_length.read_pad.Goals as goal

at_last : (c : goal.After-from)
    → padding_read c.args.bytes.now
    ≡ Pad (255 * c.loop-place.place + c.from.result + 1) (c.loop-place.place + 1)
at_last c =
    let limit = most_full-is in
    let within = c.loop-place.invariant.within in
    let below = c.if-byte-lt255.true in
    padding_read-at_last c.args.bytes.now c.loop-place.place c.from.result
    c.loop-place.invariant.full (omega arith) c.loop-place-test.true (sym c.from.ensures)
    (omega (arith, c.from.ensures))

pub returns-then-byte-lt255-clause-exact : goal.returns-then-byte-lt255-clause-exact
returns-then-byte-lt255-clause-exact c = sym (at_last c)

pub returns-then-byte-lt255-clause-reads : goal.returns-then-byte-lt255-clause-reads
returns-then-byte-lt255-clause-reads c =
    padding_read-reads c.args.bytes.now
    (Pad (255 * c.loop-place.place + c.from.result + 1) (c.loop-place.place + 1))
    (λ i. (c.type_inv.bytes i).fits) (at_last c)

over : (c : goal.Then-place-eq-MOST_FULL) → IsLimit c.args.bytes.now c.loop-place.place
over c =
    let limit = most_full-is in
    let place = c.if-place-eq-MOST_FULL.true in
    let fits : get_or c.args.bytes.now c.loop-place.place 0 < 256 =
    (c.type_inv.bytes c.loop-place.place).fits in
    let full = c.if-byte-lt255.false in
    let step = full_bytes-step c.loop-place.place c.args.bytes.now c.loop-place.invariant.full
    c.loop-place-test.true (omega arith) in
    record { over = omega arith; place_is = omega arith }

pub returns-then-place-eq-MOST_FULL-clause-exact : goal.returns-then-place-eq-MOST_FULL-clause-exact
returns-then-place-eq-MOST_FULL-clause-exact c =
    sym (padding_read-from_limit c.args.bytes.now c.loop-place.place (over c))

pub returns-then-place-eq-MOST_FULL-clause-reads : goal.returns-then-place-eq-MOST_FULL-clause-reads
returns-then-place-eq-MOST_FULL-clause-reads c = ((over c).over, (over c).place_is)

pub loop-place-preserved : goal.loop-place-preserved
loop-place-preserved c =
    let place = c.if-place-eq-MOST_FULL.false in
    let within = c.loop-place.invariant.within in
    let fits : get_or c.args.bytes.now c.loop-place.place 0 < 256 =
    (c.type_inv.bytes c.loop-place.place).fits in
    let full = c.if-byte-lt255.false in
    record {
      full = full_bytes-step c.loop-place.place c.args.bytes.now c.loop-place.invariant.full
          c.loop-place-test.true (omega arith);
      within = omega arith;
    }

all_full : (c : goal.After-loop-place) → padding_read c.args.bytes.now ≡ Cut
all_full c =
    let limit = most_full-is in
    let ended = c.loop-place-test.false in
    let full = c.loop-place.invariant.full in
    let within = c.loop-place.invariant.within in
    let least = full_bytes-le c.args.bytes.now in
    padding_read-cut c.args.bytes.now (omega arith) (omega arith)

pub returns-clause-exact : goal.returns-clause-exact
returns-clause-exact c = sym (all_full c)

pub returns-clause-reads : goal.returns-clause-reads
returns-clause-reads c =
    padding_read-reads c.args.bytes.now Cut (λ i. (c.type_inv.bytes i).fits) (all_full c)
