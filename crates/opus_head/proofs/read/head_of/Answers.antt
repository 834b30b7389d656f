use Rattle.std.proofs.Common.{◌≡◌, sym, ap, subst, ◌∙◌, drop, arith}
use Rattle.std.specs.Int.{w16, cast_signed, cast_unsigned}
use Rattle.std.proofs.lemmas.Int.{of_z-to_z}
use Rattle.byteorder.specs.Endian.{little_number}
use Rattle.opus_io.proofs.BytesLemmas.{AreBytes-from, AreBytes-drop}
use Rattle.opus_head.specs.HeadValue.{HeadValue, IsHead, AreBytes}
use Rattle.opus_head.specs.HeadRead.{head_in}
use Rattle.opus_head.proofs.NoFaultLemmas.{NoFault-none, least_size}
use Rattle.opus_head.proofs.NumberLemmas.{little_number-two}
use Rattle.opus_head.proofs.SpelledLemmas.{head_in-spelled}
use Rattle.opus_head.proofs.ReadingLemmas.{same_head}
use Rattle.opus_head.proofs.read.head_of.Goals as goal

pub number_16-requires : goal.number_16-requires
number_16-requires c =
    let size = least_size c.args.bytes.now (NoFault-none c.args.bytes.now c.requires.fault) in omega arith

pub number_32-requires : goal.number_32-requires
number_32-requires c =
    let size = least_size c.args.bytes.now (NoFault-none c.args.bytes.now c.requires.fault) in omega arith

pub signed_16-requires : goal.signed_16-requires
signed_16-requires c =
    let size = least_size c.args.bytes.now (NoFault-none c.args.bytes.now c.requires.fault) in omega arith

pub invariant_of-result : goal.invariant_of-result
invariant_of-result c =
    let bytes = c.args.bytes.now in
    let are : AreBytes bytes = AreBytes-from bytes (λ i. (c.type_inv.bytes i).fits) in
    let value = (head_in-spelled bytes (NoFault-none bytes c.requires.fault) are).value in
    let bits = little_number 2 (drop 16 bytes) in
    let read : c.signed_16.result ≡ cast_signed w16 bits = c.signed_16.ensures in
    let gain : cast_signed w16 (cast_unsigned w16 c.signed_16.result) ≡ cast_signed w16 bits =
    ap (λ z. cast_signed w16 (cast_unsigned w16 z)) read
    ∙ ap (cast_signed w16) (of_z-to_z w16 bits (little_number-two (drop 16 bytes) (AreBytes-drop 16 bytes are))) in
    let made : HeadValue = record {
      version = c.byte_at.result;
      channels = c.byte_at-2.result;
      pre_skip = c.number_16.result;
      rate = c.number_32.result;
      gain = cast_signed w16 (cast_unsigned w16 c.signed_16.result);
      family = c.byte_at-3.result;
      table = c.args.table;
      extra = c.args.extra;
    } in
    let e : made ≡ head_in bytes = same_head made (head_in bytes) c.byte_at.ensures c.byte_at-2.ensures c.number_16.ensures
    c.number_32.ensures gain c.byte_at-3.ensures c.requires.table c.requires.extra in
    subst IsHead (sym e) value
