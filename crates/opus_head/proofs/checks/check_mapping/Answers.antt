use Rattle.std.proofs.Common.{◌≡◌, ◌+◌, ◌-◌, ◌∙◌, length, get_or, take, drop, ap, length-take, length-drop, arith}
use Rattle.std.specs.List.{slice_range}
use Rattle.std.proofs.lemmas.Bool.{le-ltb, ne_eqb, or_from}
use Rattle.opus_head.specs.HeadFault.{channels_in}
use Rattle.opus_head.proofs.MappingLemmas.{known_mapping-is, mapping_fault-found, mapping_fault-none}
use Rattle.opus_head.proofs.checks.check_mapping.Goals as goal

pub returns-then-byte : goal.returns-then-byte
returns-then-byte c =
    let bytes = c.args.bytes.now in
    let decoded = c.args.decoded in
    let channel = c.loop-channel.channel in
    let n = c.from-end.result in
    let items = take (21 + n - 21) (drop 21 bytes) in
    let count : n ≡ channels_in bytes = c.from-end.ensures ∙ c.byte_at.ensures in
    let is : items ≡ slice_range bytes 21 (21 + channels_in bytes) = ap (λ m. slice_range bytes 21 (21 + m)) count in
    let size : length items ≡ n = omega (arith, length-take (21 + n - 21) (drop 21 bytes), length-drop 21 bytes, c.if-bytes-end.false) in
    let wrong = or_from _ _ (le-ltb (get_or items channel 0) decoded c.if-byte-decoded.true) (ne_eqb (get_or items channel 0) 255 c.if-byte.true) in
    mapping_fault-found bytes channel c.requires.matrix (omega (arith, c.if-bytes-end.false))
    (known_mapping-is bytes items decoded channel is c.requires.decoded (omega (arith, c.loop-channel-test.true)) c.loop-channel.invariant (λ _. wrong))
    (omega (arith, c.loop-channel-test.true))

pub returns : goal.returns
returns c =
    let bytes = c.args.bytes.now in
    let decoded = c.args.decoded in
    let channel = c.loop-channel.channel in
    let n = c.from-end.result in
    let items = take (21 + n - 21) (drop 21 bytes) in
    let count : n ≡ channels_in bytes = c.from-end.ensures ∙ c.byte_at.ensures in
    let is : items ≡ slice_range bytes 21 (21 + channels_in bytes) = ap (λ m. slice_range bytes 21 (21 + m)) count in
    let size : length items ≡ n = omega (arith, length-take (21 + n - 21) (drop 21 bytes), length-drop 21 bytes, c.if-bytes-end.false) in
    let known = known_mapping-is bytes items decoded channel is c.requires.decoded (omega (arith, c.loop-channel.auto.channel-end)) c.loop-channel.invariant (λ more. absurd (omega (arith, c.loop-channel-test.false))) in
    mapping_fault-none bytes c.requires.matrix (omega (arith, c.if-bytes-end.false)) (omega (arith, known, c.loop-channel-test.false))
