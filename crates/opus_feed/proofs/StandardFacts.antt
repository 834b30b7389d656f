-- Small rows, computed from the definitions.
use Rattle.std.specs.Prelude.{◌≡◌, [], ◌∷◌}
use Rattle.std.proofs.Common.{refl}
use Rattle.opus_toc.specs.Configuration.{samples_of, row_of}
use Rattle.opus_flen.specs.PaddingLength.{most_full}
use Rattle.opus_packet.specs.declared.fault.Rule.TheVariants.{R3, R5, Cut}
use Rattle.opus_packet.specs.Header.{header_bytes}
use Rattle.opus_packet.specs.HeaderRead.{header_read}
use Rattle.opus_packet.specs.PacketFault.{fault}
use Rattle.opus_packet.specs.Tail.{kept, counted}
use Rattle.opus_feed.specs.Bodies.{kept_tail}
use Rattle.opus_feed.specs.Holding.{held_of}
use Rattle.opus_feed.specs.Packets.{fault_of}
use Rattle.opus_feed.specs.Tails.{tail_kept}
use Rattle.opus_feed.specs.declared.framing.Framing.TheVariants.{Whole, SelfDelimited}
use Rattle.opus_feed.specs.declared.padding.Padding.TheVariants.{Drop, Keep}

-- the faults are those of the framing
whole_fault : fault_of Whole (249 ∷ 170 ∷ []) ≡ fault R3 2
unfolding header_read header_bytes samples_of row_of most_full
whole_fault = refl

self_fault : fault_of SelfDelimited (248 ∷ 2 ∷ 170 ∷ []) ≡ fault Cut 3
unfolding header_read header_bytes samples_of row_of most_full
self_fault = refl

count_fault : fault_of SelfDelimited (251 ∷ 0 ∷ []) ≡ fault R5 1
unfolding header_read header_bytes samples_of row_of most_full
count_fault = refl

-- a tail of 65,535 bytes is kept, and one of 65,536 isn't
most_kept : kept_tail Keep 65535 ≡ 65535
most_kept = refl

too_many : kept_tail Keep 65536 ≡ 0
too_many = refl

dropped : kept_tail Drop 3 ≡ 0
dropped = refl

-- an empty tail is an empty one whatever the choice
no_tail : tail_kept Drop [] ≡ tail_kept Keep []
no_tail = refl

tail_dropped : tail_kept Drop (1 ∷ 2 ∷ []) ≡ counted 2
tail_dropped = refl

tail_is_kept : tail_kept Keep (1 ∷ 2 ∷ []) ≡ kept (1 ∷ 2 ∷ [])
tail_is_kept = refl

-- nothing is held of a header, and of an undelimited packet all up to the largest frames
held_header : held_of Whole Drop (251 ∷ 65 ∷ []) ≡ 0
unfolding header_read header_bytes samples_of row_of most_full
held_header = refl

held_two : held_of Whole Drop (248 ∷ 170 ∷ 187 ∷ []) ≡ 2
unfolding header_read header_bytes samples_of row_of most_full
held_two = refl

-- of a self-delimited one with a frame of one byte and one padding byte, the frame
held_frame : held_of SelfDelimited Drop (251 ∷ 65 ∷ 1 ∷ 1 ∷ 170 ∷ 0 ∷ []) ≡ 1
unfolding header_read header_bytes samples_of row_of most_full
held_frame = refl

held_frame_and_tail : held_of SelfDelimited Keep (251 ∷ 65 ∷ 1 ∷ 1 ∷ 170 ∷ 0 ∷ []) ≡ 2
unfolding header_read header_bytes samples_of row_of most_full
held_frame_and_tail = refl
