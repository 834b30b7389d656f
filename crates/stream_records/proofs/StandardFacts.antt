-- Small records of two streams, computed from the definitions.
use Rattle.std.proofs.Common.{false, [], ◌∷◌, refl, arith}
use Rattle.opus_toc.specs.Configuration.{samples_of, row_of}
use Rattle.opus_flen.specs.PaddingLength.{most_full}
use Rattle.opus_packet.specs.Header.{header_bytes}
use Rattle.opus_packet.specs.HeaderRead.{shape_of, header_read}
use Rattle.opus_packet.specs.PacketFault.{fault}
use Rattle.opus_packet.specs.declared.fault.Rule.TheVariants.{R1, R5}
use Rattle.opus_packet.specs.Canonical.{kept_form, kept_self_delimited}
use Rattle.opus_packet.proofs.PrefixLemmas.{prefix_of_packet}
use Rattle.opus_feed.specs.declared.padding.Padding.TheVariants.{Drop, Keep}
use Rattle.opus_multi.proofs.StandardFacts.{first, second, short, first_padded, second_counted, first_plain, short_plain, first_plain-packet, first_second-packet, first_short-unequal}
use Rattle.stream_records.specs.declared.item.StreamsFound.TheVariants.{Packets, Broken, Unequal}
use Rattle.stream_records.specs.Holds.{record_of, HoldsStreams, HoldsBroken, HoldsUnequal, ShowsEarly}

-- without the padding byte, which is counted
two_dropped : HoldsStreams (record { streams = 2; padding = Drop }) 0 0
    (0xFB ∷ 0x41 ∷ 0x01 ∷ 0x01 ∷ 0xAA ∷ 0x00 ∷ 0xFB ∷ 0x01 ∷ 0xBB ∷ [])
    (record_of 0 9 0 Packets
    (record { shape = shape_of 3 false 2; size = 6; dropped = 1 } ∷ record { shape = shape_of 3 false 0; size = 3; dropped = 0 } ∷ [])
    (0xF8 ∷ 0x01 ∷ 0xAA ∷ 0xF8 ∷ 0xBB ∷ []))
unfolding first_second-packet first_padded second_counted first second kept_form kept_self_delimited header_bytes samples_of row_of most_full
two_dropped = record {
  streams = first_padded ∷ second_counted ∷ [];
  counted = refl;
  are = first_second-packet.are;
  duration = (960, refl);
  shows = refl;
}

-- with it
two_kept : HoldsStreams (record { streams = 2; padding = Keep }) 0 0
    (0xFB ∷ 0x41 ∷ 0x01 ∷ 0x01 ∷ 0xAA ∷ 0x00 ∷ 0xFB ∷ 0x01 ∷ 0xBB ∷ [])
    (record_of 0 9 0 Packets
    (record { shape = shape_of 3 false 2; size = 6; dropped = 0 } ∷ record { shape = shape_of 3 false 0; size = 3; dropped = 0 } ∷ [])
    (0xFB ∷ 0x41 ∷ 0x01 ∷ 0x01 ∷ 0xAA ∷ 0x00 ∷ 0xF8 ∷ 0xBB ∷ []))
unfolding first_second-packet first_padded second_counted first second kept_form kept_self_delimited header_bytes samples_of row_of most_full
two_kept = record {
  streams = first_padded ∷ second_counted ∷ [];
  counted = refl;
  are = first_second-packet.are;
  duration = (960, refl);
  shows = refl;
}

-- 20 ms and 10 ms: stream 1 is the first that differs, and begins at place 3
unequal : HoldsUnequal 2 0 0 (0xF8 ∷ 0x01 ∷ 0xAA ∷ 0xF0 ∷ 0xBB ∷ []) (record_of 0 5 0 (Unequal 1 3) [] [])
unfolding first_short-unequal first_plain short_plain first short
unequal = record { stream = 1; unequal = first_short-unequal; shows = refl }

-- nothing follows stream 0: its end tells stream 1 R1 at 0, at place 3
nothing_follows : HoldsBroken 2 0 0 (0xF8 ∷ 0x01 ∷ 0xAA ∷ []) (record_of 0 3 0 (Broken 1 3 (fault R1 0)) [] [])
unfolding first_plain first header_read header_bytes samples_of row_of most_full
nothing_follows = record {
  stream = 1;
  fault = fault R1 0;
  broken = record {
    first = first_plain ∷ [];
    rest = [];
    counted = refl;
    within = omega arith;
    stand = (record { within = omega arith; spelled = first_plain-packet }, refl);
    none = λ v s spelled. let at = spelled.1.spelled in cc;
    fault_is = refl;
  };
  shows = refl;
}

-- a frame count of 0 in stream 1 of a record that begins at place 8: decided behind that byte, of more that are there
no_frames : ShowsEarly 2 8 7 (0xF8 ∷ 0x01 ∷ 0xAA ∷ 0xFB ∷ 0x00 ∷ 0xCC ∷ []) (record_of 8 13 7 (Broken 1 11 (fault R5 1)) [] [])
unfolding first_plain first header_read header_bytes samples_of row_of most_full
no_frames = record {
  holds = record {
    stream = 1;
    fault = fault R5 1;
    broken = record {
      first = first_plain ∷ [];
      rest = 0xFB ∷ 0x00 ∷ 0xCC ∷ [];
      counted = refl;
      within = omega arith;
      stand = (record { within = omega arith; spelled = first_plain-packet }, refl);
      none = λ v s spelled. prefix_of_packet (0xFB ∷ 0x00 ∷ 0xCC ∷ []) [] (omega arith, (omega arith, (omega arith, tt))) (v, s, spelled);
      fault_is = refl;
    };
    shows = refl;
  };
  early = omega arith;
}
