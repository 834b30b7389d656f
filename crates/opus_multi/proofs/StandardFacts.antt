-- Small multistream packets and faults, computed against the definitions.
use Rattle.std.proofs.Common.{◌≡◌, false, [], ◌∷◌, refl, arith}
use Rattle.opus_toc.specs.Configuration.{samples_of, row_of}
use Rattle.opus_flen.specs.PaddingLength.{most_full}
use Rattle.opus_packet.specs.Value.{PacketValue}
use Rattle.opus_packet.specs.Header.{header_bytes}
use Rattle.opus_packet.specs.HeaderRead.{shape_of, header_read}
use Rattle.opus_packet.specs.PacketFault.{fault}
use Rattle.opus_packet.specs.declared.fault.Rule.TheVariants.{R5}
use Rattle.opus_packet.proofs.PrefixLemmas.{prefix_of_packet}
use Rattle.opus_feed.specs.declared.padding.Padding.TheVariants.{Drop, Keep}
use Rattle.opus_packet.specs.Canonical.{canonical, canonical_self_delimited, kept_form, kept_self_delimited}
use Rattle.opus_packet.specs.PacketGrammar.{IsPacket}
use Rattle.opus_packet.specs.SelfGrammar.{IsSelfDelimited}
use Rattle.opus_multi.specs.declared.fault.MultiFault.TheVariants.{Stream, Unequal}
use Rattle.opus_multi.specs.Streams.{SpelledStream}
use Rattle.opus_multi.specs.MultistreamPrefix.{IsMultistreamPrefix}
use Rattle.opus_multi.specs.StreamParts.{part_of}
use Rattle.opus_multi.specs.Multistream.{IsMultistream}
use Rattle.opus_multi.specs.MultistreamFault.{IsMultistreamFault}
use Rattle.opus_multi.specs.Forms.{canonical_multistream, kept_multistream}

-- one frame of 20 ms, and one of 10 ms

unfoldable pub first : PacketValue
first = record { config = 31; stereo = false; frames = (0xAA ∷ []) ∷ [] }

unfoldable pub second : PacketValue
second = record { config = 31; stereo = false; frames = (0xBB ∷ []) ∷ [] }

unfoldable pub short : PacketValue
short = record { config = 30; stereo = false; frames = (0xBB ∷ []) ∷ [] }

-- the written forms

first_second-canonical : canonical_multistream (first ∷ second ∷ []) ≡ 0xF8 ∷ 0x01 ∷ 0xAA ∷ 0xF8 ∷ 0xBB ∷ []
unfolding first second canonical canonical_self_delimited header_bytes
first_second-canonical = refl

-- one stream is an undelimited packet
second-canonical : canonical_multistream (second ∷ []) ≡ 0xF8 ∷ 0xBB ∷ []
unfolding second canonical header_bytes
second-canonical = refl

-- the first packet has one padding byte
first_second-kept : kept_multistream (record { value = first; tail = 0x00 ∷ [] } ∷ record { value = second; tail = [] } ∷ [])
    ≡ 0xFB ∷ 0x41 ∷ 0x01 ∷ 0x01 ∷ 0xAA ∷ 0x00 ∷ 0xF8 ∷ 0xBB ∷ []
unfolding first second kept_form kept_self_delimited header_bytes most_full
first_second-kept = refl

-- two streams in code 3, the first with a padding byte

unfoldable pub first_padded : SpelledStream
first_padded = record { value = first; shape = shape_of 3 false 2; size = 6; tail = 0x00 ∷ [] }

unfoldable pub second_counted : SpelledStream
second_counted = record { value = second; shape = shape_of 3 false 0; size = 3; tail = [] }

pub first_padded-packet : IsSelfDelimited first (shape_of 3 false 2) (0x00 ∷ []) (0xFB ∷ 0x41 ∷ 0x01 ∷ 0x01 ∷ 0xAA ∷ 0x00 ∷ [])
unfolding first header_bytes samples_of row_of
first_padded-packet = record {
  value = record { config = omega arith; some = omega arith; most = omega arith; each = (omega arith, tt); duration = omega arith };
  suits = (omega arith, λ plain. (1, (refl, tt)));
  padding = refl;
  spelled = refl;
}

pub second_counted-packet : IsPacket second (shape_of 3 false 0) [] (0xFB ∷ 0x01 ∷ 0xBB ∷ [])
unfolding second header_bytes samples_of row_of
second_counted-packet = record {
  value = record { config = omega arith; some = omega arith; most = omega arith; each = (omega arith, tt); duration = omega arith };
  suits = (omega arith, λ plain. (1, (refl, tt)));
  padding = refl;
  spelled = refl;
}

unfoldable pub first_second-packet : IsMultistream (first ∷ second ∷ []) ((0x00 ∷ []) ∷ [] ∷ [])
    (0xFB ∷ 0x41 ∷ 0x01 ∷ 0x01 ∷ 0xAA ∷ 0x00 ∷ 0xFB ∷ 0x01 ∷ 0xBB ∷ [])
unfolding first_padded second_counted first second samples_of row_of
first_second-packet = record {
  streams = first_padded ∷ second_counted ∷ [];
  values_are = refl;
  tails_are = refl;
  are = record {
    front = first_padded ∷ [];
    last = second_counted;
    rest = 0xFB ∷ 0x01 ∷ 0xBB ∷ [];
    streams_are = refl;
    stand = (record { within = omega arith; spelled = first_padded-packet }, refl);
    ends = record { size_is = refl; spelled = second_counted-packet };
  };
  duration = (960, refl);
}

-- 20 ms and 10 ms: stream 1 is the first that differs

unfoldable pub first_plain : SpelledStream
first_plain = record { value = first; shape = shape_of 0 false 0; size = 3; tail = [] }

unfoldable pub short_plain : SpelledStream
short_plain = record { value = short; shape = shape_of 0 false 0; size = 2; tail = [] }

pub first_plain-packet : IsSelfDelimited first (shape_of 0 false 0) [] (0xF8 ∷ 0x01 ∷ 0xAA ∷ [])
unfolding first header_bytes samples_of row_of
first_plain-packet = record {
  value = record { config = omega arith; some = omega arith; most = omega arith; each = (omega arith, tt); duration = omega arith };
  suits = (refl, refl, refl);
  padding = refl;
  spelled = refl;
}

pub short_plain-packet : IsPacket short (shape_of 0 false 0) [] (0xF0 ∷ 0xBB ∷ [])
unfolding short header_bytes samples_of row_of
short_plain-packet = record {
  value = record { config = omega arith; some = omega arith; most = omega arith; each = (omega arith, tt); duration = omega arith };
  suits = (refl, refl, refl);
  padding = refl;
  spelled = refl;
}

unfoldable pub first_short-unequal : IsMultistreamFault 2 (0xF8 ∷ 0x01 ∷ 0xAA ∷ 0xF0 ∷ 0xBB ∷ []) (Unequal 1)
unfolding first_plain short_plain first short samples_of row_of
first_short-unequal = record {
  streams = first_plain ∷ short_plain ∷ [];
  counted = refl;
  are = record {
    front = first_plain ∷ [];
    last = short_plain;
    rest = 0xF0 ∷ 0xBB ∷ [];
    streams_are = refl;
    stand = (record { within = omega arith; spelled = first_plain-packet }, refl);
    ends = record { size_is = refl; spelled = short_plain-packet };
  };
  unequal = record { first = 960; other = 480; rest = []; some = omega arith; differs = (λ same. omega (arith, same)); are = refl };
}

-- the padding byte of the first stream is counted or kept in its part

first_dropped : part_of Drop first_padded ≡ record {
  held = record { value = first; tail = [] };
  shape = shape_of 3 false 2;
  size = 6;
  dropped = 1;
}
unfolding first_padded
first_dropped = refl

first_kept : part_of Keep first_padded ≡ record {
  held = record { value = first; tail = 0x00 ∷ [] };
  shape = shape_of 3 false 2;
  size = 6;
  dropped = 0;
}
unfolding first_padded
first_kept = refl

-- a TOC byte behind the first stream can become the packet of the second
begun-prefix : IsMultistreamPrefix 2 (0xF8 ∷ 0x01 ∷ 0xAA ∷ 0xF8 ∷ [])
unfolding first_plain first header_read header_bytes samples_of row_of most_full
begun-prefix = record {
  first = first_plain ∷ [];
  rest = 0xF8 ∷ [];
  within = omega arith;
  stand = (record { within = omega arith; spelled = first_plain-packet }, refl);
  can = omega arith;
}

-- a frame count of 0 can't, and the place counts from the second stream's first byte
no_frames-broken : IsMultistreamFault 2 (0xF8 ∷ 0x01 ∷ 0xAA ∷ 0xFB ∷ 0x00 ∷ []) (Stream 1 (fault R5 1))
unfolding first_plain first header_read header_bytes samples_of row_of most_full
no_frames-broken = record {
  first = first_plain ∷ [];
  rest = 0xFB ∷ 0x00 ∷ [];
  counted = refl;
  within = omega arith;
  stand = (record { within = omega arith; spelled = first_plain-packet }, refl);
  none = λ v s spelled. prefix_of_packet (0xFB ∷ 0x00 ∷ []) [] (omega arith, (omega arith, tt)) (v, s, spelled);
  fault_is = refl;
}
