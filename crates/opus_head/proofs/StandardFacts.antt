-- Examples of heads and the standard's own figures, computed by the definitions.
use Rattle.std.proofs.Common.{◌≡◌, ℕ, List, [], ◌∷◌, ◌++◌, replicate, map, filter, Some, None, refl, negsuc, pos}
use Rattle.std.specs.List.{range_with_len}
use Rattle.opus_head.specs.ChannelCount.{is_channel_count, is_ambisonic_count}
use Rattle.opus_head.specs.HeadValue.{HeadValue}
use Rattle.opus_head.specs.HeadBytes.{magic, head_bytes}
use Rattle.opus_head.specs.HeadFault.{head_fault, fault_place}
use Rattle.opus_head.specs.HeadRead.{head_in}
use Rattle.opus_head.specs.Channel.{route_of}
use Rattle.opus_head.specs.Factors.{factors_of, factor_at}
use Rattle.opus_head.specs.declared.table.Table.TheVariants.{None as NoTable, Matrix as MatrixTable}
use Rattle.opus_head.specs.declared.output.Route.TheVariants.{Silence, Mono, Left, Right, Matrix}
use Rattle.opus_head.specs.declared.fault.HeadFault.TheVariants.{Magic, Cut, Version, Channels, MapByte, Extra}

-- how many channels a family allows, of 0 to 9, and of 0 to 255 in an ambisonic family

one_or_two_in_family_0 : filter (is_channel_count 0) (range_with_len 1 9) ≡ 1 ∷ 2 ∷ []
one_or_two_in_family_0 = refl

one_to_eight_in_family_1 : filter (is_channel_count 1) (range_with_len 1 9) ≡ range_with_len 1 8
one_to_eight_in_family_1 = refl

all_in_family_255 : filter (is_channel_count 255) (range_with_len 1 255) ≡ range_with_len 1 255
all_in_family_255 = refl

all_in_reserved_families : filter (is_channel_count 4) (range_with_len 1 255) ≡ range_with_len 1 255
all_in_reserved_families = refl

-- orders 0 to 14, each alone or with two channels that aren't ambisonic (RFC 8486, 3.1)
ambisonic_orders : filter is_ambisonic_count (range_with_len 0 256)
    ≡ 1 ∷ 3 ∷ 4 ∷ 6 ∷ 9 ∷ 11 ∷ 16 ∷ 18 ∷ 25 ∷ 27 ∷ 36 ∷ 38 ∷ 49 ∷ 51 ∷ 64 ∷ 66 ∷ 81 ∷ 83 ∷ 100 ∷ 102 ∷ 121 ∷ 123
    ∷ 144 ∷ 146 ∷ 169 ∷ 171 ∷ 196 ∷ 198 ∷ 225 ∷ 227 ∷ []
ambisonic_orders = refl

-- a stereo head as encoders write it: version 1, pre-skip 312, 48,000 Hz, no gain, family 0

stereo : HeadValue
stereo = record {
  version = 1;
  channels = 2;
  pre_skip = 312;
  rate = 48000;
  gain = pos 0;
  family = 0;
  table = NoTable;
  extra = [];
}

stereo_bytes : List ℕ
stereo_bytes = magic ++ 1 ∷ 2 ∷ 0x38 ∷ 1 ∷ 0x80 ∷ 0xBB ∷ 0 ∷ 0 ∷ 0 ∷ 0 ∷ 0 ∷ []

stereo_spelled : head_bytes stereo ≡ stereo_bytes
unfolding stereo stereo_bytes
stereo_spelled = refl

stereo_has_no_fault : head_fault stereo_bytes ≡ None
unfolding head_fault stereo_bytes
stereo_has_no_fault = refl

stereo_is_read : head_in stereo_bytes ≡ stereo
unfolding stereo stereo_bytes
stereo_is_read = refl

stereo_routes : map (route_of stereo) (range_with_len 0 2) ≡ Left 0 ∷ Right 0 ∷ []
unfolding stereo
stereo_routes = refl

one_byte_more : head_fault (stereo_bytes ++ 0 ∷ []) ≡ Some Extra
unfolding head_fault stereo_bytes
one_byte_more = refl

one_byte_more_place : fault_place (stereo_bytes ++ 0 ∷ []) Extra ≡ 19
unfolding stereo_bytes
one_byte_more_place = refl

-- no version but 1 refuses what follows
one_byte_more_in_version_0 : head_fault (magic ++ 0 ∷ 2 ∷ replicate 9 0 ++ 7 ∷ []) ≡ None
unfolding head_fault
one_byte_more_in_version_0 = refl

-- a gain of -1/256 dB has all bits
least_negative_gain : head_in (magic ++ 1 ∷ 1 ∷ replicate 6 0 ++ 255 ∷ 255 ∷ 0 ∷ [])
    ≡ record stereo { channels = 1; pre_skip = 0; rate = 0; gain = negsuc 0 }
unfolding stereo
least_negative_gain = refl

-- six channels of family 1: front left, centre, front right, rear left, rear right, LFE (RFC 7845, 5.1.1.2)

surround : List ℕ → List ℕ
surround mapping = magic ++ 1 ∷ 6 ∷ replicate 8 0 ++ 1 ∷ 4 ∷ 2 ∷ mapping

surround_routes : map (route_of (head_in (surround (0 ∷ 4 ∷ 1 ∷ 2 ∷ 3 ∷ 5 ∷ [])))) (range_with_len 0 6)
    ≡ Left 0 ∷ Mono 2 ∷ Right 0 ∷ Left 1 ∷ Right 1 ∷ Mono 3 ∷ []
unfolding surround
surround_routes = refl

surround_with_silence : map (route_of (head_in (surround (0 ∷ 4 ∷ 1 ∷ 255 ∷ 3 ∷ 5 ∷ [])))) (range_with_len 3 1) ≡ Silence ∷ []
unfolding surround
surround_with_silence = refl

-- the sixth byte counts a channel that isn't decoded
mapping_byte_too_great : head_fault (surround (0 ∷ 4 ∷ 1 ∷ 2 ∷ 3 ∷ 6 ∷ [])) ≡ Some (MapByte 5)
unfolding head_fault surround
mapping_byte_too_great = refl

mapping_cut : head_fault (surround (9 ∷ 9 ∷ [])) ≡ Some (Cut 23)
unfolding head_fault surround
mapping_cut = refl

-- the order of the checks

magic_cut : head_fault (79 ∷ 112 ∷ []) ≡ Some (Cut 2)
unfolding head_fault
magic_cut = refl

magic_wrong : head_fault (79 ∷ 112 ∷ 85 ∷ []) ≡ Some (Magic 2)
unfolding head_fault
magic_wrong = refl

no_channels_before_what_is_cut : head_fault (magic ++ 1 ∷ 0 ∷ []) ≡ Some Channels
unfolding head_fault
no_channels_before_what_is_cut = refl

channels_in_a_family_after_it : head_fault (magic ++ 1 ∷ 9 ∷ 0 ∷ 0 ∷ []) ≡ Some (Cut 12)
unfolding head_fault
channels_in_a_family_after_it = refl

version_before_channels : head_fault (magic ++ 16 ∷ 0 ∷ []) ≡ Some Version
unfolding head_fault
version_before_channels = refl

-- a matrix with one entry, the greatest (RFC 8486, 3.2)

matrix_bytes : List ℕ
matrix_bytes = magic ++ 1 ∷ 1 ∷ 0 ∷ 0 ∷ 0x80 ∷ 0xBB ∷ 0 ∷ 0 ∷ 0 ∷ 0 ∷ 3 ∷ 1 ∷ 0 ∷ 0xFF ∷ 0x7F ∷ []

matrix_has_no_fault : head_fault matrix_bytes ≡ None
unfolding head_fault matrix_bytes
matrix_has_no_fault = refl

matrix_table : (head_in matrix_bytes).table ≡ MatrixTable 1 0 (0xFF ∷ 0x7F ∷ [])
unfolding matrix_bytes
matrix_table = refl

one_factor : factors_of (head_in matrix_bytes) ≡ 1
unfolding matrix_bytes
one_factor = refl

greatest_factor : factor_at (0xFF ∷ 0x7F ∷ []) 0 ≡ pos 32767
greatest_factor = refl

least_factor : factor_at (7 ∷ 7 ∷ 0 ∷ 0x80 ∷ []) 1 ≡ negsuc 32767
least_factor = refl

matrix_route : route_of (head_in matrix_bytes) 0 ≡ Matrix
unfolding matrix_bytes
matrix_route = refl

-- four channels of family 2, each of a stream of its own
ambisonic_routes : map (route_of (head_in (magic ++ 1 ∷ 4 ∷ replicate 8 0 ++ 2 ∷ 4 ∷ 0 ∷ 0 ∷ 1 ∷ 2 ∷ 3 ∷ []))) (range_with_len 0 4)
    ≡ Mono 0 ∷ Mono 1 ∷ Mono 2 ∷ Mono 3 ∷ []
ambisonic_routes = refl
