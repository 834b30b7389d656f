-- Examples of packets, computed by the definitions (RFC 3550, 5.1 and 5.3.1).
use Rattle.std.proofs.Common.{◌≡◌, ℕ, true, false, List, [], ◌∷◌, ◌++◌, map, replicate, Some, None, refl}
use Rattle.std.specs.List.{range_with_len, slice_range}
use Rattle.rtp_packet.specs.RtpValue.{RtpValue}
use Rattle.rtp_packet.specs.RtpBytes.{rtp_bytes}
use Rattle.rtp_packet.specs.RtpFault.{csrc_count, rtp_fault}
use Rattle.rtp_packet.specs.RtpRead.{plain_bytes}
use Rattle.rtp_packet.specs.Checks.{rtp_in}
use Rattle.rtp_packet.specs.declared.fault.RtpFault.TheVariants.{Short, Version, Csrc, Extension, Padding}

-- a packet with a CSRC, an extension of one word, three bytes of payload, and two of padding, of which the first may be any

full : RtpValue
full = record {
  marker = false;
  payload_type = 111;
  seq = 1002;
  stamp = 1920;
  ssrc = 0x1234ABCD;
  csrc = 0 ∷ 0 ∷ 0 ∷ 7 ∷ [];
  extension = Some (record { profile = 0xBEDE; words = 0x10 ∷ 0xFF ∷ 0 ∷ 0 ∷ [] });
  payload = 0xFC ∷ 4 ∷ 5 ∷ [];
  padding = 2;
}

full_bytes : List ℕ
full_bytes =
    0xB1 ∷ 0x6F ∷ 0x03 ∷ 0xEA ∷ 0 ∷ 0 ∷ 0x07 ∷ 0x80 ∷ 0x12 ∷ 0x34 ∷ 0xAB ∷ 0xCD ∷ 0 ∷ 0 ∷ 0 ∷ 7
    ∷ 0xBE ∷ 0xDE ∷ 0 ∷ 1 ∷ 0x10 ∷ 0xFF ∷ 0 ∷ 0 ∷ 0xFC ∷ 4 ∷ 5 ∷ 9 ∷ 2 ∷ []

full_is_spelled : rtp_bytes full (9 ∷ 2 ∷ []) ≡ full_bytes
unfolding full full_bytes
full_is_spelled = refl

full_has_no_fault : rtp_fault full_bytes ≡ None
unfolding rtp_fault full_bytes
full_has_no_fault = refl

full_is_read : rtp_in full_bytes ≡ full
unfolding full full_bytes
full_is_read = refl

-- the faults of its fronts: 12 bytes, the CSRC, the extension, and then padding that its last byte doesn't count
fronts_have_faults : map (λ n. rtp_fault (slice_range full_bytes 0 n)) (range_with_len 0 30)
    ≡ replicate 12 (Some Short) ++ replicate 4 (Some Csrc) ++ replicate 8 (Some Extension) ++ replicate 5 (Some Padding) ++ None ∷ []
unfolding rtp_fault full_bytes
fronts_have_faults = refl

-- a first byte, eleven zeros, and what stands behind them
beginning : ℕ → List ℕ → List ℕ
beginning first rest = first ∷ (replicate 11 0 ++ rest)

-- version 2 alone is taken
versions : map (λ first. rtp_fault (beginning first [])) (0 ∷ 0x40 ∷ 0x7F ∷ 0x80 ∷ 0xC0 ∷ 0xFF ∷ [])
    ≡ Some Version ∷ Some Version ∷ Some Version ∷ None ∷ Some Version ∷ Some Version ∷ []
unfolding rtp_fault beginning
versions = refl

-- four bits count the CSRCs
fifteen_csrcs : csrc_count (0x8F ∷ []) ≡ 15
fifteen_csrcs = refl

csrcs_are_whole : rtp_fault (beginning 0x8F (replicate 60 7)) ≡ None
unfolding rtp_fault beginning
csrcs_are_whole = refl

csrcs_are_cut : rtp_fault (beginning 0x8F (replicate 59 7)) ≡ Some Csrc
unfolding rtp_fault beginning
csrcs_are_cut = refl

-- an extension of no words, and of one that isn't there
no_words : rtp_fault (beginning 0x90 (1 ∷ 2 ∷ 0 ∷ 0 ∷ [])) ≡ None
unfolding rtp_fault beginning
no_words = refl

a_word_is_missing : rtp_fault (beginning 0x90 (1 ∷ 2 ∷ 0 ∷ 1 ∷ 0 ∷ 0 ∷ 0 ∷ [])) ≡ Some Extension
unfolding rtp_fault beginning
a_word_is_missing = refl

-- the count of padding bytes: none is left for it, 0, 1, all, and one too many
padding_counts : map (λ rest. rtp_fault (beginning 0xA0 rest)) ([] ∷ (0xF8 ∷ 0 ∷ []) ∷ (0xF8 ∷ 1 ∷ []) ∷ (0xF8 ∷ 2 ∷ []) ∷ (0xF8 ∷ 3 ∷ []) ∷ [])
    ≡ Some Padding ∷ Some Padding ∷ None ∷ None ∷ Some Padding ∷ []
unfolding rtp_fault beginning
padding_counts = refl

payload_without_padding : (rtp_in (beginning 0xA0 (0xF8 ∷ 1 ∷ []))).payload ≡ 0xF8 ∷ []
unfolding beginning
payload_without_padding = refl

-- the order of the checks
csrcs_before_extension : rtp_fault (beginning 0xB1 []) ≡ Some Csrc
unfolding rtp_fault beginning
csrcs_before_extension = refl

extension_before_padding : rtp_fault (beginning 0xB0 []) ≡ Some Extension
unfolding rtp_fault beginning
extension_before_padding = refl

-- what is written: the marker is the top bit of the second byte

written : plain_bytes (record { marker = false; payload_type = 111; seq = 65535; stamp = 4294967000; ssrc = 1 }) (0xF8 ∷ 0xAA ∷ [])
    ≡ 0x80 ∷ 0x6F ∷ 0xFF ∷ 0xFF ∷ 0xFF ∷ 0xFF ∷ 0xFE ∷ 0xD8 ∷ 0 ∷ 0 ∷ 0 ∷ 1 ∷ 0xF8 ∷ 0xAA ∷ []
written = refl

marked : plain_bytes (record { marker = true; payload_type = 127; seq = 1; stamp = 960; ssrc = 2 }) []
    ≡ 0x80 ∷ 0xFF ∷ 0 ∷ 1 ∷ 0 ∷ 0 ∷ 0x03 ∷ 0xC0 ∷ 0 ∷ 0 ∷ 0 ∷ 2 ∷ []
marked = refl
