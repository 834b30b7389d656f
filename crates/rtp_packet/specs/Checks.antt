-- What the checks find, and what bytes say where all of them pass, which no public clause cites.
use Rattle.std.specs.Prelude.{◌≡◌, ◌≤◌, ℕ, ◌+◌, ◌-◌, ◌/◌, ◌%◌, ◌==◌, if◌then◌else◌, List, length, drop, slice_index, slice_range, Option, None, Some}
use Rattle.byteorder.specs.Endian.{big_number}
use Rattle.rtp_packet.specs.RtpValue.{Extension, RtpValue}
use Rattle.rtp_packet.specs.RtpFault.{has_extension, csrc_end, header_size, padding_in}
use Rattle.rtp_packet.specs.declared.checks.Ends.{Ends}

-- where the parts end
pub record AreEnds (ends : Ends) (bytes : List ℕ) : Type 0 where
  pub csrc : ends.csrc ≡ csrc_end bytes
  pub header : ends.header ≡ header_size bytes
  pub padding : ends.padding ≡ padding_in bytes
  pub front : 12 ≤ length bytes
  pub order : csrc_end bytes ≤ header_size bytes
  pub whole : header_size bytes + padding_in bytes ≤ length bytes

abbrev pub extension_in : List ℕ → Option Extension
extension_in bytes =
    if has_extension bytes
    then Some (record {
      profile = big_number 2 (drop (csrc_end bytes) bytes);
      words = slice_range bytes (csrc_end bytes + 4) (header_size bytes);
    })
    else None

abbrev pub rtp_in : List ℕ → RtpValue
rtp_in bytes = record {
  marker = slice_index bytes 1 / 128 == 1;
  payload_type = slice_index bytes 1 % 128;
  seq = big_number 2 (drop 2 bytes);
  stamp = big_number 4 (drop 4 bytes);
  ssrc = big_number 4 (drop 8 bytes);
  csrc = slice_range bytes 12 (csrc_end bytes);
  extension = extension_in bytes;
  payload = slice_range bytes (header_size bytes) (length bytes - padding_in bytes);
  padding = padding_in bytes;
}
