-- The places of a self-delimited packet in its bytes.
use Rattle.std.specs.Prelude.{◌≡◌, ℕ, List, length}
use Rattle.opus_packet.specs.Places.{HeaderFits, header_at}
use Rattle.opus_packet.specs.SelfPrefix.{sized, self_header_read, self_size}
use Rattle.opus_self.specs.declared.places.SelfPlaces.{SelfPlaces}

-- most bytes of a self-delimited packet: two of the last length more than an undelimited one has
abbrev pub max_self_packet : ℕ
max_self_packet = 16838513

-- the numbers are those of the header and the last length that stand first, and the packet is all of the bytes
pub record SelfFits (p : SelfPlaces) (bytes : List ℕ) : Type 0 where
  pub header : HeaderFits p.places bytes
  pub read : self_header_read bytes ≡ sized (header_at p.places bytes) p.places.last
  pub size_is : p.size ≡ length bytes
  pub fills : length bytes ≡ self_size (header_at p.places bytes) p.places.last
