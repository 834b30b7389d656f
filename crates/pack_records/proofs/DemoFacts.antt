-- Small `opus_demo` stores, computed from the definitions.
use Rattle.std.specs.Prelude.{[], ◌∷◌, Some, None}
use Rattle.std.proofs.Common.{refl, inr, arith}
use Rattle.opus_toc.specs.Configuration.{samples_of, row_of}
use Rattle.opus_flen.specs.PaddingLength.{most_full}
use Rattle.opus_packet.specs.declared.fault.Rule.TheVariants.{R5}
use Rattle.opus_packet.specs.Header.{header_bytes}
use Rattle.opus_packet.specs.HeaderRead.{header_read}
use Rattle.opus_packet.specs.PacketFault.{fault}
use Rattle.opus_feed.specs.declared.padding.Padding.TheVariants.{Drop}
use Rattle.rec_store.proofs.DemoLemmas.{NoWholeRecord-short}
use Rattle.pack_records.specs.declared.item.Found.TheVariants.{Lost, Bad}
use Rattle.pack_records.specs.Holds.{record_of}
use Rattle.pack_records.specs.Demo.{EarlyRest, DemoEnds}
use Rattle.pack_records.proofs.DemoFronts.{undecided_short}

-- nothing is a store of no records
empty : DemoEnds Drop [] [] None
empty = (
  [],
  record {
    are_bytes = tt;
    whole = [];
    are = tt;
    parts = refl;
    none = NoWholeRecord-short [] (omega arith);
    shows = inr record { undecided = undecided_short [] (omega arith); shows = refl };
  },
  refl,
)

-- a lost packet of range 9, and a head that is cut behind its first byte
lost_and_cut : DemoEnds Drop (0 ∷ 0 ∷ 0 ∷ 0 ∷ 0 ∷ 0 ∷ 0 ∷ 9 ∷ 0 ∷ []) (record_of 8 8 9 Lost [] ∷ [])
    (Some (record { place = 9 }))
lost_and_cut = (
  0 ∷ [],
  record {
    are_bytes = (omega arith, (omega arith, (omega arith, (omega arith, (omega arith, (omega arith, (omega arith, (omega arith, (omega arith, tt)))))))));
    whole = record { range = 9; payload = [] } ∷ [];
    are = (record { range_fits = omega arith; payload_fits = omega arith }, tt);
    parts = refl;
    none = NoWholeRecord-short (0 ∷ []) (omega arith);
    shows = (refl, inr record { undecided = undecided_short (0 ∷ []) (omega arith); shows = refl });
  },
  refl,
)

-- A payload of five bytes begins with a count of no frames. Its record is decided behind that byte, of ten that are
-- there from byte 20 on.
no_frames : EarlyRest 20 (0 ∷ 0 ∷ 0 ∷ 5 ∷ 0 ∷ 0 ∷ 0 ∷ 7 ∷ 0xFB ∷ 0x00 ∷ []) (record_of 28 30 7 (Bad (fault R5 1)) [] ∷ [])
unfolding header_read header_bytes samples_of row_of most_full
no_frames = record {
  range = 7;
  part = 0xFB ∷ 0x00 ∷ [];
  payload = record {
    len = 5;
    len_fits = omega arith;
    range_fits = omega arith;
    short = omega arith;
    rest_is = refl;
  };
  early = omega arith;
  shows = refl;
}
