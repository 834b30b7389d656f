-- An input that is one undelimited packet (RFC 6716, 3.2), or none.
use Rattle.std.specs.Prelude.{◌≡◌, ℕ, List, Option}
use Rattle.job_loop.specs.Shown.{Shown}
use Rattle.opus_packet.specs.PacketPrefix.{AreBytes}
use Rattle.opus_feed.specs.declared.framing.Framing.TheVariants.{Whole}
use Rattle.opus_feed.specs.declared.padding.Padding.{Padding}
use Rattle.pack_records.specs.declared.cut.Cut.{Cut}
use Rattle.pack_records.specs.declared.item.Item.{Item}
use Rattle.pack_records.specs.OnePayload.{Ends}
use Rattle.pack_records.specs.Settled.{early_records}
use Rattle.pack_records.specs.Undelimited.{packet_shows}

-- bytes settle the record of a fault that none behind them can mend, and no other
pub record RawSettles (h : List ℕ) (rs : List (Shown Item)) : Type 0 where
  pub are_bytes : AreBytes h
  pub records_are : rs ≡ early_records Whole 0 h

-- the whole input is one record, which shows what it holds; it is never cut
abbrev pub RawEnds : Padding → List ℕ → List (Shown Item) → Option Cut → Type 0
RawEnds padding = Ends (packet_shows padding)
