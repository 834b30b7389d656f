-- What undelimited packets show, as the payloads of records.
use Rattle.std.specs.Prelude.{length}
use Rattle.job_loop.specs.Shown.{Shown}
use Rattle.opus_feed.specs.declared.framing.Framing.TheVariants.{Whole}
use Rattle.opus_feed.specs.declared.padding.Padding.{Padding}
use Rattle.opus_feed.specs.Packets.{fault_of}
use Rattle.pack_records.specs.declared.item.Item.{Item}
use Rattle.pack_records.specs.declared.undelimited.Undelimited.{Undelimited}
use Rattle.pack_records.specs.Early.{IsEarly}
use Rattle.pack_records.specs.Holds.{Holds, bad_record, lost_record}
use Rattle.pack_records.specs.Payloads.{Deciding, Showing, Reading}
use Rattle.pack_records.specs.Pieces.{PieceStands, shown_by, IsReady}

-- no packet begins so: that is decided, and the record shows the fault
abbrev pub packet_decides : Deciding (Shown Item)
packet_decides = record {
  early = λ start range part. IsEarly Whole part;
  told = λ start range part early. bad_record start range (fault_of Whole part) (length part);
}

abbrev pub packet_shows : Padding → Showing (Shown Item)
packet_shows padding = record { holds = Holds padding Whole; lost = lost_record; decides = packet_decides }

abbrev pub packet_reading : Reading Undelimited Padding (Shown Item)
packet_reading = record {
  layout = λ p. p.pieces.padding;
  shows = packet_shows;
  place = λ r. r.item.place;
  stands = λ p start h. PieceStands p.pieces h;
  current = λ p own. shown_by p.pieces own;
  ready = λ p own. IsReady p.pieces own;
}
