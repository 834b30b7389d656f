-- The laws of an input that is one multistream packet.
use Rattle.std.proofs.Common.{◌⊎◌, inl, inr, ℕ, List, sym}
use Rattle.job_loop.specs.Shown.{Shown}
use Rattle.opus_multi.specs.MultistreamPrefix.{IsMultistreamPrefix}
use Rattle.opus_multi.proofs.StandsLemmas.{prefix_by}
use Rattle.pack_records.specs.OnePayload.{OneRecord, NoneYet, SaysSettles}
use Rattle.opus_feed.proofs.ReadingLemmas.{reading_answer}
use Rattle.stream_records.specs.declared.item.StreamsItem.{StreamsItem}
use Rattle.stream_records.specs.declared.stream_pieces.StreamPieces.{StreamPieces}
use Rattle.stream_records.specs.Holds.{Choices, ShowsEarly}
use Rattle.stream_records.specs.HoldsLaws.{never_early}
use Rattle.stream_records.specs.Raw.{EarlyRecord, NoRecord, RawSettles}
use Rattle.stream_records.specs.StreamPieces.{Reads}
use Rattle.stream_records.specs.StreamReading.{streams_decide}

-- bytes of which nothing is decided can become a packet
pub reads_prefix : (p : StreamPieces) (start : ℕ) (h : List ℕ) → Reads p start h → IsMultistreamPrefix p.streams h
reads_prefix p start h r = record {
  first = r.first;
  rest = r.rest;
  within = r.within;
  stand = r.stand;
  can = rw (sym r.framing) (prefix_by p.feed.framing r.rest (reading_answer p.feed r.rest r.stands r.reading));
}

pub reads_open : (p : StreamPieces) (begun start range : ℕ) (h : List ℕ) (r : Shown StreamsItem) → Reads p begun h
    → ShowsEarly p.streams start range h r → ⊥
reads_open p begun start range h r reads e =
    never_early p.streams start range h r reads.are_bytes (reads_prefix p begun h reads) e

-- ---- what bytes settle

told_by : (count : ℕ) (h : List ℕ) (rs : List (Shown StreamsItem))
    → OneRecord (streams_decide count) h rs ⊎ NoneYet (streams_decide count) h rs
    → EarlyRecord count h rs ⊎ NoRecord count h rs
told_by count h rs (inl e) = inl record {
  shown = e.early.shown;
  shows = record { holds = e.early.holds; early = e.early.early };
  records_are = e.records_are;
}
told_by count h rs (inr n) = inr record {
  undecided = λ r e. n.undecided record { shown = r; holds = e.holds; early = e.early };
  records_are = n.records_are;
}

said_by : (count : ℕ) (h : List ℕ) (rs : List (Shown StreamsItem)) → EarlyRecord count h rs ⊎ NoRecord count h rs
    → OneRecord (streams_decide count) h rs ⊎ NoneYet (streams_decide count) h rs
said_by count h rs (inl e) = inl record {
  early = record { shown = e.shown; holds = e.shows.holds; early = e.shows.early };
  records_are = e.records_are;
}
said_by count h rs (inr n) = inr record {
  undecided = λ e. n.undecided e.shown record { holds = e.holds; early = e.early };
  records_are = n.records_are;
}

pub raw_says : (c : Choices) → SaysSettles (streams_decide c.streams) (RawSettles c)
raw_says c = record {
  to_own = λ h rs s. record { are_bytes = s.are_bytes; shows = told_by c.streams h rs s.shows };
  from_own = λ h rs s. record { are_bytes = s.are_bytes; shows = said_by c.streams h rs s.shows };
}
