-- What is written of a receiver's events: records of an `opus_demo` store, or lines.
use Rattle.std.specs.Prelude.{ℕ, ℤ, zero, suc, List, [], ◌∷◌, ◌++◌, length, codes, decimal}
use Rattle.std.specs.List.{flat_map, sum_by}
use Rattle.std.specs.Fmt.{signed_decimal}
use Rattle.rec_store.specs.DemoStore.{demo_record}
use Rattle.pack_jobs.specs.Named.{named}
use Rattle.rtp_ends.specs.declared.event.Event.{Event}
use Rattle.rtp_ends.specs.declared.event.Event.TheVariants.{Packet, Gap}
use Rattle.net_jobs.specs.declared.counts.Counts.{Counts}
use Rattle.net_jobs.specs.declared.events.Telling.{Telling}
use Rattle.net_jobs.specs.declared.events.Telling.TheVariants.{Store, Lines}

-- so many lost records with range 0
abbrev pub lost_records : ℕ → List ℕ
lost_records zero = []
lost_records (suc count) = demo_record 0 [] ++ lost_records count

-- a packet as it arrived with range 0, and a gap as that many lost records
abbrev pub store_text : Event → List ℕ
store_text (Packet number stamp payload) = demo_record 0 payload
store_text (Gap first count) = lost_records count

-- `packet N stamp T bytes L`
unfoldable pub packet_line : ℤ → ℕ → ℕ → List ℕ
packet_line number stamp size =
    codes "packet " ++ signed_decimal number ++ named (codes "stamp") stamp ++ named (codes "bytes") size ++ 10 ∷ []

-- `gap N count C`
unfoldable pub gap_line : ℤ → ℕ → List ℕ
gap_line first count = codes "gap " ++ signed_decimal first ++ named (codes "count") count ++ 10 ∷ []

abbrev pub line_text : Event → List ℕ
line_text (Packet number stamp payload) = packet_line number stamp (length payload)
line_text (Gap first count) = gap_line first count

abbrev pub event_text : Telling → Event → List ℕ
event_text Store event = store_text event
event_text Lines event = line_text event

abbrev pub events_text : Telling → List Event → List ℕ
events_text telling events = flat_map (event_text telling) events

-- numbers that a gap misses, and all of them
abbrev pub missing_of : Event → ℕ
missing_of (Packet number stamp payload) = 0
missing_of (Gap first count) = count

abbrev pub missing_in : List Event → ℕ
missing_in events = sum_by missing_of events

-- `records A rtcp B cut C bad D other E repeats F packets G missing H`
unfoldable pub counts_line : Counts → ℕ → List ℕ
counts_line c missing =
    codes "records " ++ decimal c.records ++ named (codes "rtcp") c.rtcp ++ named (codes "cut") c.cut
    ++ named (codes "bad") c.bad ++ named (codes "other") c.other ++ named (codes "repeats") c.repeats
    ++ named (codes "packets") c.packets ++ named (codes "missing") missing ++ 10 ∷ []

-- what is written behind the events
abbrev pub counts_text : Telling → Counts → ℕ → List ℕ
counts_text Store counts missing = []
counts_text Lines counts missing = counts_line counts missing
