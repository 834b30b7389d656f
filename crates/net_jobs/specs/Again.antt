-- A store of packets that is sent, and received again.
use Rattle.std.specs.Prelude.{◌≡◌, ℕ, ◌+◌, ◌<◌, List, [], ◌∷◌, Option, None, Some}
use Rattle.std.specs.List.{flat_map}
use Rattle.opus_packet.specs.Value.{PacketValue}
use Rattle.opus_packet.specs.Canonical.{canonical}
use Rattle.rec_store.specs.DemoStore.{demo_record}
use Rattle.net_jobs.specs.declared.stream.Asked.{Asked}

-- any stream may be chosen
abbrev pub any_stream : Asked
any_stream = record { payload_type = None; ssrc = None }

-- a packet in its canonical form, or a lost one, with range 0
abbrev pub stored : Option PacketValue → List ℕ
stored (Some v) = demo_record 0 (canonical v)
stored None = demo_record 0 []

abbrev pub store_again : List (Option PacketValue) → List ℕ
store_again packets = flat_map stored packets

-- behind so many lost packets: at most 32,767 stand one after the other, and the last record is a packet
abbrev pub HasShortRuns : ℕ → List (Option PacketValue) → Type 0
HasShortRuns losses [] = losses ≡ 0
HasShortRuns losses (None ∷ rs) = (losses < 32767) × HasShortRuns (losses + 1) rs
HasShortRuns losses (Some v ∷ rs) = HasShortRuns 0 rs

-- there are no records, or the first and the last are packets, and no run of losses is longer
abbrev pub BeginsAndEnds : List (Option PacketValue) → Type 0
BeginsAndEnds [] = Unit {0}
BeginsAndEnds (None ∷ rs) = ⊥
BeginsAndEnds (Some v ∷ rs) = HasShortRuns 0 rs
