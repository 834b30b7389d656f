-- The records of a seed.
use Rattle.std.specs.Prelude.{◌≡◌, ℕ, zero, suc, ◌%◌, ◌==◌, if◌then◌else◌, Bool, List, [], ◌++◌}
use Rattle.opus_make.specs.Draws.{next_state, drawn}
use Rattle.opus_make.specs.Plan.{plan_at, state_behind_plan}
use Rattle.opus_make.specs.Written.{packet_of}
use Rattle.opus_make.specs.declared.made.Made.{Made}
use Rattle.opus_make.specs.declared.made.Made.TheVariants.{Lost, Packet}

-- a record that is drawn from this state on: one of sixteen is lost
pub data Generated : Type 0 where
  lost : Generated
  packet : List ℕ → Generated

abbrev pub is_lost_at : ℕ → Bool
is_lost_at state = drawn state % 16 == 15

abbrev pub record_at : ℕ → Generated
record_at state =
    if is_lost_at state then lost else packet (packet_of (plan_at (next_state state)))

abbrev pub state_behind_record : ℕ → ℕ
state_behind_record state =
    if is_lost_at state then next_state state else state_behind_plan (next_state state)

-- the state before a record of a seed, counted from 0
abbrev pub state_before : ℕ → ℕ → ℕ
state_before seed zero = seed
state_before seed (suc number) = state_behind_record (state_before seed number)

-- a record of a seed, counted from 0
abbrev pub generated : ℕ → ℕ → Generated
generated seed number = record_at (state_before seed number)

-- a maker whose state this is has given so many records of a seed
abbrev pub StandsFor : ℕ → ℕ → ℕ → Type 0
StandsFor state seed number = state ≡ state_before seed number

-- what an answer says of the record, and what it leaves in the output
abbrev pub Gives : Generated → Made → List ℕ → List ℕ → Type 0
Gives lost Lost old new = new ≡ old
Gives lost Packet old new = ⊥
Gives (packet bytes) Lost old new = ⊥
Gives (packet bytes) Packet old new = new ≡ old ++ bytes

-- the bytes of a record; a lost one has none
abbrev pub record_bytes : Generated → List ℕ
record_bytes lost = []
record_bytes (packet bytes) = bytes
