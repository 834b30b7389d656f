-- What is drawn for a packet.
use Rattle.std.specs.Prelude.{◌≡◌, ◌≢◌, ◌≤◌, ◌<◌, ℕ, ◌+◌, ◌*◌, ◌/◌, ◌%◌, Bool, false, ◌==◌, ◌||◌, nat_lt, if◌then◌else◌, List, length, map, replicate, All}
use Rattle.opus_toc.specs.Configuration.{samples_of}
use Rattle.opus_make.specs.Draws.{next_state, state_after, drawn, draws}

-- how a packet is spelled: its code, VBR, the number of its frames, and its padding total, which counts length bytes too
pub record FormValue : Type 0 where
  pub code : ℕ
  pub vbr : Bool
  pub count : ℕ
  pub pad : ℕ

-- shapes 0 to 2 are codes 0 to 2, shape 3 is code 3 and shape 4 code 3 with VBR. For code 3 a number is drawn, from this
-- state on: at most 120 ms of frames, and a padding total of at most 7.
abbrev pub form_at : ℕ → ℕ → ℕ → FormValue
form_at shape samples state =
    if nat_lt shape 3
    then record { code = shape; vbr = false; count = if shape == 0 then 1 else 2; pad = 0 }
    else record {
      code = 3;
      vbr = shape == 4;
      count = 1 + drawn state % (5760 / samples);
      pad = (drawn state / 64) % 8;
    }

abbrev pub state_behind_form : ℕ → ℕ → ℕ
state_behind_form shape state = if nat_lt shape 3 then state else next_state state

-- whether each frame has a length of its own
abbrev pub has_lengths : FormValue → Bool
has_lengths form = (form.code == 2) || form.vbr

-- the frames' lengths, drawn from this state on: below 300, one for all frames or one for each
abbrev pub lengths_at : FormValue → ℕ → List ℕ
lengths_at form state =
    if has_lengths form then map (λ number. number % 300) (draws form.count state)
    else replicate form.count (drawn state % 300)

abbrev pub state_behind_lengths : FormValue → ℕ → ℕ
state_behind_lengths form state =
    if has_lengths form then state_after state form.count else next_state state

-- all that is drawn for a packet
pub record PlanValue : Type 0 where
  pub config : ℕ
  pub stereo : Bool
  pub form : FormValue
  pub lengths : List ℕ

-- the shape that a number gives
abbrev pub shape_of : ℕ → ℕ
shape_of number = (number / 64) % 5

abbrev pub form_after : ℕ → FormValue
form_after state = form_at (shape_of (drawn state)) (samples_of (drawn state % 32)) (next_state state)

abbrev pub state_after_form : ℕ → ℕ
state_after_form state = state_behind_form (shape_of (drawn state)) (next_state state)

-- the packet that is drawn from this state on, and the state behind it
unfoldable pub plan_at : ℕ → PlanValue
plan_at state = record {
  config = drawn state % 32;
  stereo = (drawn state / 32) % 2 == 1;
  form = form_after state;
  lengths = lengths_at (form_after state) (state_after_form state);
}

unfoldable pub state_behind_plan : ℕ → ℕ
state_behind_plan state = state_behind_lengths (form_after state) (state_after_form state)

-- what a form keeps, where a frame has so many samples
pub record IsForm (samples : ℕ) (form : FormValue) : Type 0 where
  pub code : form.code < 4
  pub plain : form.code ≢ 3 → (form.vbr ≡ false) × (form.pad ≡ 0) × (form.count ≡ (if form.code == 0 then 1 else 2))
  pub some : 1 ≤ form.count
  pub most : form.count ≤ 48
  pub within : form.count * samples ≤ 5760
  pub few : form.pad < 8

-- what is drawn for a packet keeps the limits of the standard (RFC 6716, 3.4), and has one length for all frames where
-- its header has none
pub record IsPlan (plan : PlanValue) : Type 0 where
  pub known : plan.config < 32
  pub form : IsForm (samples_of plan.config) plan.form
  pub counted : length plan.lengths ≡ plan.form.count
  pub short : All (λ n. n < 300) plan.lengths
  pub equal : has_lengths plan.form ≡ false → (n : ℕ) × (plan.lengths ≡ replicate plan.form.count n)
