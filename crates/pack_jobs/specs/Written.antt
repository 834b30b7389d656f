-- What norm and check write for records, and which records norm takes.
use Rattle.std.specs.Prelude.{◌≡◌, ℕ, ◌+◌, false, true, List, [], ◌∷◌, ◌++◌, length}
use Rattle.std.specs.List.{AllByRecursion}
use Rattle.job_loop.specs.Shown.{Shown}
use Rattle.opus_packet.specs.declared.fault.Fault.{Fault}
use Rattle.opus_feed.specs.declared.padding.Padding.{Padding}
use Rattle.opus_words.specs.declared.form.Form.{Form}
use Rattle.pack_records.specs.declared.item.Found.{Found}
use Rattle.pack_records.specs.declared.item.Found.TheVariants.{Packet, Lost, Bad}
use Rattle.pack_records.specs.declared.item.Item.{Item}
use Rattle.pack_jobs.specs.declared.refusal.Why.TheVariants.{PaddingLong}
use Rattle.pack_jobs.specs.Refusal.{refusal_at, Refusal}
use Rattle.job_ends.specs.Refusal.{told, refusal_of}
use Rattle.pack_jobs.specs.Records.{record_bytes}
use Rattle.pack_jobs.specs.Norm.{is_long}
use Rattle.pack_jobs.specs.Check.{check_line, found_text}

-- the payload of the record that norm writes: what was lent of a packet, and nothing of a lost one
abbrev pub payload_of : Found → List ℕ → List ℕ
payload_of (Packet framing shape size) bytes = bytes
payload_of Lost bytes = []
payload_of (Bad fault) bytes = []

-- the record that norm writes for this one
abbrev pub normal_record : Form → Shown Item → List ℕ
normal_record form r = record_bytes form r.item.range (payload_of r.item.found r.bytes)

-- a packet whose padding bytes are kept where they are to be, or a lost one
abbrev pub IsTaken : Padding → Found → Type 0
IsTaken padding (Packet framing shape size) = is_long padding shape ≡ false
IsTaken padding Lost = Unit {0}
IsTaken padding (Bad fault) = ⊥

abbrev pub AreTaken : Padding → List (Shown Item) → Type 0
AreTaken padding rs = AllByRecursion (λ r. IsTaken padding r.item.found) rs

-- norm refuses a record so, which has this number
abbrev pub IsRefusedAs : Padding → ℕ → Item → Found → Refusal → Type 0
IsRefusedAs padding number item (Packet framing shape size) refusal =
    (is_long padding shape ≡ true) × (refusal ≡ refusal_of (told number) item.place PaddingLong)
IsRefusedAs padding number item Lost refusal = ⊥
IsRefusedAs padding number item (Bad fault) refusal = refusal ≡ refusal_at (told number) item fault

-- the first record that norm refuses, and how
pub record FirstRefused (padding : Padding) (rs : List (Shown Item)) (refusal : Refusal) : Type 0 where
  pub before : List (Shown Item)
  pub first : Shown Item
  pub after : List (Shown Item)
  pub parts : rs ≡ before ++ first ∷ after
  pub taken : AreTaken padding before
  pub refused : IsRefusedAs padding (length before) first.item first.item.found refusal

-- a packet, or a lost one
abbrev pub IsGood : Found → Type 0
IsGood (Packet framing shape size) = Unit {0}
IsGood Lost = Unit {0}
IsGood (Bad fault) = ⊥

abbrev pub AreGood : List (Shown Item) → Type 0
AreGood rs = AllByRecursion (λ r. IsGood r.item.found) rs

-- the first record that holds no packet, and the refusal for it
pub record FirstBad (rs : List (Shown Item)) (refusal : Refusal) : Type 0 where
  pub before : List (Shown Item)
  pub first : Shown Item
  pub after : List (Shown Item)
  pub fault : Fault
  pub parts : rs ≡ before ++ first ∷ after
  pub good : AreGood before
  pub holds : first.item.found ≡ Bad fault
  pub refusal_is : refusal ≡ refusal_at (told (length before)) first.item fault

-- the lines of records, of which the first has this number
abbrev pub lines_from : ℕ → List (Shown Item) → List ℕ
lines_from number [] = []
lines_from number (r ∷ rs) = check_line (told number) (found_text r.item.found) ++ lines_from (number + 1) rs
