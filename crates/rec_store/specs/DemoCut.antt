-- Whole `opus_demo` stores, and stores that are cut.
use Rattle.std.specs.Prelude.{◌≡◌, ℕ, ◌≤◌, List, [], ◌∷◌, ◌++◌, length}
use Rattle.std.specs.List.{AllByRecursion}
use Rattle.rec_store.specs.DemoStore.{demo_record, IsDemoRecord, NoWholeRecord}

-- what a record says: the final range of the coder, and the payload
pub record DemoValue : Type 0 where
  pub range : ℕ
  pub payload : List ℕ

abbrev pub IsDemoValue : DemoValue → Type 0
IsDemoValue r = IsDemoRecord r.range r.payload

-- records one after another
abbrev pub demo_records : List DemoValue → List ℕ
demo_records [] = []
demo_records (r ∷ rs) = demo_record r.range r.payload ++ demo_records rs

-- a store: all of the bytes are these records
pub record IsDemoStore (bytes : List ℕ) (records : List DemoValue) : Type 0 where
  pub are : AllByRecursion IsDemoValue records
  pub bytes_are : bytes ≡ demo_records records

-- a store that is cut: no whole one, and some bytes behind it make it one
pub record IsDemoCut (bytes : List ℕ) : Type 0 where
  pub not_whole : (records : List DemoValue) → IsDemoStore bytes records → ⊥
  pub more : List ℕ
  pub records : List DemoValue
  pub whole : IsDemoStore (bytes ++ more) records

-- the bytes end within a record: behind whole ones something stands that begins with none
pub record IsWithinRecord (bytes : List ℕ) : Type 0 where
  pub records : List DemoValue
  pub rest : List ℕ
  pub are : AllByRecursion IsDemoValue records
  pub parts : bytes ≡ demo_records records ++ rest
  pub some : 1 ≤ length rest
  pub none : NoWholeRecord rest
