-- The job split: each packet in pieces of so many frames; lost records stay.
use Rattle.std.specs.Prelude.{◌≡◌, ℕ, ◌≤◌, ◌/◌, ◌%◌, ◌==◌, if◌then◌else◌, List, [], ◌∷◌, ◌++◌, length, replicate, Option, Some, None}
use Rattle.job_loop.specs.Shown.{Shown}
use Rattle.job_loop.specs.Meaning.{Meaning}
use Rattle.opus_packet.specs.Value.{PacketValue}
use Rattle.opus_repack.specs.Parts.{parts_from}
use Rattle.opus_words.specs.declared.form.Form.{Form}
use Rattle.pack_records.specs.declared.cut.Cut.{Cut}
use Rattle.pack_records.specs.declared.item.Found.{Found}
use Rattle.pack_records.specs.declared.item.Found.TheVariants.{Packet, Lost, Bad}
use Rattle.pack_records.specs.declared.item.Item.{Item}
use Rattle.pack_records.specs.Lent.{lent_value}
use Rattle.pack_jobs.specs.declared.refusal.Why.{Why}
use Rattle.pack_jobs.specs.Refusal.{Refusal}
use Rattle.pack_jobs.specs.Records.{record_bytes, canonical_record}
use Rattle.pack_jobs.specs.Each.{bad_made, each}
use Rattle.job_ends.specs.Each.{Made, writes, text_of}

-- how many frames the pieces of so many frames have: `most` each, and the last one what is left
abbrev pub piece_counts : ℕ → ℕ → List ℕ
piece_counts most count =
    replicate (count / most) most ++ (if count % most == 0 then [] else (count % most ∷ []))

-- the pieces of a value
abbrev pub pieces : ℕ → PacketValue → List PacketValue
pieces most v = parts_from v 0 (piece_counts most (length v.frames))

-- pieces of so many frames each, and the last one of as many at most
abbrev pub HasFullPieces : ℕ → List PacketValue → Type 0
HasFullPieces most [] = Unit {0}
HasFullPieces most (p ∷ []) = (1 ≤ length p.frames) × (length p.frames ≤ most)
HasFullPieces most (p ∷ q ∷ ps) = (length p.frames ≡ most) × HasFullPieces most (q ∷ ps)

-- pieces in their canonical form, a record each: the last one has the range, the others 0
abbrev pub piece_records : Form → ℕ → List PacketValue → List ℕ
piece_records form range [] = []
piece_records form range (p ∷ []) = canonical_record form range p
piece_records form range (p ∷ q ∷ ps) = canonical_record form 0 p ++ piece_records form range (q ∷ ps)

-- the range of the piece that ends before a frame, of so many frames
abbrev pub range_to : ℕ → ℕ → ℕ → ℕ
range_to range all to = if to == all then range else 0

-- what a packet of this value becomes; a record's packet has one
abbrev pub split_text : Form → ℕ → ℕ → Option PacketValue → List ℕ
split_text form most range (Some v) = piece_records form range (pieces most v)
split_text form most range None = []

abbrev pub split_found : Form → ℕ → Shown Item → Found → Made Why
split_found form most r (Packet framing shape size) =
    writes (split_text form most r.item.range (lent_value framing r.bytes))
split_found form most r Lost = writes (record_bytes form r.item.range [])
split_found form most r (Bad fault) = bad_made r.item fault

-- what a record becomes
abbrev pub split_record : Form → ℕ → Shown Item → List ℕ
split_record form most r = text_of (split_found form most r r.item.found)

-- pieces of so many frames
abbrev pub split : Form → ℕ → Meaning (Shown Item) ℕ Cut Refusal
split form most = each (λ number r. split_found form most r r.item.found)
