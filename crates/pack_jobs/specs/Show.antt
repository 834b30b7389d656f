-- The job show: the lines of each packet; a lost record has a line too.
use Rattle.std.specs.Prelude.{ℕ, ◌+◌, List, [], ◌∷◌, ◌++◌, Option, Some, None, codes, decimal}
use Rattle.job_loop.specs.Shown.{Shown}
use Rattle.job_loop.specs.Meaning.{Meaning}
use Rattle.opus_packet.specs.Value.{PacketValue}
use Rattle.opus_packet.specs.declared.shape.Shape.{Shape}
use Rattle.pack_records.specs.declared.cut.Cut.{Cut}
use Rattle.pack_records.specs.declared.item.Found.{Found}
use Rattle.pack_records.specs.declared.item.Found.TheVariants.{Packet, Lost, Bad}
use Rattle.pack_records.specs.declared.item.Item.{Item}
use Rattle.pack_records.specs.Lent.{lent_value}
use Rattle.pack_jobs.specs.declared.refusal.Why.{Why}
use Rattle.pack_jobs.specs.Refusal.{Refusal}
use Rattle.job_ends.specs.Refusal.{told}
use Rattle.pack_jobs.specs.PacketLines.{packet_lines}
use Rattle.pack_jobs.specs.Each.{bad_made, each}
use Rattle.job_ends.specs.Each.{Made, writes, text_of}

-- `K: lost`
abbrev pub lost_line : ℕ → List ℕ
lost_line number = decimal number ++ codes ": lost" ++ 10 ∷ []

-- a packet of this value, the only stream of record K; a record's packet has one
abbrev pub value_lines : ℕ → Shape → ℕ → Option PacketValue → List ℕ
value_lines number shape size (Some v) = packet_lines number 0 shape size v
value_lines number shape size None = []

-- what is made of record K. The bytes that are lent of a packet tell its value; its shape and its size are those of the
-- spelling that was read
abbrev pub show_found : ℕ → Shown Item → Found → Made Why
show_found number r (Packet framing shape size) =
    writes (value_lines number shape size (lent_value framing r.bytes))
show_found number r Lost = writes (lost_line number)
show_found number r (Bad fault) = bad_made r.item fault

abbrev pub show : Meaning (Shown Item) ℕ Cut Refusal
show = each (λ number r. show_found (told number) r r.item.found)

-- the lines of record K
abbrev pub record_lines : ℕ → Shown Item → List ℕ
record_lines number r = text_of (show_found number r r.item.found)

-- the lines of records, of which the first has this number
abbrev pub shown_from : ℕ → List (Shown Item) → List ℕ
shown_from number [] = []
shown_from number (r ∷ rs) = record_lines (told number) r ++ shown_from (number + 1) rs
