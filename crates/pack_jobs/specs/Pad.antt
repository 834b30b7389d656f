-- The job pad: each packet in its padded form of a size; ranges and lost records stay.
use Rattle.std.specs.Prelude.{ℕ, nat_lt, nat_le, if◌then◌else◌, List, [], length, Option, Some, None, Result, Ok, Err}
use Rattle.job_loop.specs.Shown.{Shown}
use Rattle.job_loop.specs.Meaning.{Meaning}
use Rattle.opus_flen.specs.PaddingLength.{padding_limit}
use Rattle.opus_packet.specs.Value.{PacketValue}
use Rattle.opus_packet.specs.Canonical.{canonical}
use Rattle.opus_writer.specs.Padded.{padding_for, padded_to}
use Rattle.opus_words.specs.declared.form.Form.{Form}
use Rattle.pack_records.specs.declared.cut.Cut.{Cut}
use Rattle.pack_records.specs.declared.item.Found.{Found}
use Rattle.pack_records.specs.declared.item.Found.TheVariants.{Packet, Lost, Bad}
use Rattle.pack_records.specs.declared.item.Item.{Item}
use Rattle.pack_records.specs.Lent.{lent_value}
use Rattle.pack_jobs.specs.declared.refusal.Why.{Why}
use Rattle.pack_jobs.specs.declared.refusal.Why.TheVariants.{TooSmall, PadLimit}
use Rattle.pack_jobs.specs.Refusal.{Refusal}
use Rattle.pack_jobs.specs.Records.{record_bytes}
use Rattle.pack_jobs.specs.Each.{bad_made, each}
use Rattle.job_ends.specs.Each.{Made, writes, refuses}

-- the padded form of a value; there is none below the canonical size, and none with 2^24 bytes of padding or more
abbrev pub padded_of : PacketValue → ℕ → Result (List ℕ) Why
padded_of v size =
    if nat_lt size (length (canonical v)) then Err TooSmall
    else (if nat_le padding_limit (padding_for v size) then Err PadLimit else Ok (padded_to v size))

abbrev pub pad_made : Form → Item → Result (List ℕ) Why → Made Why
pad_made form item (Ok bytes) = writes (record_bytes form item.range bytes)
pad_made form item (Err why) = refuses item.place why

-- what a packet of this value becomes; a record's packet has one
abbrev pub pad_value : Form → ℕ → Item → Option PacketValue → Made Why
pad_value form size item (Some v) = pad_made form item (padded_of v size)
pad_value form size item None = writes []

abbrev pub pad_found : Form → ℕ → Shown Item → Found → Made Why
pad_found form size r (Packet framing shape spelled) = pad_value form size r.item (lent_value framing r.bytes)
pad_found form size r Lost = writes (record_bytes form r.item.range [])
pad_found form size r (Bad fault) = bad_made r.item fault

-- packets of so many bytes each
abbrev pub pad : Form → ℕ → Meaning (Shown Item) ℕ Cut Refusal
pad form size = each (λ number r. pad_found form size r r.item.found)
