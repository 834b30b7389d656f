-- The job norm: each packet in its kept form, in the form of the input; ranges and lost records stay.
use Rattle.std.specs.Prelude.{ℕ, Bool, false, if◌then◌else◌, nat_lt, []}
use Rattle.job_loop.specs.Shown.{Shown}
use Rattle.job_loop.specs.Meaning.{Meaning}
use Rattle.opus_packet.specs.declared.shape.Shape.{Shape}
use Rattle.opus_packet.specs.Header.{padding_data}
use Rattle.opus_packet.specs.Tail.{max_tail}
use Rattle.opus_feed.specs.declared.padding.Padding.{Padding}
use Rattle.opus_feed.specs.declared.padding.Padding.TheVariants.{Drop, Keep}
use Rattle.opus_words.specs.declared.form.Form.{Form}
use Rattle.job_ends.specs.Each.{Made, writes, refuses}
use Rattle.pack_records.specs.declared.cut.Cut.{Cut}
use Rattle.pack_records.specs.declared.item.Found.{Found}
use Rattle.pack_records.specs.declared.item.Found.TheVariants.{Packet, Lost, Bad}
use Rattle.pack_records.specs.declared.item.Item.{Item}
use Rattle.pack_jobs.specs.declared.refusal.Why.{Why}
use Rattle.pack_jobs.specs.declared.refusal.Why.TheVariants.{PaddingLong}
use Rattle.pack_jobs.specs.Refusal.{Refusal}
use Rattle.pack_jobs.specs.Records.{record_bytes}
use Rattle.pack_jobs.specs.Each.{bad_made, each}

-- padding bytes are to be kept, and the packet has more of them than are
abbrev pub is_long : Padding → Shape → Bool
is_long Drop shape = false
is_long Keep shape = nat_lt max_tail (padding_data shape.pad)

-- what becomes of a record
abbrev pub norm_found : Form → Padding → Shown Item → Found → Made Why
norm_found form padding r (Packet framing shape size) =
    if is_long padding shape then refuses r.item.place PaddingLong else writes (record_bytes form r.item.range r.bytes)
norm_found form padding r Lost = writes (record_bytes form r.item.range [])
norm_found form padding r (Bad fault) = bad_made r.item fault

abbrev pub norm : Form → Padding → Meaning (Shown Item) ℕ Cut Refusal
norm form padding = each (λ number r. norm_found form padding r r.item.found)
