-- A packet, or none, as a record of a form; and a value in its canonical form as one.
use Rattle.std.specs.Prelude.{ℕ, List}
use Rattle.rec_store.specs.DemoStore.{demo_record}
use Rattle.opus_packet.specs.Value.{PacketValue}
use Rattle.opus_packet.specs.Canonical.{canonical, canonical_self_delimited}
use Rattle.opus_words.specs.declared.form.Form.{Form}
use Rattle.opus_words.specs.declared.form.Form.TheVariants.{Raw, Demo, SelfDelimited}

-- the bytes of a packet, or none, as a record of this form; only a store has a head, and a range
abbrev pub record_bytes : Form → ℕ → List ℕ → List ℕ
record_bytes Raw range bytes = bytes
record_bytes Demo range bytes = demo_record range bytes
record_bytes SelfDelimited range bytes = bytes

-- the canonical form of a value that records of this form have
abbrev pub canonical_in : Form → PacketValue → List ℕ
canonical_in Raw v = canonical v
canonical_in Demo v = canonical v
canonical_in SelfDelimited v = canonical_self_delimited v

-- the value as a record
abbrev pub canonical_record : Form → ℕ → PacketValue → List ℕ
canonical_record form range v = record_bytes form range (canonical_in form v)
