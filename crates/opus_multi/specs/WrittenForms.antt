-- The written forms of one packet, by their names in the code.
use Rattle.std.specs.Prelude.{ℕ, List}
use Rattle.opus_packet.specs.Held.{HeldRead}
use Rattle.opus_packet.specs.Canonical.{canonical, canonical_self_delimited}
use Rattle.opus_multi.specs.declared.form.Form.{Form}
use Rattle.opus_multi.specs.declared.form.Form.TheVariants.{Canonical, CanonicalSelf, Kept, KeptSelf}
use Rattle.opus_multi.specs.Forms.{kept_of, kept_self_of}

-- the bytes of a value in this form, with its padding bytes or without
abbrev pub spelled_as : Form → HeldRead → List ℕ
spelled_as Canonical h = canonical h.value
spelled_as CanonicalSelf h = canonical_self_delimited h.value
spelled_as Kept h = kept_of h
spelled_as KeptSelf h = kept_self_of h
