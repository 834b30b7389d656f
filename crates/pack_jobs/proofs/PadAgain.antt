-- What pad wrote has all frames.
use Rattle.std.proofs.Common.{◌≡◌, ◌≢◌, ℕ, ◌+◌, ◌<◌, ◌≤◌, Bool, true, false, nat_lt, nat_le, if◌then◌else◌, List, [], ◌∷◌, length, replicate, None, Ok, Err, inl, inr, refl, sym, ap, ◌∙◌, subst, length-append, arith}
use Rattle.std.specs.List.{AllByRecursion}
use Rattle.std.proofs.lemmas.Bool.{ltb-false, leb-false}
use Rattle.job_loop.specs.Shown.{Shown}
use Rattle.job_loop.specs.Meaning.{going, outcome}
use Rattle.job_loop.specs.declared.input_end.InputEnd.TheVariants.{Closed}
use Rattle.opus_flen.specs.PaddingLength.{padding_limit}
use Rattle.opus_packet.specs.Value.{PacketValue}
use Rattle.opus_packet.specs.Canonical.{canonical}
use Rattle.opus_packet.proofs.BytesLemmas.{AreBytes-zeros}
use Rattle.opus_writer.specs.Padded.{padding_for, padded_to, IsZeroPadded}
use Rattle.opus_writer.proofs.PaddedLemmas.{plain-next, padded_to-size, padded_to-is_packet}
use Rattle.opus_feed.specs.declared.framing.Framing.TheVariants.{Whole}
use Rattle.opus_feed.specs.declared.padding.Padding.TheVariants.{Drop}
use Rattle.opus_words.specs.declared.form.Form.{Form}
use Rattle.opus_words.specs.declared.form.Form.TheVariants.{Raw, Demo, SelfDelimited}
use Rattle.pack_records.specs.declared.item.Found.{Found}
use Rattle.pack_records.specs.declared.item.Found.TheVariants.{Packet, Lost, Bad}
use Rattle.pack_records.specs.declared.item.Item.{Item}
use Rattle.pack_records.specs.Holds.{Reads}
use Rattle.job_ends.specs.Each.{Made, IsWritten, AreWritten, text_of, texts_from}
use Rattle.job_ends.proofs.EachLemmas.{each_written, written_all}
use Rattle.pack_jobs.specs.declared.refusal.Why.{Why}
use Rattle.pack_jobs.specs.declared.refusal.Why.TheVariants.{TooSmall, PadLimit}
use Rattle.pack_jobs.specs.Refusal.{cut_refusal}
use Rattle.pack_jobs.specs.Records.{record_bytes}
use Rattle.pack_jobs.specs.Written.{IsGood}
use Rattle.pack_jobs.specs.Pad.{padded_of, pad_made, pad_value, pad_found, pad}
use Rattle.pack_jobs.specs.Groups.{packet_in, values_of, frames_of}
use Rattle.pack_jobs.specs.PackEnds.{ends_in}
use Rattle.pack_jobs.proofs.FormBytes.{packet-are}
use Rattle.pack_jobs.proofs.HeldLemmas.{framing_in, IsRangeIn, HoldsBytes, IsHeld, all_read, all_held}
use Rattle.pack_jobs.proofs.WrittenAgain.{Spelling, IsSpelling, counted-wrote}
use Rattle.pack_jobs.proofs.FramesAgain.{WroteFor, nothing-for, packet-for, loss-for, same-for, IsReadWith, read-with, IsByteValue, canonical-sizes}
use Rattle.pack_jobs.proofs.HeldFrames.{held-value, range-held, gone-lost, gone-range, lent-held, found-held, no-frames, own-frames, next-for}

abbrev made : Form → ℕ → ℕ → Shown Item → Made Why
made form size number r = pad_found form size r r.item.found

-- ---- one record

-- so many written records
record WroteSo (form : Form) (text : List ℕ) (frames : List (List ℕ)) (count : ℕ) : Type 0 where
  for : WroteFor form text frames
  size : length for.wrote ≡ count

abbrev padded-spelling : ℕ → (v : PacketValue) (size : ℕ) → IsZeroPadded v (padded_to v size) → Spelling
padded-spelling range v size z =
    record { range = range; value = v; shape = z.shape; tail = replicate z.count 0; bytes = padded_to v size }

padded-spelled : (form : Form) (range : ℕ) (v : PacketValue) (size : ℕ) → framing_in form ≡ Whole → IsRangeIn form range
    → IsByteValue v → length (canonical v) ≤ size → padding_for v size < padding_limit
    → (z : IsZeroPadded v (padded_to v size)) → IsSpelling form (padded-spelling range v size z)
padded-spelled form range v size whole in_form is least below z =
    let sizes = canonical-sizes Demo v is.value in
    let all = padded_to-size v size least in
    record {
      in_form = in_form;
      reads = subst (λ f. Reads f v z.shape (replicate z.count 0) (padded_to v size)) (sym whole) z.is_packet;
      are = packet-are v z.shape (replicate z.count 0) (padded_to v size) z.is_packet is.frames (AreBytes-zeros z.count);
      some = omega (arith, all, least, sizes.0);
      fits = omega (arith, all, below, plain-next v, sizes.1);
    }

padded-by : (form : Form) (item : Item) (v : PacketValue) (size : ℕ) (b c : Bool) → framing_in form ≡ Whole
    → IsRangeIn form item.range → IsByteValue v → nat_lt size (length (canonical v)) ≡ b
    → nat_le padding_limit (padding_for v size) ≡ c
    → IsWritten (pad_made form item (if b then Err TooSmall else (if c then Err PadLimit else Ok (padded_to v size))))
    → WroteSo form (text_of (pad_made form item (if b then Err TooSmall else (if c then Err PadLimit else Ok (padded_to v size))))) v.frames 1
padded-by form item v size true c whole in_form is small long written = absurd written
padded-by form item v size false true whole in_form is small long written = absurd written
padded-by form item v size false false whole in_form is small long written =
    let least = ltb-false size (length (canonical v)) small in
    let below = leb-false padding_limit (padding_for v size) long in
    let z = padded_to-is_packet v size is.value below in
    record { for = packet-for form (padded-spelling item.range v size z) (padded-spelled form item.range v size whole in_form is least below z); size = refl }

pad-packet : (form : Form) (size : ℕ) (r : Shown Item) → framing_in form ≡ Whole → HoldsBytes form Drop r
    → IsWritten (pad_found form size r r.item.found)
    → WroteSo form (text_of (pad_found form size r r.item.found)) (frames_of (packet_in r.item.found r.bytes)) 1
pad-packet form size r whole h written =
    let v = h.holds.value in
    let e : pad_found form size r r.item.found ≡ pad_made form r.item (padded_of v size) =
    ap (pad_found form size r) (found-held form r h) ∙ ap (pad_value form size r.item) (lent-held form r h) in
    let m = padded-by form r.item v size (nat_lt size (length (canonical v))) (nat_le padding_limit (padding_for v size)) whole
    (range-held form Drop r (inl h)) (held-value form Drop r h) refl refl (subst IsWritten e written) in
    record {
      for = same-for form (text_of (pad_made form r.item (padded_of v size))) (text_of (pad_found form size r r.item.found))
          v.frames (frames_of (packet_in r.item.found r.bytes)) (ap text_of e) (own-frames form r h) m.for;
      size = m.size;
    }

pad-one : (form : Form) (size : ℕ) (r : Shown Item) → framing_in form ≡ Whole → IsHeld form Drop r
    → IsWritten (pad_found form size r r.item.found)
    → WroteSo form (text_of (pad_found form size r r.item.found)) (frames_of (packet_in r.item.found r.bytes)) 1
pad-one form size r whole (inl h) written = pad-packet form size r whole h written
pad-one form size r whole (inr gone) written = record {
  for = same-for form (record_bytes form r.item.range []) (text_of (pad_found form size r r.item.found)) []
      (frames_of (packet_in r.item.found r.bytes)) (ap (λ f. text_of (pad_found form size r f)) (gone-lost form r gone))
      (no-frames form r gone) (loss-for form r.item.range (gone-range form r gone));
  size = refl;
}

-- ---- all of them

pad-all : (form : Form) (size number : ℕ) (rs : List (Shown Item)) → framing_in form ≡ Whole
    → AllByRecursion (IsHeld form Drop) rs → AreWritten (made form size) number rs
    → WroteSo form (texts_from (made form size) number rs) (frames_of (values_of rs)) (length rs)
pad-all form size number [] whole held written = record { for = nothing-for form; size = refl }
pad-all form size number (r ∷ rs) whole held written =
    let one = pad-one form size r whole held.0 written.0 in
    let behind = pad-all form size (number + 1) rs whole held.1 written.1 in
    record {
      for = next-for form (text_of (pad_found form size r r.item.found)) (texts_from (made form size) (number + 1) rs) r rs one.for behind.for;
      size = omega (arith, length-append one.for.wrote behind.for.wrote, one.size, behind.size);
    }

written-good : (form : Form) (size : ℕ) (r : Shown Item) (found : Found) → IsWritten (pad_found form size r found) → IsGood found
written-good form size r (Packet framing shape spelled) written = tt
written-good form size r Lost written = tt
written-good form size r (Bad fault) written = absurd written

whole-in : (form : Form) → form ≢ SelfDelimited → framing_in form ≡ Whole
whole-in Raw other = refl
whole-in Demo other = refl
whole-in SelfDelimited other = absurd (other refl)

pub pad_keeps : (form : Form) (size : ℕ) (x : List ℕ) (rs : List (Shown Item)) (text : List ℕ) → form ≢ SelfDelimited
    → ends_in form Drop x rs None → outcome (pad form size) rs Closed ≡ going text tt
    → IsReadWith form text (frames_of (values_of rs))
pad_keeps form size x rs text other ends e =
    let is = (each_written cut_refusal (made form size) rs Closed text).0 e in
    let frames = frames_of (values_of rs) in
    let held = all_held form Drop rs (written_all (made form size) (λ (r : Shown Item). IsGood r.item.found) (λ number r. written-good form size r r.item.found) 0 rs is.0) (all_read form Drop x rs None ends) in
    let all = pad-all form size 0 rs (whole-in form other) held is.0 in
    let m = same-for form (texts_from (made form size) 0 rs) text frames frames is.2 refl all.for in
    read-with form text frames m (counted-wrote form Drop x rs None ends m.wrote all.size m.is)
