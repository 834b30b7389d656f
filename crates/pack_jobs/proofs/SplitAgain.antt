-- What split wrote has all frames.
use Rattle.std.proofs.Common.{◌≡◌, ◌≢◌, ℕ, ◌≤◌, List, [], ◌∷◌, ◌++◌, flat_map, None, inl, inr, refl, sym, ap, ◌∙◌, subst, append-nil}
use Rattle.std.specs.List.{AllByRecursion, concat}
use Rattle.job_loop.specs.Shown.{Shown}
use Rattle.job_loop.specs.Meaning.{going, outcome}
use Rattle.job_loop.specs.declared.input_end.InputEnd.TheVariants.{Closed}
use Rattle.opus_packet.specs.Value.{PacketValue}
use Rattle.opus_packet.specs.PacketPrefix.{AreBytes}
use Rattle.opus_feed.specs.declared.padding.Padding.TheVariants.{Drop}
use Rattle.opus_words.specs.declared.form.Form.{Form}
use Rattle.opus_words.specs.declared.form.Form.TheVariants.{Raw}
use Rattle.pack_records.specs.declared.item.Item.{Item}
use Rattle.job_ends.specs.Each.{text_of}
use Rattle.pack_jobs.specs.Records.{record_bytes, canonical_record}
use Rattle.pack_jobs.specs.Split.{pieces, piece_records, split_text, split_found, split_record, split}
use Rattle.pack_jobs.specs.Groups.{packet_in, values_of, frames_of}
use Rattle.pack_jobs.specs.PackEnds.{ends_in}
use Rattle.pack_jobs.proofs.SplitLemmas.{split_written, pieces-frames, pieces-values}
use Rattle.pack_jobs.proofs.HeldLemmas.{IsRangeIn, HoldsBytes, IsHeld, all_read, all_held}
use Rattle.pack_jobs.proofs.WrittenAgain.{each-wrote}
use Rattle.pack_jobs.proofs.FramesAgain.{WroteFor, nothing-for, loss-for, same-for, both-for, IsReadWith, read-with, IsByteValue, canonical-for, no-range}
use Rattle.pack_jobs.proofs.HeldFrames.{held-value, range-held, gone-lost, gone-range, lent-held, found-held, no-frames, own-frames, each-bytes, next-for}

-- ---- pieces

pieces-for : (form : Form) (range : ℕ) (ps : List PacketValue) → IsRangeIn form range → AllByRecursion IsByteValue ps
    → WroteFor form (piece_records form range ps) (frames_of ps)
pieces-for form range [] in_form is = nothing-for form
pieces-for form range (p ∷ []) in_form is =
    same-for form (canonical_record form range p) (canonical_record form range p) p.frames (p.frames ++ []) refl
    (sym (append-nil p.frames)) (canonical-for form range p in_form is.0)
pieces-for form range (p ∷ q ∷ ps) in_form is =
    both-for form (canonical_record form 0 p) (piece_records form range (q ∷ ps)) p.frames (frames_of (q ∷ ps))
    (canonical-for form 0 p (no-range form) is.0) (pieces-for form range (q ∷ ps) in_form is.1)

split-packet : (form : Form) (most : ℕ) (r : Shown Item) → 1 ≤ most → HoldsBytes form Drop r
    → WroteFor form (split_record form most r) (frames_of (packet_in r.item.found r.bytes))
split-packet form most r some h =
    let v = h.holds.value in
    let is = held-value form Drop r h in
    let all = pieces-frames most v some in
    let each = each-bytes (pieces most v) (pieces-values most v some is.value) (subst (λ l. AreBytes (concat l)) (sym all) is.frames) in
    same-for form (piece_records form r.item.range (pieces most v)) (split_record form most r) (frames_of (pieces most v))
    (frames_of (packet_in r.item.found r.bytes))
    (ap (λ f. text_of (split_found form most r f)) (found-held form r h) ∙ ap (split_text form most r.item.range) (lent-held form r h))
    (all ∙ own-frames form r h)
    (pieces-for form r.item.range (pieces most v) (range-held form Drop r (inl h)) each)

split-one : (form : Form) (most : ℕ) (r : Shown Item) → 1 ≤ most → IsHeld form Drop r
    → WroteFor form (split_record form most r) (frames_of (packet_in r.item.found r.bytes))
split-one form most r some (inl h) = split-packet form most r some h
split-one form most r some (inr gone) =
    same-for form (record_bytes form r.item.range []) (split_record form most r) [] (frames_of (packet_in r.item.found r.bytes))
    (ap (λ f. text_of (split_found form most r f)) (gone-lost form r gone)) (no-frames form r gone)
    (loss-for form r.item.range (gone-range form r gone))

split-all : (form : Form) (most : ℕ) (rs : List (Shown Item)) → 1 ≤ most → AllByRecursion (IsHeld form Drop) rs
    → WroteFor form (flat_map (split_record form most) rs) (frames_of (values_of rs))
split-all form most [] some held = nothing-for form
split-all form most (r ∷ rs) some held =
    next-for form (split_record form most r) (flat_map (split_record form most) rs) r rs (split-one form most r some held.0)
    (split-all form most rs some held.1)

pub split_keeps : (form : Form) (most : ℕ) (x : List ℕ) (rs : List (Shown Item)) (text : List ℕ) → form ≢ Raw → 1 ≤ most
    → ends_in form Drop x rs None → outcome (split form most) rs Closed ≡ going text tt
    → IsReadWith form text (frames_of (values_of rs))
split_keeps form most x rs text several some ends e =
    let is = (split_written form most rs Closed text).0 e in
    let frames = frames_of (values_of rs) in
    let m = same-for form (flat_map (split_record form most) rs) text frames frames is.2 refl
    (split-all form most rs some (all_held form Drop rs is.0 (all_read form Drop x rs None ends))) in
    read-with form text frames m (each-wrote form m.wrote several m.is)
