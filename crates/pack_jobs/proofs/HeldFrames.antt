-- What is known of the frames of records that are held.
use Rattle.std.proofs.Common.{◌≡◌, ℕ, ◌^◌, ◌<◌, List, [], ◌∷◌, ◌++◌, length, Some, inl, inr, refl, sym, ap, ◌∙◌, subst, append-nil}
use Rattle.std.specs.List.{AllByRecursion, concat}
use Rattle.std.proofs.lemmas.List.Folds.{concat-append}
use Rattle.job_loop.specs.Shown.{Shown}
use Rattle.opus_packet.specs.PacketPrefix.{AreBytes}
use Rattle.opus_packet.specs.Value.{PacketValue, IsPacketValue}
use Rattle.opus_packet.proofs.BytesLemmas.{AreBytes-append, AreBytes-left, AreBytes-right}
use Rattle.opus_feed.specs.declared.padding.Padding.{Padding}
use Rattle.opus_feed.specs.declared.padding.Padding.TheVariants.{Drop}
use Rattle.opus_words.specs.declared.form.Form.{Form}
use Rattle.opus_words.specs.declared.form.Form.TheVariants.{Raw, Demo, SelfDelimited}
use Rattle.pack_records.specs.declared.item.Found.TheVariants.{Packet, Lost}
use Rattle.pack_records.specs.declared.item.Item.{Item}
use Rattle.pack_records.specs.Lent.{lent_value}
use Rattle.pack_records.proofs.LentLemmas.{lent_value-held}
use Rattle.pack_jobs.specs.Groups.{listed, packet_in, values_of, frames_of}
use Rattle.pack_jobs.proofs.AgainLemmas.{own}
use Rattle.pack_jobs.proofs.HeldLemmas.{framing_in, IsRangeIn, HoldsBytes, IsLossIn, IsHeld, held-found, held-range}
use Rattle.pack_jobs.proofs.WrittenAgain.{IsLossRange}
use Rattle.pack_jobs.proofs.FramesAgain.{WroteFor, same-for, both-for, frames-append, IsByteValue}

-- ---- one record

pub held-value : (form : Form) (padding : Padding) (r : Shown Item) (h : HoldsBytes form padding r) → IsByteValue h.holds.value
held-value form padding r h =
    let parts = own (framing_in form) h.holds.value h.holds.shape h.holds.tail h.bytes h.holds.reads h.are in
    record { value = parts.value; frames = parts.frames }

pub held-values : (form : Form) (padding : Padding) (r : Shown Item) (h : HoldsBytes form padding r)
    → packet_in r.item.found r.bytes ≡ h.holds.value ∷ []
held-values form padding r h =
    ap (λ f. packet_in f r.bytes) (held-found padding (framing_in form) h.start h.range h.bytes r h.holds)
    ∙ ap listed (lent_value-held padding (framing_in form) h.start h.range h.bytes r h.holds)

pub range-held : (form : Form) (padding : Padding) (r : Shown Item) → IsHeld form padding r → IsRangeIn form r.item.range
range-held form padding r (inl h) =
    subst (IsRangeIn form) (sym (held-range padding (framing_in form) h.start h.range h.bytes r h.holds)) h.in_form
range-held Raw padding r (inr gone) = absurd gone
range-held Demo padding r (inr gone) = subst (λ (s : Shown Item). IsRangeIn Demo s.item.range) (sym gone.shows) gone.fits
range-held SelfDelimited padding r (inr gone) = absurd gone

-- only a lost record is one
pub gone-lost : (form : Form) (r : Shown Item) → IsLossIn form r → r.item.found ≡ Lost
gone-lost Raw r gone = absurd gone
gone-lost Demo r gone = ap (λ (s : Shown Item). s.item.found) gone.shows
gone-lost SelfDelimited r gone = absurd gone

pub gone-range : (form : Form) (r : Shown Item) → IsLossIn form r → IsLossRange form r.item.range
gone-range Raw r gone = absurd gone
gone-range Demo r gone = subst (λ (s : Shown Item). s.item.range < 2 ^ 32) (sym gone.shows) gone.fits
gone-range SelfDelimited r gone = absurd gone

pub lent-held : (form : Form) (r : Shown Item) (h : HoldsBytes form Drop r) → lent_value (framing_in form) r.bytes ≡ Some h.holds.value
lent-held form r h = lent_value-held Drop (framing_in form) h.start h.range h.bytes r h.holds

pub found-held : (form : Form) (r : Shown Item) (h : HoldsBytes form Drop r)
    → r.item.found ≡ Packet (framing_in form) h.holds.shape (length h.bytes)
found-held form r h = held-found Drop (framing_in form) h.start h.range h.bytes r h.holds

pub no-frames : (form : Form) (r : Shown Item) → IsLossIn form r → [] ≡ frames_of (packet_in r.item.found r.bytes)
no-frames form r gone = sym (ap (λ f. frames_of (packet_in f r.bytes)) (gone-lost form r gone))

pub own-frames : (form : Form) (r : Shown Item) (h : HoldsBytes form Drop r)
    → h.holds.value.frames ≡ frames_of (packet_in r.item.found r.bytes)
own-frames form r h = sym (append-nil h.holds.value.frames) ∙ sym (ap frames_of (held-values form Drop r h))

-- ---- several

-- the frames of several values
pub each-bytes : (vs : List PacketValue) → AllByRecursion IsPacketValue vs → AreBytes (concat (frames_of vs))
    → AllByRecursion IsByteValue vs
each-bytes [] is are = tt
each-bytes (v ∷ vs) is are =
    let all = subst AreBytes (concat-append v.frames (frames_of vs)) are in (
      record { value = is.0; frames = AreBytes-left (concat v.frames) (concat (frames_of vs)) all },
      each-bytes vs is.1 (AreBytes-right (concat v.frames) (concat (frames_of vs)) all),
    )

pub all-bytes : (vs : List PacketValue) → AllByRecursion IsByteValue vs → AreBytes (concat (frames_of vs))
all-bytes [] is = tt
all-bytes (v ∷ vs) is =
    subst AreBytes (sym (concat-append v.frames (frames_of vs)))
    (AreBytes-append (concat v.frames) (concat (frames_of vs)) is.0.frames (all-bytes vs is.1))

-- one record's text before those of others
abbrev pub next-for : (form : Form) (text more : List ℕ) (r : Shown Item) (rs : List (Shown Item))
    → WroteFor form text (frames_of (packet_in r.item.found r.bytes)) → WroteFor form more (frames_of (values_of rs))
    → WroteFor form (text ++ more) (frames_of (values_of (r ∷ rs)))
next-for form text more r rs m n =
    let first = packet_in r.item.found r.bytes in
    same-for form (text ++ more) (text ++ more) (frames_of first ++ frames_of (values_of rs)) (frames_of (values_of (r ∷ rs))) refl
    (sym (frames-append first (values_of rs)))
    (both-for form text more (frames_of first) (frames_of (values_of rs)) m n)
