-- Texts of records that have some frames, in order, and are read again with them.
use Rattle.std.proofs.Common.{◌≡◌, ℕ, ◌≤◌, List, [], ◌∷◌, ◌++◌, length, map, flat_map, None, refl, sym, ap, ◌∙◌, subst, append-nil, arith}
use Rattle.std.specs.List.{AllByRecursion, concat}
use Rattle.std.proofs.lemmas.Grind.{flat_map-append}
use Rattle.job_loop.specs.Shown.{Shown}
use Rattle.opus_packet.specs.PacketPrefix.{AreBytes}
use Rattle.opus_packet.specs.Value.{PacketValue, IsPacketValue}
use Rattle.opus_packet.specs.Canonical.{canonical_shape}
use Rattle.opus_packet.proofs.CanonicalLemmas.{canonical-is_packet}
use Rattle.opus_packet.proofs.SpellingLemmas.{kept_form-nil}
use Rattle.opus_writer.proofs.FormLemmas.{kept_self-nil}
use Rattle.opus_writer.proofs.SelfLemmas.{canonical_self-is_packet}
use Rattle.opus_feed.specs.declared.padding.Padding.TheVariants.{Drop}
use Rattle.opus_words.specs.declared.form.Form.{Form}
use Rattle.opus_words.specs.declared.form.Form.TheVariants.{Raw, Demo, SelfDelimited}
use Rattle.pack_records.specs.declared.item.Item.{Item}
use Rattle.pack_records.specs.Fits.{form_of}
use Rattle.pack_records.specs.Holds.{Reads}
use Rattle.pack_jobs.specs.Records.{record_bytes, canonical_in, canonical_record}
use Rattle.pack_jobs.specs.Groups.{values_of, frames_of}
use Rattle.pack_jobs.specs.PackEnds.{ends_in}
use Rattle.pack_jobs.proofs.FormBytes.{form-are}
use Rattle.pack_jobs.proofs.FormSizes.{form_sizes}
use Rattle.pack_jobs.proofs.HeldLemmas.{framing_in, IsRangeIn}
use Rattle.pack_jobs.proofs.WrittenAgain.{Spelling, Wrote, packet, loss, values_in, wrote_one, wrote_text, IsSpelling, IsLossRange, IsWrote, AreWrote, read_from, wrote-ends, wrote-values}

-- ---- texts and their frames

-- the text is written records, which have these frames
pub record WroteFor (form : Form) (text : List ℕ) (frames : List (List ℕ)) : Type 0 where
  pub wrote : List Wrote
  pub is : AllByRecursion (IsWrote form) wrote
  pub text_is : text ≡ wrote_text form wrote
  pub frames_are : frames_of (flat_map values_in wrote) ≡ frames

abbrev pub nothing-for : (form : Form) → WroteFor form [] []
nothing-for form = record { wrote = []; is = tt; text_is = refl; frames_are = refl }

abbrev pub packet-for : (form : Form) (s : Spelling) → IsSpelling form s → WroteFor form (record_bytes form s.range s.bytes) s.value.frames
packet-for form s is = record {
  wrote = packet s ∷ [];
  is = (is, tt);
  text_is = sym (append-nil (record_bytes form s.range s.bytes));
  frames_are = append-nil s.value.frames;
}

abbrev pub loss-for : (form : Form) (range : ℕ) → IsLossRange form range → WroteFor form (record_bytes form range []) []
loss-for form range is = record {
  wrote = loss range ∷ [];
  is = (is, tt);
  text_is = sym (append-nil (record_bytes form range []));
  frames_are = refl;
}

abbrev pub same-for : (form : Form) (text other : List ℕ) (frames others : List (List ℕ)) → other ≡ text → frames ≡ others
    → WroteFor form text frames → WroteFor form other others
same-for form text other frames others e f m =
    record { wrote = m.wrote; is = m.is; text_is = e ∙ m.text_is; frames_are = m.frames_are ∙ f }

pub each-append : {A : Type 0} → (P : A → Type 0) (xs ys : List A) → AllByRecursion P xs → AllByRecursion P ys
    → AllByRecursion P (xs ++ ys)
each-append P [] ys first second = second
each-append P (x ∷ xs) ys first second = (first.0, each-append P xs ys first.1 second)

pub frames-append : (vs ws : List PacketValue) → frames_of (vs ++ ws) ≡ frames_of vs ++ frames_of ws
frames-append vs ws = flat_map-append (λ (v : PacketValue). v.frames) vs ws

-- one text behind another
abbrev pub both-for : (form : Form) (text more : List ℕ) (frames others : List (List ℕ)) → WroteFor form text frames
    → WroteFor form more others → WroteFor form (text ++ more) (frames ++ others)
both-for form text more frames others m n = record {
  wrote = m.wrote ++ n.wrote;
  is = each-append (IsWrote form) m.wrote n.wrote m.is n.is;
  text_is = ap (λ l. l ++ more) m.text_is ∙ ap (λ l. wrote_text form m.wrote ++ l) n.text_is
      ∙ sym (flat_map-append (wrote_one form) m.wrote n.wrote);
  frames_are = ap frames_of (flat_map-append values_in m.wrote n.wrote)
      ∙ frames-append (flat_map values_in m.wrote) (flat_map values_in n.wrote)
      ∙ ap (λ l. l ++ frames_of (flat_map values_in n.wrote)) m.frames_are ∙ ap (λ l. frames ++ l) n.frames_are;
}

-- a whole input is written, whose records have these frames
abbrev pub IsReadWith : Form → List ℕ → List (List ℕ) → Type 0
IsReadWith form text frames =
    (ss : List (Shown Item)) × ends_in form Drop text ss None × (frames_of (values_of ss) ≡ frames)

pub read-with : (form : Form) (text : List ℕ) (frames : List (List ℕ)) (m : WroteFor form text frames)
    → AreWrote form m.wrote → IsReadWith form text frames
read-with form text frames m are =
    let records = read_from Drop form 0 m.wrote in (
      records,
      subst (λ l. ends_in form Drop l records None) (sym m.text_is) (wrote-ends form Drop m.wrote are),
      ap frames_of (wrote-values form Drop m.wrote are) ∙ m.frames_are,
    )

-- ---- canonical packets

-- a value whose frames are bytes
pub record IsByteValue (v : PacketValue) : Type 0 where
  pub value : IsPacketValue v
  pub frames : AreBytes (concat v.frames)

canonical-form : (form : Form) (v : PacketValue) → form_of (framing_in form) v [] ≡ canonical_in form v
canonical-form Raw v = kept_form-nil v
canonical-form Demo v = kept_form-nil v
canonical-form SelfDelimited v = kept_self-nil v

canonical-reads : (form : Form) (v : PacketValue) → IsPacketValue v
    → Reads (framing_in form) v (canonical_shape (map length v.frames)) [] (canonical_in form v)
canonical-reads Raw v is = canonical-is_packet v is
canonical-reads Demo v is = canonical-is_packet v is
canonical-reads SelfDelimited v is = canonical_self-is_packet v is

abbrev canonical-spelling : Form → ℕ → PacketValue → Spelling
canonical-spelling form range v =
    record { range = range; value = v; shape = canonical_shape (map length v.frames); tail = []; bytes = canonical_in form v }

pub canonical-sizes : (form : Form) (v : PacketValue) → IsPacketValue v
    → (1 ≤ length (canonical_in form v)) × (length (canonical_in form v) ≤ 500000)
canonical-sizes form v is =
    let sizes = form_sizes (framing_in form) v [] is (omega arith) in
    let size = ap length (canonical-form form v) in (omega (arith, size, sizes.0), omega (arith, size, sizes.1))

canonical-spelled : (form : Form) (range : ℕ) (v : PacketValue) → IsRangeIn form range → IsByteValue v
    → IsSpelling form (canonical-spelling form range v)
canonical-spelled form range v in_form is =
    let sizes = canonical-sizes form v is.value in
    record {
      in_form = in_form;
      reads = canonical-reads form v is.value;
      are = subst AreBytes (canonical-form form v) (form-are (framing_in form) v [] is.value is.frames tt);
      some = sizes.0;
      fits = omega (arith, sizes.1);
    }

pub canonical-for : (form : Form) (range : ℕ) (v : PacketValue) → IsRangeIn form range → IsByteValue v
    → WroteFor form (canonical_record form range v) v.frames
canonical-for form range v in_form is = packet-for form (canonical-spelling form range v) (canonical-spelled form range v in_form is)

pub no-range : (form : Form) → IsRangeIn form 0
no-range Raw = refl
no-range Demo = omega arith
no-range SelfDelimited = refl
