-- All that norm takes of multistream packets has contents.
use Rattle.std.proofs.Common.{◌≡◌, ℕ, ◌+◌, ◌^◌, ◌<◌, List, [], ◌∷◌, length, map, Option, None, Some, inl, inr, refl, sym, subst}
use Rattle.std.specs.List.{AllByRecursion}
use Rattle.job_loop.specs.Shown.{Shown}
use Rattle.job_loop.specs.Meaning.{going, outcome}
use Rattle.job_loop.specs.declared.input_end.InputEnd.{InputEnd}
use Rattle.opus_words.specs.declared.form.Form.{Form}
use Rattle.opus_words.specs.declared.form.Form.TheVariants.{Raw, Demo, SelfDelimited}
use Rattle.pack_records.specs.declared.cut.Cut.{Cut}
use Rattle.pack_records.specs.Demo.{StoreRecord, IsStoreRecord}
use Rattle.job_ends.specs.Refusal.{told}
use Rattle.stream_records.specs.declared.item.StreamsItem.{StreamsItem}
use Rattle.stream_records.specs.Holds.{Choices, Holds, HoldsStreams, held_as}
use Rattle.stream_records.specs.Raw.{RawEnds}
use Rattle.stream_records.specs.Demo.{ShowsPayload, ShowsRest, ShowsStore}
use Rattle.stream_jobs.specs.Each.{Makes, made_of}
use Rattle.job_ends.specs.Each.{IsWritten, AreWritten}
use Rattle.stream_jobs.specs.Norm.{norm_makes, norm}
use Rattle.stream_jobs.specs.StreamEnds.{ends_in}
use Rattle.stream_jobs.specs.Contents.{Content, content_of, HoldsHeld, IsStored, AreStored, IsOnePacket, AreContents}
use Rattle.job_ends.proofs.EachLemmas.{each_written}
use Rattle.stream_jobs.specs.Refusal.{cut_refusal}
use Rattle.stream_jobs.proofs.AgreeLemmas.{norm_made}

-- ---- all that norm takes has contents

-- a job that refuses each record that isn't good
pub made_good : (c : Choices) (makes : Makes) (number start range : ℕ) (bytes : List ℕ) (r : Shown StreamsItem)
    → Holds c start range bytes r → IsWritten (made_of c.streams makes number r) → HoldsStreams c start range bytes r
made_good c makes number start range bytes r (inl holds) written = holds
made_good c makes number start range bytes r (inr (inl broken)) written =
    absurd (subst (λ (s : Shown StreamsItem). IsWritten (made_of c.streams makes number s)) broken.shows written)
made_good c makes number start range bytes r (inr (inr unequal)) written =
    absurd (subst (λ (s : Shown StreamsItem). IsWritten (made_of c.streams makes number s)) unequal.shows written)

held_by : (c : Choices) (start range : ℕ) (bytes : List ℕ) (r : Shown StreamsItem) (holds : HoldsStreams c start range bytes r)
    → HoldsHeld c range (map (held_as c.padding) holds.streams) r
held_by c start range bytes r holds = record { start = start; bytes = bytes; holds = holds; held = refl }

payload_content : (c : Choices) (makes : Makes) (number start range : ℕ) (payload : List ℕ) (r : Shown StreamsItem)
    → range < 2 ^ 32 → ShowsPayload c start range payload r → IsWritten (made_of c.streams makes number r)
    → (x : Content) × IsStored c r x
payload_content c makes number start range [] r fits shows written =
    (content_of range None, record { fits = fits; has = (start, shows) })
payload_content c makes number start range (b ∷ bs) r fits shows written =
    let holds = made_good c makes number start range (b ∷ bs) r shows written in
    (content_of range (Some (map (held_as c.padding) holds.streams)), record { fits = fits; has = held_by c start range (b ∷ bs) r holds })

rest_contents : (c : Choices) (makes : Makes) (number at : ℕ) (rest : List ℕ) (rs : List (Shown StreamsItem))
    → ShowsRest c.streams at rest rs → AreWritten (λ n. made_of c.streams makes (told n)) number rs
    → (xs : List Content) × AreStored c rs xs
rest_contents c makes number at rest rs (inl early) written =
    let all = subst (AreWritten (λ n. made_of c.streams makes (told n)) number) early.shows written in
    absurd (subst (λ (s : Shown StreamsItem). IsWritten (made_of c.streams makes (told number) s)) early.early.holds.shows all.0)
rest_contents c makes number at rest rs (inr none) written = ([], subst (λ l. AreStored c l []) (sym none.shows) tt)

pub store_contents : (c : Choices) (makes : Makes) (number at : ℕ) (ss : List StoreRecord) (rest : List ℕ)
    (rs : List (Shown StreamsItem)) → AllByRecursion IsStoreRecord ss → ShowsStore c at ss rest rs
    → AreWritten (λ n. made_of c.streams makes (told n)) number rs → (xs : List Content) × AreStored c rs xs
store_contents c makes number at [] rest rs are shows written = rest_contents c makes number at rest rs shows written
store_contents c makes number at (s ∷ ss) rest [] are shows written = absurd shows
store_contents c makes number at (s ∷ ss) rest (r ∷ rs) are shows written =
    let (x, first) = payload_content c makes (told number) (at + 8) s.range s.payload r are.0.range_fits shows.0 written.0 in
    let (xs, behind) = store_contents c makes (number + 1) (at + (8 + length s.payload)) ss rest rs are.1 shows.1 written.1 in
    (x ∷ xs, (first, behind))

raw_contents : (c : Choices) (makes : Makes) (x : List ℕ) (rs : List (Shown StreamsItem)) (cut : Option Cut) → RawEnds c x rs cut
    → AreWritten (λ n. made_of c.streams makes (told n)) 0 rs → (xs : List Content) × IsOnePacket c rs xs
raw_contents c makes x rs cut ends written =
    let all = subst (AreWritten (λ n. made_of c.streams makes (told n)) 0) ends.records_are written in
    let holds = made_good c makes (told 0) 0 0 x ends.shown ends.holds all.0 in
    let hs = map (held_as c.padding) holds.streams in (
      content_of 0 (Some hs) ∷ [],
      record { shown = ends.shown; held = hs; holds = held_by c 0 0 x ends.shown holds; records_are = ends.records_are; contents_are = refl },
    )

form_contents : (form : Form) (c : Choices) (makes : Makes) (x : List ℕ) (rs : List (Shown StreamsItem)) (cut : Option Cut)
    → ends_in form c x rs cut → AreWritten (λ n. made_of c.streams makes (told n)) 0 rs
    → (xs : List Content) × AreContents form c rs xs
form_contents Raw c makes x rs cut ends written = raw_contents c makes x rs cut ends written
form_contents Demo c makes x rs cut ends written =
    store_contents c makes 0 0 ends.1.whole ends.0 rs ends.1.are ends.1.shows written
form_contents SelfDelimited c makes x rs cut ends written = absurd ends

pub norm_contents : (form : Form) (c : Choices) (x : List ℕ) (rs : List (Shown StreamsItem)) (cut : Option Cut)
    (end : InputEnd Cut) (text : List ℕ) → ends_in form c x rs cut
    → outcome (norm form c.streams c.padding) rs end ≡ going text tt → (xs : List Content) × AreContents form c rs xs
norm_contents form c x rs cut end text ends e =
    let (written, uncut, is) = (each_written cut_refusal (norm_made form c) rs end text).0 e in
    form_contents form c (norm_makes form c.streams c.padding) x rs cut ends written
