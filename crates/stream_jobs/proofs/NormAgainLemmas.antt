-- What norm wrote of multistream packets is read again, and norm leaves it as it is.
use Rattle.std.proofs.Common.{◌≡◌, ℕ, ◌+◌, ◌<◌, ◌≤◌, ◌^◌, List, [], ◌∷◌, ◌++◌, length, map, flat_map, Option, None, Some, inl, inr, refl, sym, ap, ◌∙◌, subst, append-nil, arith}
use Rattle.std.specs.List.{AllByRecursion}
use Rattle.job_loop.specs.Shown.{Shown}
use Rattle.job_loop.specs.Meaning.{going, outcome}
use Rattle.job_loop.specs.declared.input_end.InputEnd.{InputEnd}
use Rattle.job_loop.specs.declared.input_end.InputEnd.TheVariants.{Closed}
use Rattle.rec_store.specs.DemoStore.{demo_head, demo_record}
use Rattle.rec_store.proofs.DemoLemmas.{NoWholeRecord-short}
use Rattle.opus_packet.specs.PacketPrefix.{AreBytes}
use Rattle.opus_packet.proofs.BytesLemmas.{AreBytes-append, AreBytes-left, AreBytes-right}
use Rattle.opus_multi.specs.Forms.{kept_multistream}
use Rattle.opus_words.specs.declared.form.Form.{Form}
use Rattle.opus_words.specs.declared.form.Form.TheVariants.{Raw, Demo, SelfDelimited}
use Rattle.pack_records.specs.declared.cut.Cut.{Cut}
use Rattle.pack_records.specs.Demo.{StoreRecord, store_of, IsStoreRecord}
use Rattle.job_ends.specs.Refusal.{told}
use Rattle.pack_jobs.proofs.StoreBytes.{record-are}
use Rattle.stream_records.specs.declared.item.StreamsItem.{StreamsItem}
use Rattle.stream_records.specs.Holds.{Choices, HoldsStreams, lost_record}
use Rattle.stream_records.specs.Raw.{RawEnds}
use Rattle.stream_records.specs.Demo.{ShowsPayload, ShowsRest, ShowsStore, DemoEnds}
use Rattle.stream_records.specs.DemoRests.{some_shows}
use Rattle.stream_records.proofs.DemoFronts.{undecided_short}
use Rattle.job_ends.specs.Each.{texts_from, IsWritten, AreWritten}
use Rattle.stream_jobs.specs.Norm.{norm_makes, norm}
use Rattle.stream_jobs.specs.StreamEnds.{ends_in}
use Rattle.stream_jobs.specs.Contents.{Content, content_of, HoldsHeld, IsStored, AreStored, AreContents}
use Rattle.stream_jobs.specs.NormAgain.{IsNormAgain}
use Rattle.job_ends.proofs.EachLemmas.{each_written}
use Rattle.stream_jobs.specs.Refusal.{cut_refusal}
use Rattle.stream_jobs.proofs.AgreeLemmas.{are_held, form_some, held_fits, payload_in, content_text, norm_made, norm_text}
use Rattle.stream_jobs.proofs.ContentsLemmas.{made_good}
use Rattle.stream_jobs.proofs.KeptAgain.{held_in, is_again, next_record, next_holds, next_held, next_written}

-- ---- an input that is read again

-- records that hold the same, and that norm writes, are written so too
again_same : (form : Form) (c : Choices) (rs ss : List (Shown StreamsItem)) (xs : List Content) (end : InputEnd Cut)
    (text : List ℕ) → AreContents form c rs xs → AreContents form c ss xs → AreWritten (norm_made form c) 0 ss
    → outcome (norm form c.streams c.padding) rs end ≡ going text tt
    → outcome (norm form c.streams c.padding) ss Closed ≡ going text tt
again_same form c rs ss xs end text held again written e =
    let own = texts_from (norm_made form c) 0 ss in
    let writes_own = (each_written cut_refusal (norm_made form c) ss Closed own).1 (written, tt, refl) in
    let is : own ≡ text =
    norm_text form c ss xs Closed own again writes_own ∙ sym (norm_text form c rs xs end text held e) in
    subst (λ l. outcome (norm form c.streams c.padding) ss Closed ≡ going l tt) is writes_own

-- ---- form raw

raw_again : (c : Choices) (x : List ℕ) (rs : List (Shown StreamsItem)) (cut : Option Cut) (end : InputEnd Cut) (text : List ℕ)
    → RawEnds c x rs cut → outcome (norm Raw c.streams c.padding) rs end ≡ going text tt → IsNormAgain Raw c rs text
raw_again c x rs cut end text ends e =
    let (written, uncut, is) = (each_written cut_refusal (norm_made Raw c) rs end text).0 e in
    let all = subst (AreWritten (norm_made Raw c) 0) ends.records_are written in
    let holds = made_good c (norm_makes Raw c.streams c.padding) (told 0) 0 0 x ends.shown ends.holds all.0 in
    let hs = held_in c 0 0 x ends.shown holds in
    let a = is_again c 0 0 x ends.shown holds ends.are_bytes in
    let next = next_record c hs a 0 0 in
    let xs = content_of 0 (Some hs) ∷ [] in
    let held : AreContents Raw c rs xs = record {
      shown = ends.shown;
      held = hs;
      holds = record { start = 0; bytes = x; holds = holds; held = refl };
      records_are = ends.records_are;
      contents_are = refl;
    } in
    let again : AreContents Raw c (next ∷ []) xs =
    record { shown = next; held = hs; holds = next_held c hs a 0 0; records_are = refl; contents_are = refl } in
    let text_is : text ≡ kept_multistream hs =
    norm_text Raw c rs xs end text held e ∙ append-nil (kept_multistream hs) in
    record {
      records = next ∷ [];
      ends = subst (λ l. RawEnds c l (next ∷ []) None) (sym text_is)
          record { are_bytes = a.bytes; shown = next; holds = inl (next_holds c hs a 0 0); records_are = refl; cut_is = refl };
      contents = xs;
      held = held;
      again = again;
      same = again_same Raw c rs (next ∷ []) xs end text held again (next_written Raw c 0 hs a 0 0, tt) e;
    }

-- ---- form demo

-- the record of a store that norm writes
abbrev stored : Content → StoreRecord
stored x = record { range = x.range; payload = payload_in x.streams }

record OneAgain (c : Choices) (number at : ℕ) (r : Shown StreamsItem) : Type 0 where
  content : Content
  held : IsStored c r content
  next : Shown StreamsItem
  again : IsStored c next content
  shows : ShowsPayload c at content.range (payload_in content.streams) next
  written : IsWritten (norm_made Demo c number next)
  is_record : IsStoreRecord (stored content)
  are : AreBytes (payload_in content.streams)

lost_one : (c : Choices) (number start at range : ℕ) → range < 2 ^ 32 → OneAgain c number at (lost_record start range)
lost_one c number start at range fits = record {
  content = content_of range None;
  held = record { fits = fits; has = (start, refl) };
  next = lost_record at range;
  again = record { fits = fits; has = (at, refl) };
  shows = refl;
  written = tt;
  is_record = record { range_fits = fits; payload_fits = omega arith };
  are = tt;
}

packets_one : (c : Choices) (number start at range : ℕ) (bytes : List ℕ) (r : Shown StreamsItem) → c.streams ≤ 255
    → range < 2 ^ 32 → AreBytes bytes → HoldsStreams c start range bytes r → OneAgain c number at r
packets_one c number start at range bytes r most fits are holds =
    let hs = held_in c start range bytes r holds in
    let a = is_again c start range bytes r holds are in
    let held : HoldsHeld c range hs r = record { start = start; bytes = bytes; holds = holds; held = refl } in
    let sizes = are_held c range hs r held in
    record {
      content = content_of range (Some hs);
      held = record { fits = fits; has = held };
      next = next_record c hs a at range;
      again = record { fits = fits; has = next_held c hs a at range };
      shows = some_shows c at range (kept_multistream hs) (next_record c hs a at range) (form_some hs sizes.some sizes.each)
          (inl (next_holds c hs a at range));
      written = next_written Demo c number hs a at range;
      is_record = record { range_fits = fits; payload_fits = held_fits c.streams (Some hs) most sizes };
      are = a.bytes;
    }

one_again : (c : Choices) (number start at range : ℕ) (payload : List ℕ) (r : Shown StreamsItem) → c.streams ≤ 255
    → range < 2 ^ 32 → AreBytes payload → ShowsPayload c start range payload r → IsWritten (norm_made Demo c number r)
    → OneAgain c number at r
one_again c number start at range [] r most fits are shows written =
    subst (OneAgain c number at) (sym shows) (lost_one c number start at range fits)
one_again c number start at range (b ∷ bs) r most fits are shows written =
    packets_one c number start at range (b ∷ bs) r most fits are
    (made_good c (norm_makes Demo c.streams c.padding) (told number) start range (b ∷ bs) r shows written)

record StoreAgain (c : Choices) (number at : ℕ) (rs : List (Shown StreamsItem)) : Type 0 where
  contents : List Content
  held : AreStored c rs contents
  records : List (Shown StreamsItem)
  again : AreStored c records contents
  shows : ShowsStore c at (map stored contents) [] records
  written : AreWritten (norm_made Demo c) number records
  are_records : AllByRecursion IsStoreRecord (map stored contents)
  are : AreBytes (store_of (map stored contents))

nothing_again : (c : Choices) (number at : ℕ) → StoreAgain c number at []
nothing_again c number at = record {
  contents = [];
  held = tt;
  records = [];
  again = tt;
  shows = inr record { undecided = undecided_short c.streams [] (omega arith); shows = refl };
  written = tt;
  are_records = tt;
  are = tt;
}

more_again : (c : Choices) (number at : ℕ) (r : Shown StreamsItem) (rs : List (Shown StreamsItem))
    (one : OneAgain c number (at + 8) r) → StoreAgain c (number + 1) (at + (8 + length (payload_in one.content.streams))) rs
    → StoreAgain c number at (r ∷ rs)
more_again c number at r rs one behind = record {
  contents = one.content ∷ behind.contents;
  held = (one.held, behind.held);
  records = one.next ∷ behind.records;
  again = (one.again, behind.again);
  shows = (one.shows, behind.shows);
  written = (one.written, behind.written);
  are_records = (one.is_record, behind.are_records);
  are = AreBytes-append (demo_record one.content.range (payload_in one.content.streams)) (store_of (map stored behind.contents))
      (record-are one.content.range (payload_in one.content.streams) one.are) behind.are;
}

rest_again : (c : Choices) (number start at : ℕ) (rest : List ℕ) (rs : List (Shown StreamsItem))
    → ShowsRest c.streams start rest rs → AreWritten (norm_made Demo c) number rs → StoreAgain c number at rs
rest_again c number start at rest rs (inl early) written =
    let all = subst (AreWritten (norm_made Demo c) number) early.shows written in
    absurd (subst (λ (s : Shown StreamsItem). IsWritten (norm_made Demo c number s)) early.early.holds.shows all.0)
rest_again c number start at rest rs (inr none) written =
    subst (StoreAgain c number at) (sym none.shows) (nothing_again c number at)

store_again : (c : Choices) (number start at : ℕ) (ss : List StoreRecord) (rest : List ℕ) (rs : List (Shown StreamsItem))
    → c.streams ≤ 255 → ShowsStore c start ss rest rs → AllByRecursion IsStoreRecord ss → AreBytes (store_of ss)
    → AreWritten (norm_made Demo c) number rs → StoreAgain c number at rs
store_again c number start at [] rest rs most shows is are written = rest_again c number start at rest rs shows written
store_again c number start at (s ∷ ss) rest [] most shows is are written = absurd shows
store_again c number start at (s ∷ ss) rest (r ∷ rs) most shows is are written =
    let payload = AreBytes-right (demo_head (length s.payload) s.range) s.payload
    (AreBytes-left (demo_record s.range s.payload) (store_of ss) are) in
    let one = one_again c number (start + 8) (at + 8) s.range s.payload r most is.0.range_fits payload shows.0 written.0 in
    more_again c number at r rs one
    (store_again c (number + 1) (start + (8 + length s.payload)) (at + (8 + length (payload_in one.content.streams))) ss rest
    rs most shows.1 is.1 (AreBytes-right (demo_record s.range s.payload) (store_of ss) are) written.1)

store_text : (xs : List Content) → flat_map (content_text Demo) xs ≡ store_of (map stored xs)
store_text [] = refl
store_text (x ∷ xs) = ap (λ l. demo_record x.range (payload_in x.streams) ++ l) (store_text xs)

demo_again : (c : Choices) (x : List ℕ) (rs : List (Shown StreamsItem)) (cut : Option Cut) (end : InputEnd Cut) (text : List ℕ)
    → c.streams ≤ 255 → DemoEnds c x rs cut → outcome (norm Demo c.streams c.padding) rs end ≡ going text tt
    → IsNormAgain Demo c rs text
demo_again c x rs cut end text most ends e =
    let front = ends.1 in
    let (written, uncut, is) = (each_written cut_refusal (norm_made Demo c) rs end text).0 e in
    let all = store_again c 0 0 0 front.whole ends.0 rs most front.shows front.are
    (AreBytes-left (store_of front.whole) ends.0 (subst AreBytes front.parts front.are_bytes)) written in
    let text_is : text ≡ store_of (map stored all.contents) =
    norm_text Demo c rs all.contents end text all.held e ∙ store_text all.contents in
    record {
      records = all.records;
      ends = (
        [],
        record {
          are_bytes = subst AreBytes (sym text_is) all.are;
          whole = map stored all.contents;
          are = all.are_records;
          parts = text_is ∙ sym (append-nil (store_of (map stored all.contents)));
          none = NoWholeRecord-short [] (omega arith);
          shows = all.shows;
        },
        refl,
      );
      contents = all.contents;
      held = all.held;
      again = all.again;
      same = again_same Demo c rs all.records all.contents end text all.held all.again all.written e;
    }

-- ---- both forms

pub norm_again : (form : Form) (c : Choices) (x : List ℕ) (rs : List (Shown StreamsItem)) (cut : Option Cut)
    (end : InputEnd Cut) (text : List ℕ) → c.streams ≤ 255 → ends_in form c x rs cut
    → outcome (norm form c.streams c.padding) rs end ≡ going text tt → IsNormAgain form c rs text
norm_again Raw c x rs cut end text most ends e = raw_again c x rs cut end text ends e
norm_again Demo c x rs cut end text most ends e = demo_again c x rs cut end text most ends e
norm_again SelfDelimited c x rs cut end text most ends e = absurd ends
