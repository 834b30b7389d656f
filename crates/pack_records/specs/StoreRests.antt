-- The rest of a store: what is decided of it, and what more bytes make of it.
use Rattle.std.proofs.Common.{◌≡◌, ◌⊎◌, inl, inr, ℕ, ◌<◌, ◌≤◌, List, [], ◌∷◌, ◌++◌, take, drop, length, sym, ap, ◌∙◌, subst, append_assoc, take-append-drop, arith}
use Rattle.std.proofs.lemmas.Bool.{cases_lt}
use Rattle.std.proofs.lemmas.List.{take-append-le}
use Rattle.std.proofs.Math.Seq.{take-append_seam}
use Rattle.opus_packet.specs.PacketPrefix.{AreBytes}
use Rattle.opus_packet.proofs.BytesLemmas.{AreBytes-right}
use Rattle.rec_store.specs.DemoStore.{demo_head, demo_record, IsDemoRecord, NoWholeRecord}
use Rattle.rec_store.proofs.DemoLemmas.{demo_head-front, demo_record-whole}
use Rattle.pack_records.specs.Payloads.{Showing, IsShowing}
use Rattle.pack_records.specs.Stores.{CutPayload, ShowsPayload}

-- ---- a head and a part of a payload

-- it goes on
pub cut_more : (rest more part part' : List ℕ) (range range' : ℕ) → CutPayload rest range part
    → CutPayload (rest ++ more) range' part' → (range ≡ range') × (part ++ more ≡ part')
cut_more rest more part part' range range' a b =
    let e : demo_head a.len range ++ (part ++ more) ≡ demo_head b.len range' ++ part' =
    sym (append_assoc (demo_head a.len range) part more) ∙ ap (λ l. l ++ more) (sym a.rest_is) ∙ b.rest_is in
    let heads = demo_head-front a.len b.len range range' (part ++ more) part' a.len_fits b.len_fits a.range_fits
    b.range_fits e in
    (heads.1, heads.2)

pub cut_once : (rest part part' : List ℕ) (range range' : ℕ) → CutPayload rest range part
    → CutPayload rest range' part' → (range ≡ range') × (part ≡ part')
cut_once rest part part' range range' a b =
    let heads = demo_head-front a.len b.len range range' part part' a.len_fits b.len_fits a.range_fits b.range_fits
    (sym a.rest_is ∙ b.rest_is) in
    (heads.1, heads.2)

-- it goes on, and no record is whole yet
pub cut_longer : (rest more part : List ℕ) (range : ℕ) → CutPayload rest range part → NoWholeRecord (rest ++ more)
    → CutPayload (rest ++ more) range (part ++ more)
cut_longer rest more part range a none =
    go (cases_lt (length (part ++ more)) a.len)
    (ap (λ l. l ++ more) a.rest_is ∙ append_assoc (demo_head a.len range) part more)
  where
    go : (length (part ++ more) < a.len) ⊎ (a.len ≤ length (part ++ more))
        → rest ++ more ≡ demo_head a.len range ++ (part ++ more) → CutPayload (rest ++ more) range (part ++ more)
    go (inl short) is = record {
      len = a.len;
      len_fits = a.len_fits;
      range_fits = a.range_fits;
      short = short;
      rest_is = is;
    }
    go (inr enough) is =
        let w = demo_record-whole a.len range (part ++ more) a.len_fits a.range_fits enough in
        absurd (none range (take a.len (part ++ more)) (drop a.len (part ++ more)) w.0 (is ∙ w.1))

-- it goes on to a whole record
pub front_in : (a xs b ys : List ℕ) → a ++ xs ≡ b ++ ys → length a ≤ length b → b ≡ a ++ drop (length a) b
front_in a xs b ys is fits =
    let first : take (length a) b ≡ a =
    sym (take-append-le (length a) b ys fits) ∙ ap (take (length a)) (sym is) ∙ take-append_seam a xs in
    sym (take-append-drop (length a) b) ∙ ap (λ l. l ++ drop (length a) b) first

pub cut_whole : (rest more part payload ys : List ℕ) (range range' : ℕ) → CutPayload rest range part
    → IsDemoRecord range' payload → rest ++ more ≡ demo_record range' payload ++ ys
    → (range ≡ range') × (payload ≡ part ++ drop (length part) payload)
cut_whole rest more part payload ys range range' a is_record is =
    let e : demo_head a.len range ++ (part ++ more) ≡ demo_head (length payload) range' ++ (payload ++ ys) =
    sym (append_assoc (demo_head a.len range) part more) ∙ ap (λ l. l ++ more) (sym a.rest_is) ∙ is
    ∙ append_assoc (demo_head (length payload) range') payload ys in
    let heads = demo_head-front a.len (length payload) range range' (part ++ more) (payload ++ ys) a.len_fits
    is_record.payload_fits a.range_fits is_record.range_fits e in
    let short = a.short in
    let size = heads.0 in
    (heads.1, front_in part more payload ys heads.2 (omega (arith, short, size)))

-- the bytes of a cut payload, and others behind it, are bytes
pub part_more : (rest part more : List ℕ) (range : ℕ) → CutPayload rest range part → AreBytes (rest ++ more)
    → AreBytes (part ++ more)
part_more rest part more range c are =
    AreBytes-right (demo_head c.len range) (part ++ more)
    (subst AreBytes (ap (λ l. l ++ more) c.rest_is ∙ append_assoc (demo_head c.len range) part more) are)

-- ---- what is shown

pub some_shows : {R : Type 0} (w : Showing R) (start range : ℕ) (payload : List ℕ) (r : R) → 0 < length payload
    → w.holds start range payload r → ShowsPayload w start range payload r
some_shows w start range [] r some holds = absurd (omega (arith, some))
some_shows w start range (b ∷ bs) r some holds = holds

module _ {R : Type 0} (w : Showing R) (place : R → ℕ) (laws : IsShowing w place) where
  pub shown_once : (start range : ℕ) (payload : List ℕ) (r s : R) → ShowsPayload w start range payload r
      → ShowsPayload w start range payload s → r ≡ s
  shown_once start range [] r s a b = a ∙ sym b
  shown_once start range (x ∷ xs) r s a b = laws.holds_once start range (x ∷ xs) r s a b

  -- one record shows what is decided early
  pub early_once : (start range : ℕ) (part : List ℕ) → AreBytes part → (a b : w.decides.early start range part)
      → w.decides.told start range part a ≡ w.decides.told start range part b
  early_once start range part are a b =
      laws.holds_once start range part (w.decides.told start range part a) (w.decides.told start range part b)
      (laws.early_holds start range part are a) (laws.early_holds start range part are b)

  pub early_shows : (start range : ℕ) (part : List ℕ) → AreBytes part → (e : w.decides.early start range part)
      → ShowsPayload w start range part (w.decides.told start range part e)
  early_shows start range part are e =
      some_shows w start range part (w.decides.told start range part e) (laws.early_some start range part e)
      (laws.early_holds start range part are e)

  -- a whole payload that begins so shows it too
  pub early_whole : (start range : ℕ) (part more : List ℕ) → AreBytes (part ++ more)
      → (e : w.decides.early start range part)
      → ShowsPayload w start range (part ++ more) (w.decides.told start range part e)
  early_whole start range part more are e =
      let l = laws.early_stays start range part more are e in
      subst (ShowsPayload w start range (part ++ more)) l.same (early_shows start range (part ++ more) are l.longer)
