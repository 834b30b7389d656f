-- The laws of an input that is one payload.
use Rattle.std.proofs.Common.{◌≡◌, ◌⊎◌, inl, inr, ℕ, Bool, true, false, List, [], ◌∷◌, ◌++◌, sym, ap, ◌∙◌}
use Rattle.std.specs.declared.option.Option.{Option}
use Rattle.job_loop.specs.Forms.{Begins}
use Rattle.opus_packet.specs.PacketPrefix.{AreBytes}
use Rattle.pack_records.specs.declared.cut.Cut.{Cut}
use Rattle.pack_records.specs.Payloads.{Showing, IsShowing, Reading, IsReading}
use Rattle.pack_records.specs.OnePayload.{OneRecord, NoneYet, Settles, Ends, SaysSettles, StandsAt, RawStands}

-- ---- what a machine stands for is settled

module _ {P L R : Type 0} (m : Reading P L R) (laws : IsReading m) where
  shown_at : (over : Bool) (p : P) (h : List ℕ) (rs : List R) → StandsAt m over p h rs
      → OneRecord (m.shows (m.layout p)).decides h rs ⊎ NoneYet (m.shows (m.layout p)).decides h rs
  shown_at true p h rs at = inl at
  shown_at false p h rs at =
      inr record { undecided = λ early. laws.undecided p 0 0 0 h at.0 early; records_are = at.1 }

  pub one_settled : (over : Bool) (p : P) (h : List ℕ) (rs : List R) → RawStands m over p h rs
      → Settles (m.shows (m.layout p)).decides h rs
  one_settled over p h rs s = record { are_bytes = s.are_bytes; shows = shown_at over p h rs s.at }

-- ---- more bytes

module _ {R : Type 0} (w : Showing R) (place : R → ℕ) (laws : IsShowing w place) where
  same_first : (rs ss : List R) (r q : R) → rs ≡ r ∷ [] → ss ≡ q ∷ [] → r ≡ q → Begins rs ss
  same_first rs ss r q is other same = ([], other ∙ ap (λ x. x ∷ []) (sym same) ∙ ap (λ l. l ++ []) (sym is))

  -- bytes that decide a record early hold no other
  early_is : (h more : List ℕ) (q : R) → AreBytes (h ++ more) → (early : w.decides.early 0 0 h)
      → w.holds 0 0 (h ++ more) q → w.decides.told 0 0 h early ≡ q
  early_is h more q are early holds =
      let l = laws.early_stays 0 0 h more are early in
      sym l.same ∙ laws.holds_once 0 0 (h ++ more) (w.decides.told 0 0 (h ++ more) l.longer) q
      (laws.early_holds 0 0 (h ++ more) are l.longer) holds

  begins_by : (h more : List ℕ) (rs ss : List R) → AreBytes (h ++ more)
      → OneRecord w.decides h rs ⊎ NoneYet w.decides h rs
      → OneRecord w.decides (h ++ more) ss ⊎ NoneYet w.decides (h ++ more) ss → Begins rs ss
  begins_by h more rs ss are (inr n) b = (ss, ap (λ l. l ++ ss) (sym n.records_are))
  begins_by h more rs ss are (inl e) (inl f) =
      same_first rs ss (w.decides.told 0 0 h e.early) (w.decides.told 0 0 (h ++ more) f.early) e.records_are f.records_are
      (early_is h more (w.decides.told 0 0 (h ++ more) f.early) are e.early (laws.early_holds 0 0 (h ++ more) are f.early))
  begins_by h more rs ss are (inl e) (inr n) = absurd (n.undecided (laws.early_stays 0 0 h more are e.early).longer)

  ends_by : (h more : List ℕ) (rs ss : List R) (q : R) → AreBytes (h ++ more) → w.holds 0 0 (h ++ more) q → ss ≡ q ∷ []
      → OneRecord w.decides h rs ⊎ NoneYet w.decides h rs → Begins rs ss
  ends_by h more rs ss q are holds is (inl e) =
      same_first rs ss (w.decides.told 0 0 h e.early) q e.records_are is (early_is h more q are e.early holds)
  ends_by h more rs ss q are holds is (inr n) = (ss, ap (λ l. l ++ ss) (sym n.records_are))

  pub one_grows : (Own : List ℕ → List R → Type 0) → SaysSettles w.decides Own → (h more : List ℕ) (rs ss : List R)
      → Own h rs → Own (h ++ more) ss → Begins rs ss
  one_grows Own says h more rs ss a b =
      let c = says.from_own h rs a in
      let d = says.from_own (h ++ more) ss b in
      begins_by h more rs ss d.are_bytes c.shows d.shows

  pub one_ends_grow : (Own : List ℕ → List R → Type 0) → SaysSettles w.decides Own → (h more : List ℕ) (rs ss : List R)
      (cut : Option Cut) → Own h rs → Ends w (h ++ more) ss cut → Begins rs ss
  one_ends_grow Own says h more rs ss cut a b =
      ends_by h more rs ss b.shown b.are_bytes b.holds b.records_are (says.from_own h rs a).shows

  pub one_ends_once : (h : List ℕ) (rs ss : List R) (a b : Option Cut) → Ends w h rs a → Ends w h ss b → (rs ≡ ss) × (a ≡ b)
  one_ends_once h rs ss a b p q = (
    p.records_are ∙ ap (λ r. r ∷ []) (laws.holds_once 0 0 h p.shown q.shown p.holds q.holds) ∙ sym q.records_are,
    p.cut_is ∙ sym q.cut_is,
  )
