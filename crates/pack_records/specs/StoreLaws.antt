-- The laws of a store of heads and payloads.
use Rattle.std.proofs.Common.{◌≡◌, inl, inr, ℕ, ◌+◌, List, [], ◌∷◌, ◌++◌, drop, length, sym, ap, ◌∙◌, subst, append_assoc}
use Rattle.std.specs.declared.option.Option.{Option}
use Rattle.std.specs.List.{AllByRecursion}
use Rattle.job_loop.specs.Forms.{Begins}
use Rattle.opus_packet.specs.PacketPrefix.{AreBytes}
use Rattle.opus_packet.proofs.BytesLemmas.{AreBytes-left, AreBytes-right}
use Rattle.rec_store.specs.DemoStore.{demo_head, demo_record, NoWholeRecord}
use Rattle.rec_store.proofs.DemoLemmas.{demo_record-front}
use Rattle.pack_records.specs.declared.cut.Cut.{Cut}
use Rattle.pack_records.specs.Payloads.{Showing, IsShowing}
use Rattle.pack_records.specs.Stores.{StoreRecord, store_of, IsStoreRecord, cut_at, ShowsPayload, ShowsRest, ShowsStore, IsStoreFront, Settles, Ends}
use Rattle.pack_records.specs.StoreRests.{cut_more, cut_once, cut_longer, cut_whole, part_more, shown_once, early_once, early_whole}

same_begins : {R : Type 0} (r s : R) (ss : List R) → r ≡ s → Begins (r ∷ []) (s ∷ ss)
same_begins r s ss is = (ss, ap (λ x. x ∷ ss) (sym is))

payload_bytes : (q : StoreRecord) (ys : List ℕ) → AreBytes (demo_record q.range q.payload ++ ys) → AreBytes q.payload
payload_bytes q ys are =
    AreBytes-right (demo_head (length q.payload) q.range) q.payload
    (AreBytes-left (demo_record q.range q.payload) ys are)

module _ {R : Type 0} (w : Showing R) (place : R → ℕ) (laws : IsShowing w place) where
  -- ---- more bytes behind a rest

  -- the record that two equal parts decide
  early_moved : (start n m : ℕ) (a b : List ℕ) → n ≡ m → a ≡ b → AreBytes a → (e : w.decides.early start n a)
      → (f : w.decides.early start m b) → w.decides.told start n a e ≡ w.decides.told start m b f
  early_moved start n m a b range part =
      subst (λ k. AreBytes a → (e : w.decides.early start n a) → (f : w.decides.early start k b)
      → w.decides.told start n a e ≡ w.decides.told start k b f) range
      (subst (λ l. AreBytes a → (e : w.decides.early start n a) → (f : w.decides.early start n l)
      → w.decides.told start n a e ≡ w.decides.told start n l f) part
      (λ are e f. early_once w place laws start n a are e f))

  -- a rest that goes on and is still one
  rest_rest : (at : ℕ) (rest more : List ℕ) (rs ss : List R) → AreBytes (rest ++ more) → NoWholeRecord (rest ++ more)
      → ShowsRest w.decides at rest rs → ShowsRest w.decides at (rest ++ more) ss → Begins rs ss
  rest_rest at rest more rs ss are none (inr o) b = (ss, ap (λ l. l ++ ss) (sym o.shows))
  rest_rest at rest more rs ss are none (inl e) (inl f) =
      let same = cut_more rest more e.part f.part e.range f.range e.payload f.payload in
      let all = part_more rest e.part more e.range e.payload are in
      let l = laws.early_stays (at + 8) e.range e.part more all e.early in
      let is = early_moved (at + 8) e.range f.range (e.part ++ more) f.part same.0 same.1 all l.longer f.early in
      ([], f.shows ∙ ap (λ x. x ∷ []) (sym is ∙ l.same) ∙ ap (λ k. k ++ []) (sym e.shows))
  rest_rest at rest more rs ss are none (inl e) (inr o) =
      let l = laws.early_stays (at + 8) e.range e.part more (part_more rest e.part more e.range e.payload are) e.early in
      absurd (o.undecided (at + 8) e.range (e.part ++ more) (cut_longer rest more e.part e.range e.payload none) l.longer)

  -- a rest that goes on to a whole record
  rest_record : (at : ℕ) (rest more ys : List ℕ) (q : StoreRecord) (rs ss : List R) (s : R) → IsStoreRecord q
      → rest ++ more ≡ demo_record q.range q.payload ++ ys → AreBytes q.payload → ShowsRest w.decides at rest rs
      → ShowsPayload w (at + 8) q.range q.payload s → Begins rs (s ∷ ss)
  rest_record at rest more ys q rs ss s is_record is payload (inr o) b = (s ∷ ss, ap (λ l. l ++ (s ∷ ss)) (sym o.shows))
  rest_record at rest more ys q rs ss s is_record is payload (inl e) b =
      let parts = cut_whole rest more e.part q.payload ys e.range q.range e.payload is_record is in
      let behind = drop (length e.part) q.payload in
      let r = w.decides.told (at + 8) e.range e.part e.early in
      let first : ShowsPayload w (at + 8) e.range (e.part ++ behind) r =
      early_whole w place laws (at + 8) e.range e.part behind (subst AreBytes parts.1 payload) e.early in
      let shown : ShowsPayload w (at + 8) q.range q.payload r =
      subst (λ n. ShowsPayload w (at + 8) n q.payload r) parts.0
      (subst (λ p. ShowsPayload w (at + 8) e.range p r) (sym parts.1) first) in
      subst (λ l. Begins l (s ∷ ss)) (sym e.shows)
      (same_begins r s ss (shown_once w place laws (at + 8) q.range q.payload r s shown b))

  -- ---- two stores of which one is a front of the other

  begins_at : (at : ℕ) (ps qs : List StoreRecord) (rest rest' more : List ℕ) (rs ss : List R)
      → AllByRecursion IsStoreRecord ps → AllByRecursion IsStoreRecord qs
      → (store_of ps ++ rest) ++ more ≡ store_of qs ++ rest' → AreBytes (store_of qs ++ rest') → NoWholeRecord rest'
      → ShowsStore w at ps rest rs → ShowsStore w at qs rest' ss → Begins rs ss
  begins_at at [] [] rest rest' more rs ss ps_are qs_are is are none a b =
      rest_rest at rest more rs ss (subst AreBytes (sym is) are) (subst NoWholeRecord (sym is) none) a
      (subst (λ l. ShowsRest w.decides at l ss) (sym is) b)
  begins_at at [] (q ∷ qs) rest rest' more rs [] ps_are qs_are is are none a b = absurd b
  begins_at at [] (q ∷ qs) rest rest' more rs (s ∷ ss) ps_are qs_are is are none a b =
      let parts : rest ++ more ≡ demo_record q.range q.payload ++ (store_of qs ++ rest') =
      is ∙ append_assoc (demo_record q.range q.payload) (store_of qs) rest' in
      rest_record at rest more (store_of qs ++ rest') q rs ss s qs_are.0 parts
      (payload_bytes q (store_of qs ++ rest')
      (subst AreBytes (append_assoc (demo_record q.range q.payload) (store_of qs) rest') are)) a b.0
  begins_at at (p ∷ ps) [] rest rest' more rs ss ps_are qs_are is are none a b =
      absurd (none p.range p.payload ((store_of ps ++ rest) ++ more) ps_are.0
      (sym is ∙ ap (λ l. l ++ more) (append_assoc (demo_record p.range p.payload) (store_of ps) rest)
      ∙ append_assoc (demo_record p.range p.payload) (store_of ps ++ rest) more))
  begins_at at (p ∷ ps) (q ∷ qs) rest rest' more [] ss ps_are qs_are is are none a b = absurd a
  begins_at at (p ∷ ps) (q ∷ qs) rest rest' more (r ∷ rs) [] ps_are qs_are is are none a b = absurd b
  begins_at at (p ∷ ps) (q ∷ qs) rest rest' more (r ∷ rs) (s ∷ ss) ps_are qs_are is are none a b =
      let left = demo_record p.range p.payload in
      let right = demo_record q.range q.payload in
      let behind : right ++ (store_of qs ++ rest') ≡ store_of (q ∷ qs) ++ rest' = sym (append_assoc right (store_of qs) rest') in
      let parts : left ++ ((store_of ps ++ rest) ++ more) ≡ right ++ (store_of qs ++ rest') =
      sym (append_assoc left (store_of ps ++ rest) more)
      ∙ ap (λ l. l ++ more) (sym (append_assoc left (store_of ps) rest)) ∙ is ∙ sym behind in
      let same = demo_record-front p.range q.range p.payload q.payload ((store_of ps ++ rest) ++ more)
      (store_of qs ++ rest') ps_are.0 qs_are.0 parts in
      let first : r ≡ s =
      shown_once w place laws (at + 8) q.range q.payload r s
      (subst (λ n. ShowsPayload w (at + 8) n q.payload r) same.0
      (subst (λ l. ShowsPayload w (at + 8) p.range l r) same.1 a.0)) b.0 in
      let next = begins_at (at + (8 + length p.payload)) ps qs rest rest' more rs ss ps_are.1 qs_are.1 same.2
      (AreBytes-right right (store_of qs ++ rest') (subst AreBytes (sym behind) are)) none a.1
      (subst (λ l. ShowsStore w (at + (8 + length l)) qs rest' ss) (sym same.1) b.1) in
      (next.0, ap (λ x. x ∷ ss) (sym first) ∙ ap (λ l. r ∷ l) next.1)

  front_grows : (h more rest rest' : List ℕ) (rs ss : List R) → IsStoreFront w h rs rest
      → IsStoreFront w (h ++ more) ss rest' → Begins rs ss
  front_grows h more rest rest' rs ss a b =
      begins_at 0 a.whole b.whole rest rest' more rs ss a.are b.are
      (ap (λ l. l ++ more) (sym a.parts) ∙ b.parts) (subst AreBytes b.parts b.are_bytes) b.none a.shows b.shows

  pub store_grows : (h more : List ℕ) (rs ss : List R) → Settles w h rs → Settles w (h ++ more) ss → Begins rs ss
  store_grows h more rs ss a b = front_grows h more a.0 b.0 rs ss a.1 b.1

  pub store_ends_grow : (h more : List ℕ) (rs ss : List R) (cut : Option Cut) → Settles w h rs
      → Ends w (h ++ more) ss cut → Begins rs ss
  store_ends_grow h more rs ss cut a b = front_grows h more a.0 b.0 rs ss a.1 b.1

  -- ---- one store

  rest_once : (at : ℕ) (rest : List ℕ) (rs ss : List R) → AreBytes rest → ShowsRest w.decides at rest rs
      → ShowsRest w.decides at rest ss → rs ≡ ss
  rest_once at rest rs ss are (inl e) (inl f) =
      let same = cut_once rest e.part f.part e.range f.range e.payload f.payload in
      let part = AreBytes-right (demo_head e.payload.len e.range) e.part (subst AreBytes e.payload.rest_is are) in
      e.shows ∙ ap (λ x. x ∷ []) (early_moved (at + 8) e.range f.range e.part f.part same.0 same.1 part e.early f.early)
      ∙ sym f.shows
  rest_once at rest rs ss are (inl e) (inr o) = absurd (o.undecided (at + 8) e.range e.part e.payload e.early)
  rest_once at rest rs ss are (inr o) (inl e) = absurd (o.undecided (at + 8) e.range e.part e.payload e.early)
  rest_once at rest rs ss are (inr o) (inr p) = o.shows ∙ sym p.shows

  same_at : (at : ℕ) (ps qs : List StoreRecord) (rest rest' : List ℕ) (rs ss : List R)
      → AllByRecursion IsStoreRecord ps → AllByRecursion IsStoreRecord qs → store_of ps ++ rest ≡ store_of qs ++ rest'
      → AreBytes rest' → NoWholeRecord rest → NoWholeRecord rest' → ShowsStore w at ps rest rs
      → ShowsStore w at qs rest' ss → (rs ≡ ss) × (rest ≡ rest')
  same_at at [] [] rest rest' rs ss ps_are qs_are is are none none' a b =
      (rest_once at rest' rs ss are (subst (λ l. ShowsRest w.decides at l rs) is a) b, is)
  same_at at [] (q ∷ qs) rest rest' rs ss ps_are qs_are is are none none' a b =
      absurd (none q.range q.payload (store_of qs ++ rest') qs_are.0
      (is ∙ append_assoc (demo_record q.range q.payload) (store_of qs) rest'))
  same_at at (p ∷ ps) [] rest rest' rs ss ps_are qs_are is are none none' a b =
      absurd (none' p.range p.payload (store_of ps ++ rest) ps_are.0
      (sym is ∙ append_assoc (demo_record p.range p.payload) (store_of ps) rest))
  same_at at (p ∷ ps) (q ∷ qs) rest rest' [] ss ps_are qs_are is are none none' a b = absurd a
  same_at at (p ∷ ps) (q ∷ qs) rest rest' (r ∷ rs) [] ps_are qs_are is are none none' a b = absurd b
  same_at at (p ∷ ps) (q ∷ qs) rest rest' (r ∷ rs) (s ∷ ss) ps_are qs_are is are none none' a b =
      let same = demo_record-front p.range q.range p.payload q.payload (store_of ps ++ rest) (store_of qs ++ rest')
      ps_are.0 qs_are.0 (sym (append_assoc (demo_record p.range p.payload) (store_of ps) rest) ∙ is
      ∙ append_assoc (demo_record q.range q.payload) (store_of qs) rest') in
      let first : r ≡ s =
      shown_once w place laws (at + 8) q.range q.payload r s
      (subst (λ n. ShowsPayload w (at + 8) n q.payload r) same.0
      (subst (λ l. ShowsPayload w (at + 8) p.range l r) same.1 a.0)) b.0 in
      let next = same_at (at + (8 + length p.payload)) ps qs rest rest' rs ss ps_are.1 qs_are.1 same.2 are none none' a.1
      (subst (λ l. ShowsStore w (at + (8 + length l)) qs rest' ss) (sym same.1) b.1) in
      (ap (λ x. x ∷ rs) first ∙ ap (λ l. s ∷ l) next.0, next.1)

  pub store_ends_once : (h : List ℕ) (rs ss : List R) (a b : Option Cut) → Ends w h rs a → Ends w h ss b
      → (rs ≡ ss) × (a ≡ b)
  store_ends_once h rs ss a b p q =
      let same = same_at 0 p.1.whole q.1.whole p.0 q.0 rs ss p.1.are q.1.are (sym p.1.parts ∙ q.1.parts)
      (AreBytes-right (store_of q.1.whole) q.0 (subst AreBytes q.1.parts q.1.are_bytes)) p.1.none q.1.none p.1.shows
      q.1.shows in
      (same.0, p.2 ∙ ap (cut_at (length h)) same.1 ∙ sym q.2)
