-- Stores that are cut end within a record.
use Rattle.std.proofs.Common.{◌≡◌, ℕ, ◌+◌, ◌<◌, ◌≤◌, ◌⊎◌, inl, inr, Bool, true, false, nat_lt, ltb-true, ltb-false, List, [], ◌∷◌, ◌++◌, length, length-append, length-take-le, replicate, take, drop, take-append-drop, refl, sym, ap, subst, ◌∙◌, append_assoc, append-nil, arith}
use Rattle.std.proofs.Math.Seq.{drop-append_seam}
use Rattle.std.proofs.lemmas.List.{length-replicate}
use Rattle.std.specs.List.{AllByRecursion}
use Rattle.rec_store.specs.DemoStore.{demo_head, demo_record, NoWholeRecord}
use Rattle.rec_store.specs.DemoCut.{DemoValue, IsDemoValue, demo_records, IsDemoStore, IsDemoCut, IsWithinRecord}
use Rattle.rec_store.specs.DumpStore.{AreBytes}
use Rattle.opus_io.proofs.BytesLemmas.{AreBytes-append, AreBytes-drop, AreBytes-zeros}
use Rattle.rec_store.proofs.DemoLemmas.{fronts_same, demo_record-front, length-demo_record, demo_record-whole, demo_head-of}

abbrev bytes_of : DemoValue → List ℕ
bytes_of r = demo_record r.range r.payload

length-bytes_of : (r : DemoValue) → length (bytes_of r) ≡ 8 + length r.payload
length-bytes_of r = length-demo_record r.range r.payload

-- ---- two lists that go on alike

lt_or_ge : (m n : ℕ) → (m < n) ⊎ (n ≤ m)
lt_or_ge m n = by_test (nat_lt m n) refl
  where
    by_test : (b : Bool) → nat_lt m n ≡ b → (m < n) ⊎ (n ≤ m)
    by_test true e = inl (ltb-true m n e)
    by_test false e = inr (ltb-false m n e)

-- the shorter front is a front of the longer one
front_within : (a b xs ys : List ℕ) → a ++ xs ≡ b ++ ys → length a ≤ length b
    → (b ≡ a ++ drop (length a) b) × (xs ≡ drop (length a) b ++ ys)
front_within a b xs ys e less =
    let n = length a in
    let split : b ≡ take n b ++ drop n b = sym (take-append-drop n b) in
    let both = fronts_same a (take n b) xs (drop n b ++ ys) (sym (length-take-le n b less))
    (e ∙ ap (λ l. l ++ ys) split ∙ append_assoc (take n b) (drop n b) ys) in
    (split ∙ ap (λ l. l ++ drop n b) (sym both.0), both.1)

-- ---- a cut store

add_record : (q : DemoValue) (x behind : List ℕ) → IsDemoValue q → x ≡ bytes_of q ++ behind
    → ((rs : List DemoValue) × IsDemoStore behind rs) ⊎ IsWithinRecord behind
    → ((rs : List DemoValue) × IsDemoStore x rs) ⊎ IsWithinRecord x
add_record q x behind is e (inl w) =
    inl (q ∷ w.0, record { are = (is, w.1.are); bytes_are = e ∙ ap (λ l. bytes_of q ++ l) w.1.bytes_are })
add_record q x behind is e (inr w) = inr (record {
  records = q ∷ w.records;
  rest = w.rest;
  are = (is, w.are);
  parts = e ∙ ap (λ l. bytes_of q ++ l) w.parts ∙ sym (append_assoc (bytes_of q) (demo_records w.records) w.rest);
  some = w.some;
  none = w.none;
})

-- a front of a record, and not all of it, begins with no record
part_none : (q : DemoValue) (x own : List ℕ) → IsDemoValue q → bytes_of q ≡ x ++ own → length x < length (bytes_of q)
    → NoWholeRecord x
part_none q x own is e less range payload more whole begins =
    let both : bytes_of q ++ [] ≡ demo_record range payload ++ (more ++ own) =
    append-nil (bytes_of q) ∙ e ∙ ap (λ l. l ++ own) begins ∙ append_assoc (demo_record range payload) more own in
    let same = demo_record-front q.range range q.payload payload [] (more ++ own) is whole both in
    let size = ap (λ (l : List ℕ). length l) begins ∙ length-append (demo_record range payload) more in
    omega (arith, less, size, length-demo_record range payload, length-bytes_of q, ap (λ (l : List ℕ). length l) same.1)

part_within : (q : DemoValue) (x own : List ℕ) → IsDemoValue q → bytes_of q ≡ x ++ own → length x < length (bytes_of q)
    → ((rs : List DemoValue) × IsDemoStore x rs) ⊎ IsWithinRecord x
part_within q [] own is e less = inl ([], record { are = tt; bytes_are = refl })
part_within q (b ∷ bs) own is e less = inr (record {
  records = [];
  rest = b ∷ bs;
  are = tt;
  parts = refl;
  some = omega arith;
  none = part_none q (b ∷ bs) own is e less;
})

whole_or_within : (qs : List DemoValue) (x more : List ℕ) → AllByRecursion IsDemoValue qs → x ++ more ≡ demo_records qs
    → ((rs : List DemoValue) × IsDemoStore x rs) ⊎ IsWithinRecord x
whole_or_within [] [] more are e = inl ([], record { are = tt; bytes_are = refl })
whole_or_within [] (b ∷ bs) more are e = absurd cc
whole_or_within (q ∷ qs) x more are e =
    go (λ y same. whole_or_within qs y more are.1 same) (lt_or_ge (length x) (length (bytes_of q)))
  where
    go : ((y : List ℕ) → y ++ more ≡ demo_records qs → ((rs : List DemoValue) × IsDemoStore y rs) ⊎ IsWithinRecord y)
        → (length x < length (bytes_of q)) ⊎ (length (bytes_of q) ≤ length x)
        → ((rs : List DemoValue) × IsDemoStore x rs) ⊎ IsWithinRecord x
    go behind (inl less) =
        part_within q x (drop (length x) (bytes_of q)) are.0
        (front_within x (bytes_of q) more (demo_records qs) e (omega (arith, less))).0 less
    go behind (inr most) =
        let both = front_within (bytes_of q) x (demo_records qs) more (sym e) most in
        add_record q x (drop (length (bytes_of q)) x) are.0 both.0 (behind (drop (length (bytes_of q)) x) (sym both.1))

not_whole-within : (x : List ℕ) → ((rs : List DemoValue) → IsDemoStore x rs → ⊥)
    → ((rs : List DemoValue) × IsDemoStore x rs) ⊎ IsWithinRecord x → IsWithinRecord x
not_whole-within x never (inl w) = absurd (never w.0 w.1)
not_whole-within x never (inr w) = w

pub cut-within : (x : List ℕ) → IsDemoCut x → IsWithinRecord x
cut-within x cut =
    not_whole-within x cut.not_whole (whole_or_within cut.records x cut.more cut.whole.are cut.whole.bytes_are)

-- ---- bytes that end within a record

-- what is behind whole records is none of a store
no_store : (ps qs : List DemoValue) (rest : List ℕ) → AllByRecursion IsDemoValue ps → AllByRecursion IsDemoValue qs
    → demo_records ps ++ rest ≡ demo_records qs → 1 ≤ length rest → NoWholeRecord rest → ⊥
no_store [] [] rest p q e some none = omega (arith, some, ap (λ (l : List ℕ). length l) e)
no_store [] (b ∷ qs) rest p q e some none = none b.range b.payload (demo_records qs) q.0 e
no_store (a ∷ ps) [] rest p q e some none =
    let size = ap (λ (l : List ℕ). length l) e in
    omega (arith, size, some, length-append (bytes_of a ++ demo_records ps) rest)
no_store (a ∷ ps) (b ∷ qs) rest p q e some none =
    let same = demo_record-front a.range b.range a.payload b.payload (demo_records ps ++ rest) (demo_records qs) p.0 q.0
    (sym (append_assoc (bytes_of a) (demo_records ps) rest) ∙ e) in
    no_store ps qs rest p.1 q.1 same.2 some none

-- bytes with enough zeros behind them begin with a record
record_behind : (rest : List ℕ) → AreBytes rest
    → (q : DemoValue) × (zeros : List ℕ) × (ys : List ℕ) × IsDemoValue q × (rest ++ zeros ≡ bytes_of q ++ ys)
record_behind rest are =
    let eight = replicate 8 0 in
    let head = demo_head-of (rest ++ eight) (AreBytes-append rest eight are (AreBytes-zeros 8))
    (omega (arith, length-append rest eight, length-replicate {A = ℕ} 8 0)) in
    let (len, range, len_fits, range_fits, is) = head in
    let own = drop 8 (rest ++ eight) in
    let zeros = replicate len 0 in
    let body = own ++ zeros in
    let whole = demo_record-whole len range body len_fits range_fits
    (omega (arith, length-append own zeros, length-replicate {A = ℕ} len 0)) in (
      record { range = range; payload = take len body },
      eight ++ zeros,
      drop len body,
      whole.0,
      sym (append_assoc rest eight zeros) ∙ ap (λ l. l ++ zeros) is ∙ append_assoc (demo_head len range) own zeros ∙ whole.1,
    )

-- a rest that begins with no record is a front of one
rest_of : (rest : List ℕ) → AreBytes rest → NoWholeRecord rest
    → (q : DemoValue) × (more : List ℕ) × IsDemoValue q × (rest ++ more ≡ bytes_of q)
rest_of rest are none =
    let (q, zeros, ys, is, e) = record_behind rest are in
    go q zeros ys is e (lt_or_ge (length rest) (length (bytes_of q)))
  where
    go : (q : DemoValue) (zeros ys : List ℕ) → IsDemoValue q → rest ++ zeros ≡ bytes_of q ++ ys
        → (length rest < length (bytes_of q)) ⊎ (length (bytes_of q) ≤ length rest)
        → (q : DemoValue) × (more : List ℕ) × IsDemoValue q × (rest ++ more ≡ bytes_of q)
    go q zeros ys is e (inl less) =
        (q, drop (length rest) (bytes_of q), is, sym (front_within rest (bytes_of q) zeros ys e (omega (arith, less))).0)
    go q zeros ys is e (inr most) =
        absurd (none q.range q.payload (drop (length (bytes_of q)) rest) is (front_within (bytes_of q) rest ys zeros (sym e) most).0)

-- one record more
records-push : (ps : List DemoValue) (q : DemoValue) (rest more : List ℕ) → rest ++ more ≡ bytes_of q
    → (demo_records ps ++ rest) ++ more ≡ demo_records (ps ++ q ∷ [])
records-push [] q rest more e = e ∙ sym (append-nil (bytes_of q))
records-push (p ∷ ps) q rest more e =
    ap (λ l. l ++ more) (append_assoc (bytes_of p) (demo_records ps) rest)
    ∙ append_assoc (bytes_of p) (demo_records ps ++ rest) more ∙ ap (λ l. bytes_of p ++ l) (records-push ps q rest more e)

are-push : (ps : List DemoValue) (q : DemoValue) → AllByRecursion IsDemoValue ps → IsDemoValue q
    → AllByRecursion IsDemoValue (ps ++ q ∷ [])
are-push [] q are is = (is, tt)
are-push (p ∷ ps) q are is = (are.0, are-push ps q are.1 is)

pub within-cut : (x : List ℕ) → AreBytes x → IsWithinRecord x → IsDemoCut x
within-cut x are w =
    let behind : drop (length (demo_records w.records)) x ≡ w.rest =
    ap (λ l. drop (length (demo_records w.records)) l) w.parts ∙ drop-append_seam (demo_records w.records) w.rest in
    let (q, more, is, e) = rest_of w.rest (subst AreBytes behind (AreBytes-drop (length (demo_records w.records)) x are)) w.none in
    record {
      not_whole = λ qs store. no_store w.records qs w.rest w.are store.are (sym w.parts ∙ store.bytes_are) w.some w.none;
      more = more;
      records = w.records ++ q ∷ [];
      whole = record {
        are = are-push w.records q w.are is;
        bytes_are = ap (λ l. l ++ more) w.parts ∙ records-push w.records q w.rest more e;
      };
    }
