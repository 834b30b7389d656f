-- The laws of captures as an input of records: their bytes decide one list of records, more bytes only add to it, and an
-- input ends in one way.
use Rattle.std.proofs.Common.{◌≡◌, inl, inr, ℕ, ◌+◌, List, [], ◌∷◌, ◌++◌, length, length-append, refl, sym, ap, ◌∙◌, subst, append_assoc, append-nil, Some, None, arith}
use Rattle.std.specs.declared.option.Option.{Option}
use Rattle.std.specs.List.{AllByRecursion, flat_map}
use Rattle.job_loop.specs.Shown.{Shown}
use Rattle.job_loop.specs.Forms.{Begins}
use Rattle.rec_store.specs.Dump.{DumpRecord, IsDumpRecord, dump_record_bytes}
use Rattle.rec_store.specs.DumpLine.{IsBadLine}
use Rattle.rec_store.specs.DumpStore.{IsOpeningPart, HasShortLength}
use Rattle.rec_store.specs.declared.stop.StoreFault.{StoreFault}
use Rattle.rec_store.specs.declared.stop.StoreFault.TheVariants.{DumpLine, DumpLength}
use Rattle.rec_store.proofs.LineLemmas.{bad_line-longer, bad_line-once}
use Rattle.rec_store.proofs.RecordLemmas.{IsNoRecord, length-dump_record, part-no_record, part-not_short, short-none, short-no_record, short-longer}
use Rattle.rec_store.proofs.StoreLemmas.{opening-front, bad_line-no_opening, fronts_begin}
use Rattle.dump_records.specs.declared.item.Item.{Item}
use Rattle.dump_records.specs.Capture.{shown_record, bad_record, shown_records, ShowsRest, ShowsBadLine, ShowsRecords, DumpSettles, CutOf, DumpEnds}

-- records one after another
pub shown_records-joined : (at : ℕ) (ps qs : List DumpRecord) → shown_records at (ps ++ qs)
    ≡ shown_records at ps ++ shown_records (at + length (flat_map dump_record_bytes ps)) qs
shown_records-joined at [] qs = ap (λ n. shown_records n qs) (omega arith)
shown_records-joined at (p ∷ ps) qs =
    let next = at + (8 + length p.kept) in
    let size = length-append (dump_record_bytes p) (flat_map dump_record_bytes ps) in
    let place : next + length (flat_map dump_record_bytes ps) ≡ at + length (flat_map dump_record_bytes (p ∷ ps)) =
    omega (arith, size, length-dump_record p) in
    ap (λ l. shown_record next p ∷ l) (shown_records-joined next ps qs
    ∙ ap (λ n. shown_records next ps ++ shown_records n qs) place)

-- the first record stands behind the opening
first_place : (h : List ℕ) (rs : List (Shown Item)) (r : ShowsRecords h rs) → r.first ≡ length r.front.opening
first_place h rs r =
    let spelled = flat_map dump_record_bytes r.records in
    let size = ap (λ (l : List ℕ). length l) r.front.parts in
    omega (arith, r.first_is, r.at_is, size, length-append r.front.opening (spelled ++ r.rest), length-append spelled r.rest)

no_record : (at : ℕ) (rest : List ℕ) (last : List (Shown Item)) → ShowsRest at rest last → IsNoRecord rest
no_record at rest last (inl part) = part-no_record rest part.0
no_record at rest last (inr short) = short-no_record rest short.0

-- ---- what one of three cases excludes

body : (h : List ℕ) (rs : List (Shown Item)) → ShowsRecords h rs → List ℕ
body h rs r = flat_map dump_record_bytes r.records ++ r.rest

records_no_part : (h more : List ℕ) (rs : List (Shown Item)) → ShowsRecords h rs → IsOpeningPart (h ++ more) → ⊥
unfolding body
records_no_part h more rs r part =
    let b = body h rs r in
    let e : r.front.opening ++ ((b ++ more) ++ part.more) ≡ ((h ++ more) ++ part.more) ++ [] =
    sym (append_assoc r.front.opening (b ++ more) part.more)
    ∙ ap (λ l. l ++ part.more) (sym (append_assoc r.front.opening b more) ∙ ap (λ l. l ++ more) (sym r.front.parts))
    ∙ sym (append-nil ((h ++ more) ++ part.more)) in
    let behind = (opening-front r.head part.head r.front.opening ((h ++ more) ++ part.more) ((b ++ more) ++ part.more) []
    r.front.is_opening part.whole e).1 in
    absurd (omega (arith, part.some, ap (λ (l : List ℕ). length l) behind, length-append (b ++ more) part.more))

bad_no_part : (h more : List ℕ) (place : ℕ) → IsBadLine h place → IsOpeningPart (h ++ more) → ⊥
bad_no_part h more place bad part =
    bad_line-no_opening h ((h ++ more) ++ part.more) (more ++ part.more) [] place part.head bad part.whole
    (sym (append_assoc h more part.more) ∙ sym (append-nil ((h ++ more) ++ part.more)))

bad_no_records : (h more : List ℕ) (place : ℕ) (ss : List (Shown Item)) → IsBadLine h place
    → ShowsRecords (h ++ more) ss → ⊥
unfolding body
bad_no_records h more place ss bad r =
    bad_line-no_opening h r.front.opening more (body (h ++ more) ss r) place r.head bad r.front.is_opening r.front.parts

records_no_bad : (h more : List ℕ) (place : ℕ) (rs : List (Shown Item)) → ShowsRecords h rs
    → IsBadLine (h ++ more) place → ⊥
unfolding body
records_no_bad h more place rs r bad =
    let b = body h rs r in
    bad_line-no_opening (h ++ more) r.front.opening [] (b ++ more) place r.head bad r.front.is_opening
    (append-nil (h ++ more) ∙ ap (λ l. l ++ more) r.front.parts ∙ append_assoc r.front.opening b more)

-- ---- more bytes

same_begins : (rs ss : List (Shown Item)) → ss ≡ rs → Begins rs ss
same_begins rs ss is = ([], is ∙ sym (append-nil rs))

bad_grows : (h more : List ℕ) (rs ss : List (Shown Item)) → ShowsBadLine h rs → ShowsBadLine (h ++ more) ss
    → Begins rs ss
bad_grows h more rs ss a b =
    let same = bad_line-once (h ++ more) b.place a.place b.bad (bad_line-longer h more a.place a.bad) in
    same_begins rs ss (b.shows ∙ ap (λ n. bad_record (n + 1) (DumpLine n) ∷ []) same ∙ sym a.shows)

-- what is shown of the rest stays, and others may follow
rest_grows : (first at at' : ℕ) (others : List DumpRecord) (rest rest' more : List ℕ) (last last' : List (Shown Item))
    → ShowsRest at rest last → ShowsRest at' rest' last' → AllByRecursion IsDumpRecord others
    → rest ++ more ≡ flat_map dump_record_bytes others ++ rest' → (others ≡ [] → at' ≡ at)
    → Begins last (shown_records first others ++ last')
rest_grows first at at' others rest rest' more last last' (inl part) b are is same =
    (shown_records first others ++ last', ap (λ l. l ++ (shown_records first others ++ last')) (sym part.1))
rest_grows first at at' [] rest rest' more last last' (inr short) (inl part) are is same =
    absurd (part-not_short rest' part.0 (subst HasShortLength is (short-longer rest more short.0)))
rest_grows first at at' [] rest rest' more last last' (inr short) (inr short') are is same =
    same_begins last last' (short'.1 ∙ ap (λ n. bad_record (n + 2) (DumpLength n) ∷ []) (same refl) ∙ sym short.1)
rest_grows first at at' (o ∷ os) rest rest' more last last' (inr short) b are is same =
    absurd (short-none rest more (flat_map dump_record_bytes os ++ rest') o short.0 are.0
    (is ∙ append_assoc (dump_record_bytes o) (flat_map dump_record_bytes os) rest'))

records_grow : (h more : List ℕ) (rs ss : List (Shown Item)) → ShowsRecords h rs → ShowsRecords (h ++ more) ss
    → Begins rs ss
records_grow h more rs ss r q =
    let both = fronts_begin h more r.head q.head r.records q.records r.rest q.rest r.front q.front
    (no_record q.at q.rest q.last q.shows_rest) in
    let others = both.1.others in
    let joined : q.records ≡ r.records ++ others = both.1.joined in
    let first : q.first ≡ r.first =
    first_place (h ++ more) ss q ∙ ap (λ (l : List ℕ). length l) (sym both.0) ∙ sym (first_place h rs r) in
    let then = r.first + length (flat_map dump_record_bytes r.records) in
    let same : others ≡ [] → q.at ≡ r.at = λ none.
    sym q.first_is ∙ ap (λ n. n + length (flat_map dump_record_bytes q.records)) first
    ∙ ap (λ l. r.first + length (flat_map dump_record_bytes l))
    (joined ∙ ap (λ l. r.records ++ l) none ∙ append-nil r.records) ∙ r.first_is in
    let behind = rest_grows then r.at q.at others r.rest q.rest more r.last q.last r.shows_rest q.shows_rest both.1.are
    both.1.behind same in (
      behind.0,
      q.shows ∙ ap (λ n. shown_records n q.records ++ q.last) first
          ∙ ap (λ l. shown_records r.first l ++ q.last) joined
          ∙ ap (λ l. l ++ q.last) (shown_records-joined r.first r.records others)
          ∙ append_assoc (shown_records r.first r.records) (shown_records then others) q.last
          ∙ ap (λ l. shown_records r.first r.records ++ l) behind.1
          ∙ sym (append_assoc (shown_records r.first r.records) r.last behind.0)
          ∙ ap (λ l. l ++ behind.0) (sym r.shows),
    )

pub dump_grows : (h more : List ℕ) (rs ss : List (Shown Item)) → DumpSettles h rs → DumpSettles (h ++ more) ss
    → Begins rs ss
dump_grows h more rs ss (inl a) b = (ss, ap (λ l. l ++ ss) (sym a.shows))
dump_grows h more rs ss (inr (inl a)) (inl b) = absurd (bad_no_part h more a.place a.bad b.part)
dump_grows h more rs ss (inr (inl a)) (inr (inl b)) = bad_grows h more rs ss a b
dump_grows h more rs ss (inr (inl a)) (inr (inr b)) = absurd (bad_no_records h more a.place ss a.bad b)
dump_grows h more rs ss (inr (inr a)) (inl b) = absurd (records_no_part h more rs a b.part)
dump_grows h more rs ss (inr (inr a)) (inr (inl b)) = absurd (records_no_bad h more b.place rs a b.bad)
dump_grows h more rs ss (inr (inr a)) (inr (inr b)) = records_grow h more rs ss a b

pub dump_ends_grow : (h more : List ℕ) (rs ss : List (Shown Item)) (cut : Option StoreFault) → DumpSettles h rs
    → DumpEnds (h ++ more) ss cut → Begins rs ss
dump_ends_grow h more rs ss cut a b = dump_grows h more rs ss a b.0

-- ---- one end

-- each of two lists begins with the other
both_begin : (rs ss : List (Shown Item)) → Begins rs ss → Begins ss rs → rs ≡ ss
both_begin rs ss ([], is) b = sym (append-nil rs) ∙ sym is
both_begin rs ss (x ∷ xs, is) b =
    absurd (omega (
      arith,
      ap (λ (l : List (Shown Item)). length l) is,
      ap (λ (l : List (Shown Item)). length l) b.1,
      length-append rs (x ∷ xs),
      length-append ss b.0,
    ))

settles_once : (h : List ℕ) (rs ss : List (Shown Item)) → DumpSettles h rs → DumpSettles h ss → rs ≡ ss
settles_once h rs ss a b =
    both_begin rs ss (dump_grows h [] rs ss a (subst (λ l. DumpSettles l ss) (sym (append-nil h)) b))
    (dump_grows h [] ss rs b (subst (λ l. DumpSettles l rs) (sym (append-nil h)) a))

cut_once : (h : List ℕ) (a b : Option StoreFault) → CutOf h a → CutOf h b → a ≡ b
cut_once h None None p q = refl
cut_once h None (Some f) p q = absurd (p q.0)
cut_once h (Some e) None p q = absurd (q p.0)
cut_once h (Some e) (Some f) p q = ap Some (p.1 ∙ sym q.1)

pub dump_ends_once : (h : List ℕ) (rs ss : List (Shown Item)) (a b : Option StoreFault) → DumpEnds h rs a
    → DumpEnds h ss b → (rs ≡ ss) × (a ≡ b)
dump_ends_once h rs ss a b p q = (settles_once h rs ss p.0 q.0, cut_once h a b p.1 q.1)
