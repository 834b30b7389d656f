-- What a call of the machine says of the bytes that it took, by its mode.
use Rattle.std.proofs.Common.{◌≡◌, ◌⊎◌, inl, inr, ℕ, ◌+◌, List, [], ◌++◌, length, sym, subst}
use Rattle.job_loop.specs.Shown.{Shown}
use Rattle.rec_store.specs.DumpLine.{IsLinePart}
use Rattle.rec_store.specs.DumpStore.{AreBytes}
use Rattle.rec_store.proofs.LineLemmas.{bad_line-longer}
use Rattle.dump_records.specs.declared.item.Item.{Item}
use Rattle.dump_records.specs.declared.form.DumpForm.{DumpForm}
use Rattle.dump_records.specs.declared.mode.Mode.{Mode}
use Rattle.dump_records.specs.declared.mode.Mode.TheVariants.{Line, Head, Fresh, Kept, First, Part, Bad}
use Rattle.dump_records.specs.Capture.{ShowsBadLine}
use Rattle.dump_records.specs.DumpForm.{StandsIn, DumpStands, InHead, InRecords, InRecord, InShort}
use Rattle.dump_records.proofs.StandLemmas.{head_more, head_whole, short_longer}

-- ---- what the machine stood for

stands_in : (m : Mode) (s : DumpForm) (h : List ℕ) (rs : List (Shown Item)) → s.mode ≡ m → DumpStands s h rs
    → StandsIn m s h rs
stands_in m s h rs mode stands = subst (λ n. StandsIn n s h rs) mode stands

pub in_line : (s : DumpForm) (h : List ℕ) (rs : List (Shown Item)) → s.mode ≡ Line → DumpStands s h rs
    → IsLinePart h × (length h ≡ s.seen) × (rs ≡ [])
in_line s h rs mode stands = stands_in Line s h rs mode stands

in_head : (s : DumpForm) (h : List ℕ) (rs : List (Shown Item)) → s.mode ≡ Head → DumpStands s h rs
    → InHead s.seen h × (rs ≡ [])
in_head s h rs mode stands = stands_in Head s h rs mode stands

pub between : (s : DumpForm) (h : List ℕ) (rs : List (Shown Item)) → (s.mode ≡ Fresh) ⊎ (s.mode ≡ Kept)
    → DumpStands s h rs → InRecords h rs []
between s h rs (inl mode) stands = stands_in Fresh s h rs mode stands
between s h rs (inr mode) stands = stands_in Kept s h rs mode stands

pub behind_first : (s : DumpForm) (h : List ℕ) (rs : List (Shown Item)) → s.mode ≡ First → DumpStands s h rs
    → InRecord s.kept.items h rs × (s.start + 1 ≡ length h)
behind_first s h rs mode stands = stands_in First s h rs mode stands

pub within : (s : DumpForm) (h : List ℕ) (rs : List (Shown Item)) → s.mode ≡ Part → DumpStands s h rs
    → InRecord s.kept.items h rs
within s h rs mode stands = stands_in Part s h rs mode stands

-- ---- what it stands for

pub stands_head : (new : DumpForm) (h : List ℕ) (rs : List (Shown Item)) → new.mode ≡ Head → InHead new.seen h → rs ≡ []
    → DumpStands new h rs
stands_head new h rs mode now none = subst (λ n. StandsIn n new h rs) (sym mode) (now, none)

pub stands_part : (new : DumpForm) (h : List ℕ) (rs : List (Shown Item)) → new.mode ≡ Part
    → InRecord new.kept.items h rs → DumpStands new h rs
stands_part new h rs mode now = subst (λ n. StandsIn n new h rs) (sym mode) now

pub stands_bad : (new : DumpForm) (h : List ℕ) (rs : List (Shown Item)) → new.mode ≡ Bad
    → ShowsBadLine h rs ⊎ InShort h rs → DumpStands new h rs
stands_bad new h rs mode now = subst (λ n. StandsIn n new h rs) (sym mode) now

-- ---- more bytes of the head

pub head_goes : (s : DumpForm) (own h : List ℕ) (rs : List (Shown Item)) → s.mode ≡ Head → DumpStands s h rs
    → AreBytes own → InHead (s.seen + length own) (h ++ own) × (rs ≡ [])
head_goes s own h rs mode stands bytes =
    let before = in_head s h rs mode stands in
    (head_more s.seen h own before.0 bytes, before.1)

pub head_ends : (s : DumpForm) (own h : List ℕ) (rs : List (Shown Item)) → s.mode ≡ Head → DumpStands s h rs
    → AreBytes own → s.seen + length own ≡ 16 → InRecords (h ++ own) rs []
head_ends s own h rs mode stands bytes full =
    let now = head_goes s own h rs mode stands bytes in
    subst (λ l. InRecords (h ++ own) l []) (sym now.1)
    (head_whole (h ++ own) (subst (λ n. InHead n (h ++ own)) full now.0))

-- ---- a byte of a capture that goes wrong, and others behind it

pub bad_goes : (s : DumpForm) (own h : List ℕ) (rs : List (Shown Item)) → s.mode ≡ Bad → DumpStands s h rs
    → ShowsBadLine (h ++ own) rs ⊎ InShort (h ++ own) rs
bad_goes s own h rs mode stands = go (stands_in Bad s h rs mode stands)
  where
    go : ShowsBadLine h rs ⊎ InShort h rs → ShowsBadLine (h ++ own) rs ⊎ InShort (h ++ own) rs
    go (inl bad) = inl record { place = bad.place; bad = bad_line-longer h own bad.place bad.bad; shows = bad.shows }
    go (inr short) = inr (short_longer h own rs short)
