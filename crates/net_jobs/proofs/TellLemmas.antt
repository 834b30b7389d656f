-- Texts of events, one after the other, and of many lost records.
use Rattle.std.proofs.Common.{◌≡◌, ℕ, zero, suc, ◌+◌, ◌*◌, ◌-◌, ◌<◌, ◌≤◌, ◌^◌, List, [], ◌++◌, Option, Result, length, take, drop, get_or, replicate, sym, ap, ◌∙◌, subst, append-nil, append_assoc, refl, arith}
use Rattle.std.specs.Io.KnownBytes.{Appends}
use Rattle.std.proofs.KnownBytes.{Appends-trans}
use Rattle.std.proofs.lemmas.List.{take-replicate, drop_more, drop_all}
use Rattle.std.specs.Result.{OnErr}
use Rattle.std.proofs.lemmas.Result.{on_err_weaker}
use Rattle.job_loop.specs.Telling.{Front}
use Rattle.job_loop.proofs.RunLemmas.{Front-behind, Front-longer}
use Rattle.rec_store.specs.DemoStore.{demo_record}
use Rattle.rtp_ends.specs.declared.event.Event.{Event}
use Rattle.job_ends.specs.Refusal.{told}
use Rattle.net_jobs.specs.declared.events.Telling.{Telling}
use Rattle.net_jobs.specs.Tell.{lost_records, event_text, events_text, missing_in}

-- ---- a text in parts

-- a front of a text was written, and this is left of it
pub record Written (text rest : List ℕ) (old new : Option (List ℕ)) : Type 0 where
  pub done : List ℕ
  pub parts : text ≡ done ++ rest
  pub written : Appends old new done

pub written_more : (text piece rest : List ℕ) (a b c : Option (List ℕ)) → Written text (piece ++ rest) a b
    → Appends b c piece → Written text rest a c
written_more text piece rest a b c w next = record {
  done = w.done ++ piece;
  parts = w.parts ∙ sym (append_assoc w.done piece rest);
  written = Appends-trans a b c w.done piece w.written next;
}

pub written_front : (text piece rest : List ℕ) (a b c : Option (List ℕ)) → Written text (piece ++ rest) a b
    → Front piece b c → Front text a c
written_front text piece rest a b c w front =
    subst (λ t. Front t a c) (append_assoc w.done piece rest ∙ sym w.parts)
    (Front-longer (w.done ++ piece) rest a c (Front-behind w.done piece a b c w.written front))

pub written_all : (text : List ℕ) (a b : Option (List ℕ)) → Written text [] a b → Appends a b text
written_all text a b w = subst (Appends a b) (sym (w.parts ∙ append-nil w.done)) w.written

-- ---- lost records

pub lost_records-parts : (m n : ℕ) → lost_records (m + n) ≡ lost_records m ++ lost_records n
lost_records-parts zero n = ap lost_records {x = 0 + n} (omega arith)
lost_records-parts (suc m) n =
    ap lost_records {x = suc m + n} {y = suc (m + n)} (omega arith)
    ∙ ap (λ l. demo_record 0 [] ++ l) (lost_records-parts m n)
    ∙ sym (append_assoc (demo_record 0 []) (lost_records m) (lost_records n))

pub lost_records-zeros : (n : ℕ) → lost_records n ≡ replicate (8 * n) 0
lost_records-zeros zero = refl
lost_records-zeros (suc n) =
    ap (λ l. demo_record 0 [] ++ l) (lost_records-zeros n)
    ∙ ap (λ k. replicate k 0) {x = suc (suc (suc (suc (suc (suc (suc (suc (8 * n))))))))} {y = 8 * suc n} (omega arith)

pub lost_piece : (zeros : List ℕ) (size n : ℕ) → zeros ≡ replicate size 0 → 8 * n ≤ size
    → take (8 * n) zeros ≡ lost_records n
lost_piece zeros size n are fits =
    ap (take (8 * n)) are ∙ take-replicate (8 * n) size 0 fits ∙ sym (lost_records-zeros n)

-- what is left of so many lost records, where some more are written next
pub lost_left : (count written next : ℕ) → next ≤ count - written
    → lost_records (count - written) ≡ lost_records next ++ lost_records (count - (written + next))
lost_left count written next fits =
    ap lost_records {x = count - written} (omega arith) ∙ lost_records-parts next (count - (written + next))

-- ---- events

pub events_left : (telling : Telling) (events : List Event) (i : ℕ) (d : Event) → i < length events
    → (event : Event) → event ≡ get_or events i d
    → events_text telling (drop i events) ≡ event_text telling event ++ events_text telling (drop (i + 1) events)
events_left telling events i d within event is =
    ap (events_text telling) (drop_more events i d within)
    ∙ ap (λ e. event_text telling e ++ events_text telling (drop (i + 1) events)) (sym is)

-- ---- missing numbers

-- nothing is left
pub told_all : (sum missing : ℕ) (events : List Event) (i : ℕ) → i ≡ length events → sum < 2 ^ 64
    → told (sum + missing_in (drop i events)) ≡ told (missing + missing_in events) → sum ≡ told (missing + missing_in events)
told_all sum missing events i all fits is =
    let none = ap (λ n. missing_in (drop n events)) all ∙ ap missing_in (drop_all (length events) events (omega arith)) in
    let same : told (sum + missing_in (drop i events)) ≡ sum = omega (arith, none) in
    sym same ∙ is

-- ---- two texts

pub front_then : (first second : List ℕ) (a b c : Option (List ℕ)) {T E : Type 0} (r : Result T E)
    → Appends a b first → OnErr r (Front second b c) → OnErr r (Front (first ++ second) a c)
front_then first second a b c r all front =
    on_err_weaker r (λ f. Front-behind first second a b c all f) front

-- a front of one piece, as a sink tells it
pub front_if : {T E : Type 0} (r : Result T E) (piece text : List ℕ) (a b : Option (List ℕ)) → piece ≡ text
    → OnErr r ((n : ℕ) × (n ≤ length piece) × Appends a b (take n piece)) → OnErr r (Front text a b)
front_if r piece text a b is front =
    on_err_weaker r (λ f. subst (λ t. Front t a b) is (record { count = f.0; written = f.2 })) front
