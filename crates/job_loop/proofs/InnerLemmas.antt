-- What a run over a gathered sink says of the sink inside.
use Rattle.std.proofs.Common.{◌≡◌, ℕ, ◌≤◌, List, [], ◌++◌, Option, None, Some, take, length, inl, inr, refl, sym, ap, ◌∙◌, subst, append-nil, append_assoc, length-append, length-take, arith}
use Rattle.std.proofs.lemmas.List.{take-take, append_cancel_left}
use Rattle.std.proofs.Math.Seq.{take-append_seam}
use Rattle.std.specs.Io.KnownBytes.{Appends, append_known}
use Rattle.std.proofs.KnownBytes.{Appends-nil, Consumes-nil}
use Rattle.opus_io.specs.Sink.{Grew}
use Rattle.job_loop.specs.declared.ending.Ending.{Ending}
use Rattle.job_loop.specs.declared.ending.Ending.TheVariants as endings
use Rattle.job_loop.specs.Meaning.{Meaning}
use Rattle.job_loop.specs.Telling.{Front}
use Rattle.job_loop.specs.Ran.{Ran, RanRefused, RanStopped}

append_nothing : (a : Option (List ℕ)) (held : List ℕ) → held ≡ [] → append_known a held ≡ a
append_nothing None held none = refl
append_nothing (Some xs) held none = ap Some (ap (λ l. xs ++ l) none ∙ append-nil xs)

pub appends_inner : (a b : Option (List ℕ)) (held held' text : List ℕ) → held ≡ [] → held' ≡ []
    → Appends (append_known a held) (append_known b held') text → Appends a b text
appends_inner a b held held' text none none' all =
    subst (λ a. Appends a b text) (append_nothing a held none)
    (subst (λ b. Appends (append_known a held) b text) (append_nothing b held' none') all)

-- what grew by a front of a text, of which an end is held back, grew by a shorter front
handed_front : (text xs ys held more : List ℕ) (n : ℕ) → ys ++ held ≡ xs ++ take n text → ys ≡ xs ++ more
    → ys ≡ xs ++ take (length more) text
handed_front text xs ys held more n all grew =
    let rest : more ++ held ≡ take n text = append_cancel_left xs (more ++ held) (take n text)
    (sym (append_assoc xs more held) ∙ ap (λ l. l ++ held) (sym grew) ∙ all) in
    let short : length more ≤ n =
    omega (arith, length-append more held, ap (λ (l : List ℕ). length l) rest, length-take n text) in
    grew ∙ ap (λ l. xs ++ l) (sym (take-append_seam more held) ∙ ap (take (length more)) rest
    ∙ take-take (length more) n text short)

front_grown : (text : List ℕ) (a b : Option (List ℕ)) (held : List ℕ) → Grew a b → Front text a (append_known b held)
    → Front text a b
front_grown text None b held grew front = record { count = 0; written = tt }
front_grown text (Some xs) None held grew front = absurd grew.1
front_grown text (Some xs) (Some ys) held grew front = record {
  count = length grew.0;
  written = handed_front text xs ys held grew.0 front.count front.written grew.1;
}

pub front_inner : (text : List ℕ) (a b : Option (List ℕ)) (held held' : List ℕ) → held ≡ [] → Grew a b
    → Front text (append_known a held) (append_known b held') → Front text a b
front_inner text a b held held' none grew front =
    front_grown text a b held' grew
    (subst (λ a. Front text a (append_known b held')) (append_nothing a held none) front)

module _ {R K C F : Type 0} (m : Meaning R K C F) (Settles : List ℕ → List R → Type 0)
    (Ends : List ℕ → List R → Option C → Type 0) (place : R → ℕ) (limit : ℕ)
    (left left' a b : Option (List ℕ)) (held held' : List ℕ) (none : held ≡ []) (grew : Grew a b) where
  refused_inner : (f : F) → RanRefused m Settles Ends place limit left left' (append_known a held) (append_known b held') held' f
      → RanRefused m Settles Ends place limit left left' a b [] f
  refused_inner f (inl r) = inl (record {
    front = r.front;
    behind = r.behind;
    records = r.records;
    last = r.last;
    before = r.before;
    kept = r.kept;
    text = r.text;
    taken = r.taken;
    placed = r.placed;
    settled = r.settled;
    went = r.went;
    run = r.run;
    written = appends_inner a b held held' r.text none r.handed_on r.written;
    handed_on = refl;
  })
  refused_inner f (inr (inl r)) = inr (inl (record {
    input = r.input;
    decided = r.decided;
    before = r.before;
    kept = r.kept;
    records = r.records;
    cut = r.cut;
    text = r.text;
    taken = r.taken;
    settled = r.settled;
    went = r.went;
    ends = r.ends;
    closed = r.closed;
    written = appends_inner a b held held' r.text none r.handed_on r.written;
    handed_on = refl;
  }))
  refused_inner f (inr (inr r)) = inr (inr (record {
    front = r.front;
    behind = r.behind;
    records = r.records;
    before = r.before;
    kept = r.kept;
    text = r.text;
    taken = r.taken;
    settled = r.settled;
    went = r.went;
    closed = r.closed;
    written = appends_inner a b held held' r.text none r.handed_on r.written;
    handed_on = refl;
  }))

  stopped_inner : RanStopped m Settles Ends place limit left left' (append_known a held) (append_known b held') held'
      → RanStopped m Settles Ends place limit left left' a b []
  stopped_inner (inl r) = inl (record {
    front = r.front;
    behind = r.behind;
    records = r.records;
    taken = r.taken;
    settled = r.settled;
    written = front_inner _ a b held held' none grew r.written;
  })
  stopped_inner (inr (inl r)) = inr (inl (record {
    input = r.input;
    records = r.records;
    cut = r.cut;
    taken = r.taken;
    ends = r.ends;
    written = front_inner _ a b held held' none grew r.written;
  }))
  stopped_inner (inr (inr r)) = inr (inr (record {
    front = r.front;
    behind = r.behind;
    records = r.records;
    taken = r.taken;
    settled = r.settled;
    written = front_inner _ a b held held' none grew r.written;
  }))

  -- nothing was held back at the start, and the sink inside only grew
  pub ran_inner : (e : Ending F)
      → Ran m Settles Ends place limit left left' (append_known a held) (append_known b held') held' e
      → Ran m Settles Ends place limit left left' a b [] e
  ran_inner endings.Ok r = record {
    input = r.input;
    records = r.records;
    cut = r.cut;
    text = r.text;
    taken = r.taken;
    ends = r.ends;
    closed = r.closed;
    written = appends_inner a b held held' r.text none r.handed_on r.written;
    handed_on = refl;
  }
  ran_inner (endings.Refused f) r = refused_inner f r
  ran_inner endings.ReadFault r = record {
    front = r.front;
    records = r.records;
    text = r.text;
    kept = r.kept;
    consumed = r.consumed;
    in_limit = r.in_limit;
    settled = r.settled;
    run = r.run;
    written = appends_inner a b held held' r.text none r.handed_on r.written;
    handed_on = refl;
  }
  ran_inner endings.WriteFault r = stopped_inner r
  ran_inner endings.InputLimit r = record {
    front = r.front;
    behind = r.behind;
    records = r.records;
    text = r.text;
    taken = r.taken;
    settled = r.settled;
    closed = r.closed;
    written = appends_inner a b held held' r.text none r.handed_on r.written;
    handed_on = refl;
  }
  ran_inner endings.NoMemory r = stopped_inner r

-- memory ran out before anything was read or written
pub unstarted : {R K C F : Type 0} → (m : Meaning R K C F) (Settles : List ℕ → List R → Type 0)
    (Ends : List ℕ → List R → Option C → Type 0) (place : R → ℕ) (limit : ℕ) (left a : Option (List ℕ))
    → Settles [] [] → RanStopped m Settles Ends place limit left left a a []
unstarted m Settles Ends place limit left a settled = inl (record {
  front = [];
  behind = [];
  records = [];
  taken = record { consumed = Consumes-nil left; near = omega arith; in_limit = omega arith; one_past = omega arith };
  settled = settled;
  written = record { count = 0; written = Appends-nil a };
})
