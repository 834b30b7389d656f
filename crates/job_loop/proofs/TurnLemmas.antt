-- What a run says that ends in a turn, from how far it had come.
use Rattle.std.proofs.Common.{◌≡◌, ℕ, ◌<◌, List, [], ◌∷◌, ◌++◌, Option, length, sym, ap, ◌∙◌, subst, arith}
use Rattle.std.specs.Io.KnownBytes.{Keeps, IsAtEnd}
use Rattle.std.proofs.KnownBytes.{Appends-kept, Appends-trans, Consumes-kept}
use Rattle.opus_io.specs.Reader.{ReaderState, coming}
use Rattle.opus_io.specs.declared.sink.SinkStop.{SinkStop}
use Rattle.job_loop.specs.declared.input_end.InputEnd.{InputEnd}
use Rattle.job_loop.specs.declared.input_end.InputEnd.TheVariants.{Past}
use Rattle.job_loop.specs.declared.ending.Ending.{Ending}
use Rattle.job_loop.specs.Meaning.{Meaning, goes, adds, end_of}
use Rattle.job_loop.specs.Telling.{Goes, Halts, Closes, ending_of}
use Rattle.job_loop.specs.Turns.{Moved, Empty, Full, Within}
use Rattle.job_loop.specs.Ran.{TakenAll, RanUnread, Ran}
use Rattle.job_loop.proofs.EndLemmas.{Clear, closed_at_end, closed_past, halted_at, halted_at_end, stopped_at}
use Rattle.job_loop.proofs.Reached.{Reached, moved_consumed, moved_size, within_moved, taken_at, taken_all, taken_unread, taken_past}
use Rattle.job_loop.proofs.RunLemmas.{runs-on, meant, meant_end}

-- The reader stands at k, and the job's meaning m' is still m. After the turn the sink holds `after`, and keeps
-- `held` back.
module _ {R K C F : Type 0} {m : Meaning R K C F} {Stands : List ℕ → List R → Type 0} {Job : K → Type 0}
    {left before now : Option (List ℕ)} (Settles : List ℕ → List R → Type 0)
    (Ends : List ℕ → List R → Option C → Type 0) (place : R → ℕ) (limit : ℕ) (source : Option (List ℕ))
    (k new : ReaderState) (within : Within k) (limit_is : k.limit ≡ limit)
    (p : Reached m Stands Job left (coming k source) before now k.passed)
    (m' : Meaning R K C F) (meaning : m' ≡ m) (after : Option (List ℕ)) (held : List ℕ) where
  -- what was written can't be handed on before a read
  pub turn_unwritten : Settles p.front p.records → Keeps now after → (stop : SinkStop) → (e : Ending F)
      → e ≡ ending_of stop → Ran m Settles Ends place limit left source before after held e
  turn_unwritten settled keeps stop e is =
      subst (λ e. Ran m Settles Ends place limit left source before after held e) (sym is)
      (stopped_at m Settles Ends place limit left source before now after held p.records p.text p.kept p.run p.written
      p.front k.bytes (taken_at limit k left source p.front p.consumed p.size within limit_is) settled keeps stop)

  -- the read that follows fails
  pub turn_unread : Empty k new → (last : ReaderState) (source' : Option (List ℕ))
      → Keeps (coming new source) (coming last source') → last.bytes ≡ [] → Settles p.front p.records
      → Keeps now after → held ≡ [] → RanUnread m Settles Ends place limit left source' before after held
  turn_unread empty last source' comes none settled keeps nothing = record {
    front = p.front;
    records = p.records;
    text = p.text;
    kept = p.kept;
    consumed = taken_unread last left source' p.front
        (Consumes-kept left (coming k source) (coming last source') p.front p.consumed
        (subst (λ (k : ReaderState). Keeps (coming k source) (coming last source')) empty.same comes))
        none;
    in_limit = omega (arith, p.size, within.in_limit, limit_is);
    settled = settled;
    run = p.run;
    written = Appends-kept before now after p.text p.written keeps;
    handed_on = nothing;
  }

  -- the input goes on past the limit
  pub turn_past : Full k new → Settles p.front p.records → (e : Ending F)
      → Closes {C = C} e Past (m'.finish p.kept Past) now after held
      → Ran m Settles Ends place limit left source before after held e
  turn_past full settled e closes =
      closed_past m Settles Ends place limit left source before now after held p.records p.text p.kept p.run p.written
      p.front k.bytes
      (taken_past limit k left source p.front p.consumed p.size within limit_is
      (subst (λ (k : ReaderState). k.passed ≡ k.limit) full.same full.full)
      (subst (λ (k : ReaderState). 0 < length k.bytes) full.same full.more))
      settled e
      (subst (λ (m : Meaning R K C F). Closes {C = C} e Past (m.finish p.kept Past) now after held) meaning closes)

  -- a record ends the run, decided by the byte passed last
  module _ (r r' : R) (same : r ≡ r') (e : Ending F) (halts : Halts e (m'.step p.kept r) now after held) where
    halted : Halts e (m.step p.kept r') now after held
    halted = meant m' m (λ s. Halts e s now after held) p.kept r r' meaning same halts

    pub turn_halted : Moved k new → place r' ≡ new.passed → Settles (p.front ++ new.last) (p.records ++ r' ∷ [])
        → Ran m Settles Ends place limit left source before after held e
    turn_halted moved placed settled =
        let consumed = moved_consumed m Stands Stands Job Job left before now now k new source p moved in
        let size = moved_size m Stands Stands Job Job left before now now k new source p moved in
        halted_at m Settles Ends place limit left source before now after held p.records p.text p.kept p.run p.written
        (p.front ++ new.last) new.bytes r'
        (taken_at limit new left source (p.front ++ new.last) consumed size (within_moved k new within moved)
        (moved.limit ∙ limit_is))
        (placed ∙ sym size) settled e halted

  -- the input is over
  module _ (empty : Empty k new) (at_end : IsAtEnd source) (settled : Settles p.front p.records) (cut : Option C) where
    clear : Clear m Settles p.front
    clear = record { decided = p.records; before = p.text; kept = p.kept; settled = settled; went = p.run }

    all_taken : TakenAll limit left source p.front
    all_taken = taken_all limit k left source p.front p.consumed p.size within limit_is
        (subst (λ (k : ReaderState). k.bytes ≡ []) empty.same empty.none) at_end

    pub turn_ended : Ends p.front p.records cut → (end : InputEnd C) → end ≡ end_of cut → (e : Ending F)
        → Closes e end (m'.finish p.kept end) now after held
        → Ran m Settles Ends place limit left source before after held e
    turn_ended ends end is e closes =
        closed_at_end m Settles Ends place limit left source before now after held p.records p.text p.kept p.run
        p.written p.front cut all_taken ends clear e
        (meant_end m' m (λ end s. Closes e end s now after held) p.kept end (end_of cut) meaning is closes)

    -- and decides one more record, which ends the run
    pub turn_halted_last : (r r' : R) → r ≡ r' → (e : Ending F) → Halts e (m'.step p.kept r) now after held
        → Ends p.front (p.records ++ r' ∷ []) cut → Ran m Settles Ends place limit left source before after held e
    turn_halted_last r r' same e halts ends =
        halted_at_end m Settles Ends place limit left source before now after held p.records p.text p.kept p.run
        p.written p.front cut r' all_taken settled ends e (halted r r' same e halts)

    -- or which the job takes, and then the end
    pub turn_ended_last : (mid : Option (List ℕ)) (Job' : K → Type 0) (r r' : R) → r ≡ r'
        → (went : Goes (m'.step p.kept r) Job' now mid) → Ends p.front (p.records ++ r' ∷ []) cut
        → (m'' : Meaning R K C F) → m'' ≡ m' → (end : InputEnd C) → end ≡ end_of cut → (e : Ending F)
        → Closes e end (m''.finish went.kept end) mid after held
        → Ran m Settles Ends place limit left source before after held e
    turn_ended_last mid Job' r r' same went ends m'' meaning' end is e closes =
        closed_at_end m Settles Ends place limit left source before mid after held (p.records ++ r' ∷ [])
        (p.text ++ went.text) went.kept
        (runs-on m p.records r' p.text p.kept p.run ∙ ap (adds p.text)
        (meant m' m (λ s. s ≡ goes went.text went.kept) p.kept r r' meaning same went.step_is))
        (Appends-trans before now mid p.text went.text p.written went.written) p.front cut all_taken ends clear e
        (meant_end m'' m (λ end s. Closes e end s mid after held) went.kept end (end_of cut) (meaning' ∙ meaning) is closes)
