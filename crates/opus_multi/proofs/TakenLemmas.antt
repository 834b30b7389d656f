-- What a feed of multistream packets answers of a piece, and of the end.
use Rattle.std.proofs.Common.{◌≡◌, ℕ, List, ◌++◌, length, take, drop, Some, Result, Ok, Err, ap, sym, subst, ◌∙◌, arith}
use Rattle.std.specs.Bool.{⊤}
use Rattle.std.proofs.lemmas.List.{append_assoc, take-append-drop}
use Rattle.opus_packet.specs.PacketPrefix.{AreBytes}
use Rattle.opus_multi.specs.declared.fault.MultiFault.{MultiFault}
use Rattle.opus_multi.specs.declared.fault.MultiFault.TheVariants.{Stream, Unequal, NoMemory}
use Rattle.opus_multi.specs.declared.multi_place.MultiPlace.TheVariants.{Reading, Failed}
use Rattle.opus_multi.specs.declared.multi_feed.MultiFeed.{MultiFeed}
use Rattle.opus_multi.specs.MultiStands.{Reads, HasRefused, MultiStandsAt, MultiStands, MultiEndedAt, MultiEnded}
use Rattle.opus_multi.specs.MultiAnswers.{UnlessFull, MultiAnswers, MultiFinishes, MultiTells, MultiTellsEnd}
use Rattle.opus_multi.specs.MultiTurns.{SameChoices, SoFar, TakeReads, TurnReads, Turned, EndReads}
use Rattle.opus_multi.proofs.StandsLemmas.{reads_prefix, refused_on, refused_broken, refused_stream}
use Rattle.opus_multi.proofs.EndLemmas.{some_multistream}

-- the loop over the streams of a piece

pub so_far_next : (old now new : MultiFeed) (piece rest : List ℕ) (used : ℕ) → SoFar old now piece rest
    → ((b : List ℕ) → Reads now b → Reads new (b ++ take used rest)) → Turned now (length rest) (Ok (Some used)) new
    → SameChoices now new → SoFar old new piece (drop used rest)
so_far_next old now new piece rest used s reads turned same = record {
  front = s.front ++ take used rest;
  piece_is = s.piece_is ∙ ap (λ l. s.front ++ l) (sym (take-append-drop used rest)) ∙ sym (append_assoc s.front (take used rest) (drop used rest));
  reading = turned.0;
  more = let more = s.more in omega (arith, more, turned.2);
  same = record { streams = same.streams ∙ s.same.streams; padding = same.padding ∙ s.same.padding; room = same.room ∙ s.same.room };
  reads = λ bytes r. rw (sym (append_assoc bytes s.front (take used rest))) (reads (bytes ++ s.front) (s.reads bytes r));
}

all_of : (old now : MultiFeed) (piece rest bytes : List ℕ) → (s : SoFar old now piece rest)
    → (bytes ++ s.front) ++ rest ≡ bytes ++ piece
all_of old now piece rest bytes s = append_assoc bytes s.front rest ∙ ap (λ l. bytes ++ l) (sym s.piece_is)

pub so_far_none : (old now new : MultiFeed) (piece rest bytes : List ℕ) → SoFar old now piece rest
    → ((b : List ℕ) → Reads now b → Reads new (b ++ rest)) → Reads old bytes → Reads new (bytes ++ piece)
so_far_none old now new piece rest bytes s reads r =
    subst (Reads new) (all_of old now piece rest bytes s) (reads (bytes ++ s.front) (s.reads bytes r))

pub so_far_err : (old now new : MultiFeed) (piece rest bytes : List ℕ) (f : MultiFault) → SoFar old now piece rest
    → ((b : List ℕ) → Reads now b → TurnReads now b rest (Err f) new) → Reads old bytes
    → TakeReads old (bytes ++ piece) (Err f) new
so_far_err old now new piece rest bytes (Stream k f) s reads r =
    subst (HasRefused new k f) (all_of old now piece rest bytes s) (reads (bytes ++ s.front) (s.reads bytes r))
so_far_err old now new piece rest bytes (Unequal k) s reads r = reads (bytes ++ s.front) (s.reads bytes r)
so_far_err old now new piece rest bytes NoMemory s reads r =
    let h = reads (bytes ++ s.front) (s.reads bytes r) in
    let more = s.more in
    record {
      first = h.first;
      rest = h.rest;
      more = let after = h.more in omega (arith, more, after);
      within = rw (sym s.same.streams) h.within;
      stand = rw (sym (all_of old now piece rest bytes s)) h.stand;
    }

-- what a piece gives

stands_as : (m : MultiFeed) (bytes : List ℕ) → AreBytes bytes → m.place ≡ Reading → Reads m bytes → MultiStands m bytes
stands_as m bytes are is r = record { are_bytes = are; at = subst (λ p. MultiStandsAt p m bytes) (sym is) r }

pub taken_stands : (old new : MultiFeed) (bytes : List ℕ) (result : Result ⊤ MultiFault) → AreBytes bytes
    → old.place ≡ Reading → MultiTells result old new → TakeReads old bytes result new
    → UnlessFull result (MultiStands new bytes)
taken_stands old new bytes (Ok done) are reading tells reads = stands_as new bytes are (tells ∙ reading) reads
taken_stands old new bytes (Err (Stream k f)) are reading tells reads =
    record { are_bytes = are; at = subst (λ p. MultiStandsAt p new bytes) (sym tells) reads }
taken_stands old new bytes (Err (Unequal k)) are reading tells reads = absurd reads
taken_stands old new bytes (Err NoMemory) are reading tells reads = tt

pub taken_answer : (old new : MultiFeed) (bytes : List ℕ) (result : Result ⊤ MultiFault) → AreBytes bytes
    → SameChoices old new → TakeReads old bytes result new → MultiAnswers old.streams (length old.parts.items) bytes result
taken_answer old new bytes (Ok done) are same reads = rw (sym same.streams) (reads_prefix new bytes reads)
taken_answer old new bytes (Err (Stream k f)) are same reads = rw (sym same.streams) (refused_stream new k f bytes are reads)
taken_answer old new bytes (Err (Unequal k)) are same reads = absurd reads
taken_answer old new bytes (Err NoMemory) are same reads = reads

-- once a stream was refused

pub failed_stands : (m : MultiFeed) (f : MultiFault) (bytes piece : List ℕ) → m.place ≡ Failed f → AreBytes (bytes ++ piece)
    → MultiStandsAt (Failed f) m bytes → UnlessFull (Err f) (MultiStands m (bytes ++ piece))
failed_stands m (Stream k f) bytes piece is are r =
    record { are_bytes = are; at = subst (λ p. MultiStandsAt p m (bytes ++ piece)) (sym is) (refused_on m k f bytes piece r) }
failed_stands m (Unequal k) bytes piece is are r = absurd r
failed_stands m NoMemory bytes piece is are r = tt

pub failed_answer : (m : MultiFeed) (f : MultiFault) (before : ℕ) (bytes piece : List ℕ) → AreBytes (bytes ++ piece)
    → MultiStandsAt (Failed f) m bytes → MultiAnswers m.streams before (bytes ++ piece) (Err f)
failed_answer m (Stream k f) before bytes piece are r = refused_stream m k f (bytes ++ piece) are (refused_on m k f bytes piece r)
failed_answer m (Unequal k) before bytes piece are r = r
failed_answer m NoMemory before bytes piece are r = absurd r

pub failed_ends : (m : MultiFeed) (f : MultiFault) (bytes : List ℕ) → m.place ≡ Failed f → AreBytes bytes
    → MultiStandsAt (Failed f) m bytes → UnlessFull (Err f) (MultiEnded m bytes)
failed_ends m (Stream k f) bytes is are r =
    record { are_bytes = are; at = subst (λ p. MultiEndedAt p m bytes) (sym is) (refused_broken m k f bytes are r) }
failed_ends m (Unequal k) bytes is are r = absurd r
failed_ends m NoMemory bytes is are r = tt

pub failed_finishes : (m : MultiFeed) (f : MultiFault) (bytes : List ℕ) → AreBytes bytes → MultiStandsAt (Failed f) m bytes
    → MultiFinishes m.streams bytes (Err f)
failed_finishes m (Stream k f) bytes are r = (refused_broken m k f bytes are r).broken
failed_finishes m (Unequal k) bytes are r = absurd r
failed_finishes m NoMemory bytes are r = absurd r

-- what the end gives

pub end_ended : (new : MultiFeed) (bytes : List ℕ) (result : Result ⊤ MultiFault) → AreBytes bytes
    → MultiTellsEnd result new → EndReads bytes result new → UnlessFull result (MultiEnded new bytes)
end_ended new bytes (Ok done) are tells reads = record { are_bytes = are; at = subst (λ p. MultiEndedAt p new bytes) (sym tells) reads }
end_ended new bytes (Err (Stream k f)) are tells reads = record { are_bytes = are; at = subst (λ p. MultiEndedAt p new bytes) (sym tells) reads }
end_ended new bytes (Err (Unequal k)) are tells reads = record { are_bytes = are; at = subst (λ p. MultiEndedAt p new bytes) (sym tells) reads }
end_ended new bytes (Err NoMemory) are tells reads = tt

pub end_finishes : (old new : MultiFeed) (bytes : List ℕ) (result : Result ⊤ MultiFault) → SameChoices old new
    → EndReads bytes result new → MultiFinishes old.streams bytes result
end_finishes old new bytes (Ok done) same reads =
    rw (sym same.streams) (some_multistream new.streams reads.streams bytes reads.counted reads.are reads.duration)
end_finishes old new bytes (Err (Stream k f)) same reads = rw (sym same.streams) reads.broken
end_finishes old new bytes (Err (Unequal k)) same reads = rw (sym same.streams) reads.unequal
end_finishes old new bytes (Err NoMemory) same reads = rw (sym same.streams) reads
