-- How bytes of a store are taken one after the other.
use Rattle.std.proofs.Common.{◌≡◌, ◌≢◌, ◌⊎◌, inl, inr, ℕ, ◌+◌, ◌-◌, ◌<◌, ◌≤◌, List, [], ◌++◌, length, length-append, length-take, length-drop, take, drop, take-append-drop, sym, ap, ◌∙◌, subst, Some, None, arith}
use Rattle.std.proofs.lemmas.List.{length-take-le, take-take}
use Rattle.std.specs.declared.option.Option.{Option}
use Rattle.std.specs.Io.KnownBytes.{Consumes, IsAtEnd, prepend_known}
use Rattle.std.proofs.KnownBytes.{Consumes-kept, Consumes-trans, prepend_known-read}
use Rattle.opus_io.specs.Reader.{ReaderState, coming, Stays}
use Rattle.rec_store.specs.DemoReader.{Passed, NothingComes, HeadCut}
use Rattle.rec_store.specs.Taking.{Took}
use Rattle.rec_store.specs.declared.stop.StoreFault.TheVariants.{StoreCut}

-- these bytes were passed: none yet, or the last read gave one of them
pub record Begun (old new : ReaderState) (left left' : Option (List ℕ)) (bytes : List ℕ) : Type 0 where
  pub consumed : Consumes (coming old left) (coming new left') bytes
  pub passed : new.passed ≡ old.passed + length bytes
  pub limit : new.limit ≡ old.limit
  pub turned : ((length new.bytes < 4096) × (new.passed ≤ new.limit)) ⊎ (new ≡ old)

-- a look ahead leaves what was passed
pub Begun-looked : (old mid new : ReaderState) (left left' left'' : Option (List ℕ)) (bytes : List ℕ)
    → Begun old mid left left' bytes → Stays mid new left' left'' → Passed old new left left'' bytes
Begun-looked old mid new left left' left'' bytes begun stays = record {
  consumed = Consumes-kept (coming old left) (coming mid left') (coming new left'') bytes begun.consumed stays.coming;
  passed = stays.passed ∙ begun.passed;
  limit = stays.limit ∙ begun.limit;
  in_limit = stays.in_limit;
}

-- the first bytes of those that are shown come next
first_shown : (n k : ℕ) (xs shown : List ℕ) → shown ≡ take k xs → n ≤ length shown
    → xs ≡ take n shown ++ drop n xs
first_shown n k xs shown is some =
    let within : n ≤ k = omega (arith, ap length is, length-take k xs) in
    sym (take-append-drop n xs) ∙ ap (λ l. l ++ drop n xs) (sym (ap (take n) is ∙ take-take n k xs within))

-- some more bytes are passed
pub Begun-turn : (old mid look new : ReaderState) (left left' left'' : Option (List ℕ)) (bytes shown : List ℕ) (n : ℕ)
    → Begun old mid left left' bytes → Stays mid look left' left''
    → shown ≡ take (look.limit - look.passed) look.bytes → 1 ≤ n → n ≤ length shown
    → new.bytes ≡ drop n look.bytes → new.passed ≡ look.passed + n → new.limit ≡ look.limit → new.passed ≤ new.limit
    → Begun old new left left'' (bytes ++ take n shown)
Begun-turn old mid look new left left' left'' bytes shown n begun stays is some within rest passed limit in_limit =
    let front : look.bytes ≡ take n shown ++ new.bytes =
    first_shown n (look.limit - look.passed) look.bytes shown is within ∙ ap (λ l. take n shown ++ l) (sym rest) in
    let size : length (bytes ++ take n shown) ≡ length bytes + n = length-append bytes (take n shown) ∙ ap (λ k. length bytes + k) (length-take-le n shown within) in
    let next = (prepend_known-read (coming mid left') left'' look.bytes new.bytes (take n shown) ⊥ stays.coming front (λ no. absurd no)).0 in
    record {
      consumed = Consumes-trans (coming old left) (coming mid left') (coming new left'') bytes (take n shown) begun.consumed next;
      passed = omega (arith, begun.passed, stays.passed, size);
      limit = limit ∙ stays.limit ∙ begun.limit;
      turned = inl (omega (arith, ap length rest, length-drop n look.bytes, ap length is, length-take (look.limit - look.passed) look.bytes, stays.in_buffer), in_limit);
    }

-- bytes that the reader keeps are passed without a read
pub kept-turn : (most : ℕ) (old mid look new : ReaderState) (left' left'' : Option (List ℕ)) (bytes : List ℕ) (n : ℕ)
    → most ≤ length old.bytes → length bytes < most → length mid.bytes + length bytes ≡ length old.bytes
    → Stays mid look left' left'' → n ≤ length look.bytes → new.bytes ≡ drop n look.bytes
    → (mid.bytes ≢ []) × (length new.bytes + (length bytes + n) ≡ length old.bytes)
kept-turn most old mid look new left' left'' bytes n enough short size stays within rest =
    let some : mid.bytes ≢ [] = λ none. omega (arith, ap length none) in
    let same : length look.bytes ≡ length mid.bytes = ap (λ k. length k.bytes) (stays.kept some) in
    (some, omega (arith, ap length rest, length-drop n look.bytes))

-- the input ended inside the head of a demo record
pub HeadCut-front : (old new : ReaderState) (left left' : Option (List ℕ)) (head : List ℕ) (place : ℕ)
    → Took 8 old new left left' head → 0 < length head → length head < 8 → place ≡ new.passed
    → HeadCut old new left left' (StoreCut place)
HeadCut-front old new left left' head place front some short is = record {
  part = record { bytes = head; passed = front.passed; short = short };
  some = some;
  end = front.end short;
  place = ap StoreCut is;
}

-- ---- bytes taken one piece behind the other

pub Passed-trans : (old mid new : ReaderState) (left left' left'' : Option (List ℕ)) (xs ys : List ℕ)
    → Passed old mid left left' xs → Passed mid new left' left'' ys → Passed old new left left'' (xs ++ ys)
Passed-trans old mid new left left' left'' xs ys p q = record {
  consumed = Consumes-trans (coming old left) (coming mid left') (coming new left'') xs ys p.consumed q.consumed;
  passed = omega (arith, p.passed, q.passed, length-append xs ys);
  limit = q.limit ∙ p.limit;
  in_limit = q.in_limit;
}

-- bytes that were passed, one at least
pub passed_some : (old new : ReaderState) (left left' : Option (List ℕ)) (bytes : List ℕ) → 1 ≤ length bytes
    → Begun old new left left' bytes → Passed old new left left' bytes × (length new.bytes < 4096)
passed_some old new left left' bytes some begun = go begun.turned
  where
    go : ((length new.bytes < 4096) × (new.passed ≤ new.limit)) ⊎ (new ≡ old)
        → Passed old new left left' bytes × (length new.bytes < 4096)
    go (inl turned) = (
      record { consumed = begun.consumed; passed = begun.passed; limit = begun.limit; in_limit = turned.1 },
      turned.0,
    )
    go (inr same) = absurd (omega (arith, ap (λ (k : ReaderState). k.passed) same, begun.passed, some))

-- the last read gave one of the bytes taken
pub Took-last : (most : ℕ) (old new : ReaderState) (left left' : Option (List ℕ)) (bytes : List ℕ)
    → Took most old new left left' bytes → 1 ≤ length bytes → length new.bytes < 4096
Took-last most old new left left' bytes took some = go took.last_read
  where
    go : (length new.bytes < 4096) ⊎ (new ≡ old) → length new.bytes < 4096
    go (inl last) = last
    go (inr same) = absurd (omega (arith, ap (λ (k : ReaderState). k.passed) same, took.passed.passed, some))

-- a look that shows nothing
pub nothing_shown : (new : ReaderState) (left : Option (List ℕ)) → (new.bytes ≡ []) × IsAtEnd left
    → NothingComes new left
nothing_shown new left said =
    record { kept = said.0; end = subst (λ l. IsAtEnd (prepend_known l left)) (sym said.0) (at_end left said.1) }
  where
    at_end : (left : Option (List ℕ)) → IsAtEnd left → IsAtEnd (prepend_known [] left)
    at_end None end = end
    at_end (Some xs) end = end
