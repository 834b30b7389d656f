-- Forms written one after another.
use Rattle.std.proofs.Common.{◌≡◌, ℕ, zero, suc, ◌+◌, ◌<◌, ◌≤◌, List, [], ◌∷◌, ◌++◌, length, take, map, flat_map, get_or, Option, Some, None, IfNone, Result, Ok, Err, OnErr, refl, ap, sym, ◌∙◌, arith, length-append}
use Rattle.std.specs.Result.{IsOk}
use Rattle.std.proofs.lemmas.List.{append_assoc}
use Rattle.opus_packet.specs.Held.{HeldRead}
use Rattle.opus_packet.specs.Canonical.{canonical, canonical_self_delimited}
use Rattle.opus_multi.specs.declared.form.Form.TheVariants.{Canonical, CanonicalSelf}
use Rattle.opus_multi.specs.WrittenForms.{spelled_as}
use Rattle.opus_multi.specs.Forms.{forms, canonical_multistream}

pub forms_push : {A : Type 0} (self whole : A → List ℕ) (xs : List A) (x : A)
    → forms self whole (xs ++ x ∷ []) ≡ flat_map self xs ++ whole x
forms_push self whole [] x = refl
forms_push self whole (y ∷ []) x = rw (forms_push self whole [] x) (sym (append_assoc (self y) [] (whole x)))
forms_push self whole (y ∷ z ∷ ys) x =
    rw (forms_push self whole (z ∷ ys) x) (sym (append_assoc (self y) (flat_map self (z ∷ ys)) (whole x)))

pub forms_map : {A B : Type 0} (self whole : B → List ℕ) (h : A → B) (xs : List A)
    → forms self whole (map h xs) ≡ forms (λ a. self (h a)) (λ a. whole (h a)) xs
forms_map self whole h [] = refl
forms_map self whole h (x ∷ []) = refl
forms_map self whole h (x ∷ y ∷ ys) = ap (λ l. self (h x) ++ l) (forms_map self whole h (y ∷ ys))

pub forms_canonical : {A : Type 0} (held : A → HeldRead) (xs : List A)
    → forms (spelled_as CanonicalSelf) (spelled_as Canonical) (map held xs) ≡ canonical_multistream (map (λ a. (held a).value) xs)
forms_canonical held xs =
    forms_map (spelled_as CanonicalSelf) (spelled_as Canonical) held xs
    ∙ sym (forms_map canonical_self_delimited canonical (λ a. (held a).value) xs)

-- what the first of them take, and the next one, is no more than all take
room_at : {A : Type 0} (f : A → List ℕ) (xs : List A) (i : ℕ) (x : A) → i < length xs → x ≡ get_or xs i x
    → length (flat_map f (take i xs)) + length (f x) ≤ length (flat_map f xs)
room_at f [] i x within is = absurd (omega (arith, within))
room_at f (y ∷ ys) zero x within is = omega (arith, ap (λ z. length (f z)) is, length-append (f y) (flat_map f ys))
room_at f (y ∷ ys) (suc i) x within is =
    omega (arith, room_at f ys i x (omega (arith, within)) is, length-append (f y) (flat_map f ys), length-append (f y) (flat_map f (take i ys)))

ok_unless : {T E P : Type 0} (r : Result T E) → OnErr r P → (P → ⊥) → IsOk r
ok_unless (Ok x) full never = refl
ok_unless (Err e) full never = absurd (never full)

pub never_full : {A T E : Type 0} (f : A → List ℕ) (xs : List A) (i : ℕ) (x : A) (start items : List ℕ) (n m before cap : ℕ)
    (r : Result T E) → n ≡ length start → m ≡ length items → i < length xs → x ≡ get_or xs i x → items ≡ start ++ flat_map f (take i xs)
    → n + length (flat_map f xs) ≤ before → before ≤ cap → OnErr r (cap < m + length (f x)) → IsOk r
never_full f xs i x start items n m before cap r first now within is written room more full =
    ok_unless r full (λ past. omega (arith, past, room, first, now, more, ap length written, length-append start (flat_map f (take i xs)), room_at f xs i x within is))

pub written : {A B : Type 0} (self whole : B → List ℕ) (h : A → B) (front : List A) (last : A) (parts : List A)
    (start mid new : List ℕ) → parts ≡ front ++ last ∷ [] → mid ≡ start ++ flat_map (λ a. self (h a)) front
    → new ≡ mid ++ whole (h last) → new ≡ start ++ forms self whole (map h parts)
written self whole h front last parts start mid new are middle ends =
    rw (ends, middle, are, forms_map self whole h (front ++ last ∷ []), forms_push (λ a. self (h a)) (λ a. whole (h a)) front last)
    (append_assoc start (flat_map (λ a. self (h a)) front) (whole (h last)))

-- where a sum of sizes passes a limit, all of them do
pub sum_past : {A : Type 0} (f : A → List ℕ) (xs : List A) (i : ℕ) (x : A) (sum limit : ℕ) → i < length xs → x ≡ get_or xs i x
    → sum ≡ length (flat_map f (take i xs)) → limit ≤ sum + length (f x) → limit ≤ length (flat_map f xs)
sum_past f xs i x sum limit within is told past = omega (arith, told, past, room_at f xs i x within is)

-- a list without room for some bytes has none for forms of as many
pub past_forms : {A B : Type 0} (self whole : B → List ℕ) (h : A → B) (front : List A) (last : A) (parts : List A) (n cap more : ℕ)
    → parts ≡ front ++ last ∷ [] → cap < n + more → more ≤ length (flat_map (λ a. self (h a)) front) + length (whole (h last))
    → cap < n + length (forms self whole (map h parts))
past_forms self whole h front last parts n cap more are past within =
    let size : length (forms self whole (map h parts)) ≡ length (flat_map (λ a. self (h a)) front) + length (whole (h last)) =
    rw (are, forms_map self whole h (front ++ last ∷ []), forms_push (λ a. self (h a)) (λ a. whole (h a)) front last)
    (length-append (flat_map (λ a. self (h a)) front) (whole (h last))) in
    omega (arith, past, within, size)

pub none_says : {A P : Type 0} (r : Option A) → P → IfNone r P
none_says None holds = holds
none_says (Some x) holds = tt

pub not_below : (sum more size limit : ℕ) → (sum + more < limit → ⊥) → more ≡ size → limit ≤ sum + size
not_below sum more size limit never is = omega (arith, never, is)

pub err_says : {T E P : Type 0} (r : Result T E) → P → OnErr r P
err_says (Ok x) holds = tt
err_says (Err e) holds = holds
