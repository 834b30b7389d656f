-- Lengths that are written one by one.
use Rattle.std.proofs.Common.{◌≡◌, ℕ, ◌+◌, ◌-◌, ◌*◌, ◌≤◌, List, [], ◌∷◌, ◌++◌, length, flat_map, All, sym, ap, ◌∙◌, subst, append-nil, append_assoc, length-append, arith}
use Rattle.std.proofs.lemmas.List.Concat.{flat_map-append}
use Rattle.std.proofs.lemmas.List.Elements.{All-tail}
use Rattle.opus_flen.specs.FrameLength.{length_bytes}
use Rattle.opus_packet.specs.Value.{max_frame}

-- those before the next are written
pub record Listed (all rest : List ℕ) (next : ℕ) (before bytes : List ℕ) : Type 0 where
  pub passed : List ℕ
  pub apart : passed ++ rest ≡ all
  pub counted : length passed + 1 ≡ next
  pub bytes_are : bytes ≡ before ++ flat_map length_bytes passed
  pub few : length bytes ≤ length before + 2 * length passed
  pub each : All (λ n. n ≤ max_frame) rest

pub Listed-more : (all rest others : List ℕ) (next n : ℕ) (before bytes longer : List ℕ) → rest ≡ n ∷ others
    → longer ≡ bytes ++ length_bytes n → length longer ≤ length bytes + 2
    → Listed all rest next before bytes → Listed all others (next + 1) before longer
Listed-more all rest others next n before bytes longer first more few l =
    let one = append-nil (length_bytes n) in
    record {
      passed = l.passed ++ n ∷ [];
      apart = append_assoc l.passed (n ∷ []) others ∙ ap (λ r. l.passed ++ r) (sym first) ∙ l.apart;
      counted = omega (arith, length-append l.passed (n ∷ []), l.counted);
      bytes_are = more ∙ ap (λ b. b ++ length_bytes n) l.bytes_are
          ∙ append_assoc before (flat_map length_bytes l.passed) (length_bytes n)
          ∙ ap (λ b. before ++ (flat_map length_bytes l.passed ++ b)) (sym one)
          ∙ ap (λ b. before ++ b) (sym (flat_map-append length_bytes l.passed (n ∷ [])));
      few = omega (arith, l.few, few, length-append l.passed (n ∷ []));
      each = All-tail (λ m. m ≤ max_frame) n others (subst (λ r. All (λ m. m ≤ max_frame) r) first l.each);
    }

-- one more is left where the next isn't the last
pub Listed-some : (all rest : List ℕ) (next : ℕ) (before bytes : List ℕ) → rest ≡ [] → next + 1 ≤ length all
    → Listed all rest next before bytes → ⊥
Listed-some all rest next before bytes none more l =
    omega (arith, ap length l.apart, length-append l.passed rest, ap length none, l.counted)
