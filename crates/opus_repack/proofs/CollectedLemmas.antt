-- What is collected, and what a packet's frames behind it make of it.
use Rattle.std.proofs.Common.{◌≡◌, ℕ, zero, suc, ◌+◌, ◌*◌, ◌≤◌, Bool, Some, List, ◌++◌, length, refl, sym, ap, ◌∙◌, arith}
use Rattle.std.specs.Option.{IfSome}
use Rattle.std.proofs.lemmas.List.{nil_from_length}
use Rattle.opus_toc.specs.Configuration.{samples_of}
use Rattle.opus_packet.specs.Value.{PacketValue, IsPacketValue, duration_of, max_duration}
use Rattle.opus_repack.specs.Collected.{frames_in, duration_in, with_frames, GoesBehind}
use Rattle.opus_repack.specs.Inside.{some_value}

pub count-in : (k : ℕ) (v : PacketValue) → length v.frames ≡ k → k ≡ length (frames_in (some_value k v))
count-in zero v is = refl
count-in (suc k) v is = sym is

pub duration-of_some : (k : ℕ) (v : PacketValue) → length v.frames ≡ k
    → k * samples_of v.config ≡ duration_in (some_value k v)
duration-of_some zero v is = omega arith
duration-of_some (suc k) v is = ap (λ n. n * samples_of v.config) (sym is)

pub value-of_some : (k : ℕ) (v : PacketValue) → (1 ≤ k → IsPacketValue v) → IfSome (some_value k v) IsPacketValue
value-of_some zero v is = tt
value-of_some (suc k) v is = is (omega arith)

-- what can go behind the frames so far lasts at most 120 ms with them
pub lasts-behind : (k : ℕ) (v w : PacketValue) → length v.frames ≡ k → IsPacketValue w → GoesBehind (some_value k v) w
    → (k + length w.frames) * samples_of w.config ≤ max_duration
lasts-behind zero v w is second goes = omega (arith, second.duration)
lasts-behind (suc k) v w is second goes =
    let old : suc k * samples_of w.config ≡ duration_of v =
    ap (λ c. suc k * samples_of c) (sym goes.kind.config) ∙ ap (λ n. n * samples_of v.config) (sym is) in
    let both : (suc k + length w.frames) * samples_of w.config ≡ suc k * samples_of w.config + duration_of w = grind arith in
    omega (arith, old, both, goes.lasts)

abbrev value_of : ℕ → Bool → List (List ℕ) → PacketValue
value_of config stereo frames = record { config = config; stereo = stereo; frames = frames }

same-value : (v w : PacketValue) (fs : List (List ℕ)) → v.config ≡ w.config → v.stereo ≡ w.stereo → v.frames ≡ fs
    → v ≡ value_of w.config w.stereo fs
same-value v w fs c s f =
    ap (λ n. value_of n v.stereo v.frames) c ∙ ap (λ b. value_of w.config b v.frames) s
    ∙ ap (λ l. value_of w.config w.stereo l) f

-- the frames so far, and those of the packet behind them
pub pushed : (k count : ℕ) (v w new : PacketValue) → length v.frames ≡ k → 1 ≤ count → GoesBehind (some_value k v) w
    → new.config ≡ w.config → new.stereo ≡ w.stereo → new.frames ≡ v.frames ++ w.frames
    → some_value count new ≡ Some (with_frames (some_value k v) w)
pushed k zero v w new is some goes config stereo frames = absurd (omega arith)
pushed zero (suc count) v w new is some goes config stereo frames =
    ap Some (same-value new w w.frames config stereo (frames ∙ ap (λ l. l ++ w.frames) (nil_from_length v.frames is)))
pushed (suc k) (suc count) v w new is some goes config stereo frames =
    ap Some (
    same-value new v (v.frames ++ w.frames) (config ∙ sym goes.kind.config) (stereo ∙ sym goes.kind.stereo) frames
    )
