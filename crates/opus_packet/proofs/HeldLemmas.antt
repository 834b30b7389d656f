-- A copy of a packet's value.
use Rattle.std.proofs.Common.{◌≡◌, ℕ, Bool, ◌≤◌, List, ◌++◌, length, map, take, sum, refl, sym, ap, ◌∙◌, take_at, length-take-le, arith}
use Rattle.std.specs.List.{concat}
use Rattle.opus_packet.specs.Value.{PacketValue}
use Rattle.opus_packet.specs.Cut.{cut}
use Rattle.opus_packet.proofs.CutLemmas.{cut-concat, length-concat, lengths-cut}

pub frames-copied : (frames : List (List ℕ)) (body bytes tail lens : List ℕ) → body ≡ concat frames
    → bytes ≡ body ++ tail → lens ≡ map length frames → cut (take (length body) bytes) lens ≡ frames
frames-copied frames body bytes tail lens own all are =
    ap (λ l. cut (take (length body) l) lens) all
    ∙ ap (λ l. cut l lens) (take_at body tail (length body) refl ∙ own)
    ∙ ap (λ l. cut (concat frames) l) are ∙ cut-concat frames

abbrev pub value_of : ℕ → Bool → List (List ℕ) → PacketValue
value_of config stereo frames = record { config = config; stereo = stereo; frames = frames }

pub value-copied : (v : PacketValue) (config : ℕ) (stereo : Bool) (frames : List (List ℕ)) → config ≡ v.config
    → stereo ≡ v.stereo → frames ≡ v.frames → value_of config stereo frames ≡ v
value-copied v config stereo frames c s f =
    ap (λ n. value_of n stereo frames) c ∙ ap (λ b. value_of v.config b frames) s ∙ ap (λ fs. value_of v.config v.stereo fs) f

pub sum-copied : (frames : List (List ℕ)) (body lens : List ℕ) → body ≡ concat frames
    → lens ≡ map length frames → sum lens ≡ length body
sum-copied frames body lens own are = ap sum are ∙ sym (length-concat frames) ∙ ap length (sym own)

-- the lengths of a held value are those of its frames
pub lens-held : (bytes lens : List ℕ) (body : ℕ) → sum lens ≡ body → body ≤ length bytes
    → map length (cut (take body bytes) lens) ≡ lens
lens-held bytes lens body fills within =
    lengths-cut (take body bytes) lens (omega (arith, fills, length-take-le body bytes within))
