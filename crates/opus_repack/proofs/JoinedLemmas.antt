-- Values that are joined.
use Rattle.std.proofs.Common.{◌≡◌, ℕ, ◌+◌, ◌*◌, ◌≤◌, List, [], ◌∷◌, ◌++◌, length, sym, ap, ◌∙◌, subst, length-append, arith}
use Rattle.std.specs.List.{AllByRecursion}
use Rattle.opus_toc.specs.Configuration.{samples_of}
use Rattle.opus_packet.specs.Value.{PacketValue, IsPacketValue, IsFrame, duration_of, max_duration}
use Rattle.opus_packet.proofs.HeaderBegins.{frames-most}
use Rattle.opus_repack.specs.Joined.{IsSameKind, joined}

-- frames behind others last as long as both
times-append : (fs gs : List (List ℕ)) (n : ℕ) → length (fs ++ gs) * n ≡ length fs * n + length gs * n
times-append fs gs n = ap (λ k. k * n) (length-append fs gs) ∙ grind arith

pub duration-joined : (v w : PacketValue) → IsSameKind v w → duration_of (joined v w) ≡ duration_of v + duration_of w
duration-joined v w same =
    times-append v.frames w.frames (samples_of v.config)
    ∙ ap (λ c. duration_of v + length w.frames * samples_of c) same.config

frames-append : (fs gs : List (List ℕ)) → AllByRecursion IsFrame fs → AllByRecursion IsFrame gs
    → AllByRecursion IsFrame (fs ++ gs)
frames-append [] gs first second = second
frames-append (f ∷ fs) gs first second = (first.0, frames-append fs gs first.1 second)

pub joined-value : (v w : PacketValue) → IsPacketValue v → IsPacketValue w → IsSameKind v w
    → duration_of v + duration_of w ≤ max_duration → IsPacketValue (joined v w)
joined-value v w first second same lasts =
    let count = length-append v.frames w.frames in
    let long : duration_of (joined v w) ≤ max_duration = subst (λ n. n ≤ max_duration) (sym (duration-joined v w same)) lasts in
    record {
      config = first.config;
      some = omega (arith, count, first.some);
      most = frames-most v.config (length (v.frames ++ w.frames)) first.config long;
      each = frames-append v.frames w.frames first.each second.each;
      duration = long;
    }
