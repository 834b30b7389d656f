-- Packets that go behind each other can be one packet.
use Rattle.std.proofs.Common.{◌≡◌, ℕ, ◌+◌, ◌*◌, ◌≤◌, Bool, true, false, not, nat_le, ◌&&◌, ◌==◌, if◌then◌else◌, List, [], ◌∷◌, ◌++◌, length, Result, Ok, Err, refl, sym, ap, ◌∙◌, subst, append-nil, eqb-true, leb-true}
use Rattle.std.specs.List.{AllByRecursion}
use Rattle.std.proofs.lemmas.List.{flat_map_more}
use Rattle.opus_toc.specs.Configuration.{samples_of}
use Rattle.opus_packet.specs.Value.{PacketValue, IsPacketValue, duration_of, max_duration}
use Rattle.opus_repack.specs.Joined.{IsSameKind, joined}
use Rattle.opus_repack.proofs.JoinedLemmas.{duration-joined}
use Rattle.pack_jobs.specs.declared.refusal.Why.{Why}
use Rattle.pack_jobs.specs.declared.refusal.Why.TheVariants.{MixedKind, TooLong}
use Rattle.pack_jobs.specs.Merge.{is_same_kind, put_behind}
use Rattle.pack_jobs.specs.Groups.{merged_with, merged, CanMerge}

same-by : (c d : ℕ) (e a b : Bool) → (c == d) ≡ e → (e && (if a then b else not b)) ≡ true → (c ≡ d) × (a ≡ b)
same-by c d true true true is same = (eqb-true c d is, refl)
same-by c d true true false is same = absurd cc
same-by c d true false true is same = absurd cc
same-by c d true false false is same = (eqb-true c d is, refl)
same-by c d false a b is same = absurd cc

same-kind : (v w : PacketValue) → is_same_kind v w ≡ true → IsSameKind v w
same-kind v w same =
    let both = same-by v.config w.config (v.config == w.config) v.stereo w.stereo refl same in
    record { config = both.0; stereo = both.1 }

each-kind : (v : PacketValue) (ws : List PacketValue) (w : PacketValue) → AllByRecursion (IsSameKind v) ws
    → IsSameKind v w → AllByRecursion (IsSameKind v) (ws ++ w ∷ [])
each-kind v [] w each same = (same, tt)
each-kind v (u ∷ ws) w each same = (each.0, each-kind v ws w each.1 same)

pub merged-joined : (v : PacketValue) (ws : List PacketValue) (w : PacketValue)
    → joined (merged_with v ws) w ≡ merged_with v (ws ++ w ∷ [])
merged-joined v ws w =
    ap (λ fs. record { config = v.config; stereo = v.stereo; frames = fs })
    (flat_map_more (λ (u : PacketValue). u.frames) v.frames ws w)

can-by : (v : PacketValue) (ws : List PacketValue) (w : PacketValue) (b c : Bool) (done : Unit {0})
    → AllByRecursion (IsSameKind v) ws → is_same_kind (merged_with v ws) w ≡ b
    → nat_le (duration_of (merged_with v ws) + duration_of w) max_duration ≡ c
    → ◌≡◌ {A = Result (Unit {0}) Why} (if b then (if c then Ok tt else Err TooLong) else Err MixedKind) (Ok done)
    → CanMerge (v ∷ (ws ++ w ∷ []))
can-by v ws w true true done each same lasts put =
    let kind = same-kind (merged_with v ws) w same in
    let long = duration-joined (merged_with v ws) w kind ∙ refl in (
      each-kind v ws w each (record { config = kind.config; stereo = kind.stereo }),
      subst (λ u. duration_of u ≤ max_duration) (merged-joined v ws w)
          (subst (λ n. n ≤ max_duration) (sym long)
          (leb-true (duration_of (merged_with v ws) + duration_of w) max_duration lasts)),
    )
can-by v ws w true false done each same lasts put = absurd cc
can-by v ws w false c done each same lasts put = absurd cc

pub can-more : (vs : List PacketValue) (w : PacketValue) (done : Unit {0}) → IsPacketValue w → CanMerge vs
    → put_behind (merged vs) w ≡ Ok done → CanMerge (vs ++ w ∷ [])
can-more [] w done is can put =
    (tt, subst (λ fs. length fs * samples_of w.config ≤ max_duration) (sym (append-nil w.frames)) is.duration)
can-more (v ∷ vs) w done is can put =
    can-by v vs w (is_same_kind (merged_with v vs) w)
    (nat_le (duration_of (merged_with v vs) + duration_of w) max_duration) done can.0 refl refl put
