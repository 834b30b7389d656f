-- What a feed stands for when no more bytes come.
use Rattle.std.proofs.Common.{◌≡◌, ℕ, zero, suc, ◌+◌, ◌-◌, ◌<◌, ◌≤◌, Bool, if◌then◌else◌, Ok, List, [], ◌∷◌, ◌++◌, length, replicate, refl, sym, ap, ◌∙◌, arith, append_assoc, le-leb}
use Rattle.opus_toc.specs.Toc.{config_of, stereo_of, code_of, toc_byte}
use Rattle.opus_toc.proofs.TocLemmas.{code_of-toc_byte}
use Rattle.opus_packet.specs.declared.fault.Rule.{Rule}
use Rattle.opus_packet.specs.declared.fault.Rule.TheVariants.{R2, R6, R7, Cut}
use Rattle.opus_packet.specs.declared.shape.Shape.{Shape}
use Rattle.opus_packet.specs.Header.{body_size, padding_data, count_byte, count_and_padding, padding_length}
use Rattle.opus_packet.specs.HeaderRead.{partial}
use Rattle.opus_packet.specs.PacketPrefix.{AreBytes, most_bytes}
use Rattle.opus_packet.specs.PacketFault.{fault, fault_by, rule_of_part, rule_of_code}
use Rattle.opus_packet.specs.SelfPrefix.{unsized, self_fault_by, self_size}
use Rattle.opus_packet.proofs.FirstBytes.{vbr_of-count_of}
use Rattle.opus_packet.proofs.GrammarLemmas.{found}
use Rattle.opus_packet.proofs.ReadBody.{no_header, not_filled, whole≢partial}
use Rattle.opus_self.proofs.ReadSelf.{not_sized, not_whole, sized≢unsized}
use Rattle.opus_feed.specs.Stage.{IsOpen}
use Rattle.opus_feed.specs.Heads.{IsSound, IsLed, spelling, lead, spelled_in, header_in, sizes_in}
use Rattle.opus_feed.specs.Bodies.{bytes_behind, IsGoing}
use Rattle.opus_feed.specs.Places.{IsOpening, IsFilling, IsFull}
use Rattle.opus_feed.specs.Steps.{IsOver, IsWhole}
use Rattle.opus_feed.specs.Answers.{Finishes}
use Rattle.opus_feed.specs.Feeds.{StaysOverAt, AgainEndAt}
use Rattle.opus_feed.specs.declared.feed.Feed.{Feed}
use Rattle.opus_feed.specs.Packets.{IsNone, fault_of}
use Rattle.opus_feed.specs.Stands.{Holds, Takes, StandsAt, EndsAt, EndsWhole, fault_at}
use Rattle.opus_feed.specs.Rules.{rule_by, whole_rule, opening_rule}
use Rattle.opus_feed.specs.declared.framing.Framing.{Framing}
use Rattle.opus_feed.specs.declared.framing.Framing.TheVariants.{Whole, SelfDelimited}
use Rattle.opus_feed.specs.declared.padding.Padding.{Padding}
use Rattle.opus_feed.specs.declared.stage.Stage.{Stage}
use Rattle.opus_feed.specs.declared.stage.Stage.TheVariants.{Toc, Count, PadLength, Length, LengthEnd, Last, LastEnd, Ready, BadCount, BadPadding}
use Rattle.opus_feed.specs.declared.head.Head.{Head}
use Rattle.opus_feed.specs.declared.body.Body.{Body}
use Rattle.opus_feed.specs.declared.place.Place.{Place}
use Rattle.opus_feed.specs.declared.place.Place.TheVariants.{Opening, Filling, Full, Failed}
use Rattle.opus_feed.proofs.AnswerLemmas.{opening_prefix, opening_unsized, holds_whole, holds_sized, holds_size, front_whole, front_self, failed_here, full_begins}

-- the rule that bytes with these first ones break
lead_rule : (h : Head) (code : ℕ) → h.shape.code ≡ code → IsLed h → (xs : List ℕ)
    → rule_of_part (lead h ++ xs) ≡ rule_by code h.shape.vbr
lead_rule h code is led xs =
    let config = config_of h.first in
    let stereo = stereo_of h.first in
    let first = led.code in
    let below : h.shape.code < 4 = omega arith in
    let code_is : code_of (toc_byte config stereo h.shape.code) ≡ code =
    code_of-toc_byte config stereo h.shape.code below ∙ is in
    let rest = count_and_padding h.shape h.frames ++ xs in
    ap (λ c. rule_of_code c rest) code_is ∙ go code is
  where
    three : (vbr : Bool) → h.shape.vbr ≡ vbr → h.shape.code ≡ 3
        → rule_of_code 3 (count_and_padding h.shape h.frames ++ xs) ≡ (if h.shape.vbr then R7 else R6)
    three vbr v c =
        let most = led.most in
        let behind : count_and_padding h.shape h.frames ≡ count_byte h.shape h.frames ∷ padding_length h.shape.pad = rw c in
        ap (λ bs. rule_of_code 3 (bs ++ xs)) behind
        ∙ ap (λ b. if b then R7 else R6) (vbr_of-count_of h.shape.vbr _ h.frames (omega arith))

    go : (c : ℕ) → h.shape.code ≡ c → rule_of_code c (count_and_padding h.shape h.frames ++ xs) ≡ rule_by c h.shape.vbr
    go zero e = refl
    go (suc zero) e = refl
    go (suc (suc zero)) e = refl
    go (suc (suc (suc zero))) e = three h.shape.vbr refl e
    go (suc (suc (suc (suc c)))) e = let first = led.code in absurd (omega arith)

stage_rule : (stage : Stage) (h : Head) → IsOpen stage → IsSound Whole stage h
    → rule_of_part (spelling Whole stage h) ≡ whole_rule stage h
stage_rule Toc h is sound = refl
stage_rule Count h is sound =
    ap (λ c. rule_of_code c []) sound.code ∙ ap (λ (s : Shape). rule_by s.code s.vbr) (sym sound.shape_is)
stage_rule PadLength h is sound =
    let counted = sound.counted in
    ap (λ c. rule_of_code c (h.count ∷ replicate {A = ℕ} h.full 255)) counted.code
    ∙ ap (λ v. if v then R7 else R6) (sym counted.shape_vbr) ∙ ap (λ c. rule_by c h.shape.vbr) (sym counted.shape_code)
stage_rule Length h is sound = lead_rule h h.shape.code refl sound.led (spelled_in h)
stage_rule LengthEnd h is sound =
    ap rule_of_part (append_assoc (lead h) (spelled_in h) (h.low ∷ []))
    ∙ lead_rule h h.shape.code refl sound.0.led (spelled_in h ++ h.low ∷ [])
stage_rule Last h is sound = cc
stage_rule LastEnd h is sound = cc
stage_rule Ready h is sound = absurd is
stage_rule BadCount h is sound = absurd is
stage_rule BadPadding h is sound = absurd is

-- the bytes end in the header
pub opening_ends : (framing : Framing) (padding : Padding) (stage : Stage) (h : Head) (b : Body) (bytes : List ℕ)
    → IsOpening framing padding stage h b → AreBytes bytes → bytes ≡ spelling framing stage h
    → IsNone framing bytes × (fault_at (opening_rule framing stage h) b ≡ fault_of framing bytes)
opening_ends Whole padding stage h b bytes is are at =
    let read = opening_prefix padding stage h b bytes is are at in
    let front = is.front_is in
    let none = is.none in
    let sizes = ap (λ (l : List ℕ). length l) at in
    let size : b.front + b.came ≡ length bytes = omega arith in (
      λ v s. no_header bytes v s partial read whole≢partial,
      sym (ap (λ r. fault_by r bytes) read
          ∙ ap (λ rule. fault rule (length bytes)) (ap rule_of_part at ∙ stage_rule stage h is.open_is is.sound)
          ∙ ap (fault (whole_rule stage h)) (sym size)),
    )
opening_ends SelfDelimited padding stage h b bytes is are at =
    let read = opening_unsized padding stage h b bytes is are at in
    let front = is.front_is in
    let none = is.none in
    let sizes = ap (λ (l : List ℕ). length l) at in
    let size : b.front + b.came ≡ length bytes = omega arith in (
      λ v s used. not_sized bytes v s used unsized read sized≢unsized,
      sym (ap (λ r. self_fault_by r (length bytes)) read ∙ ap (fault Cut) (sym size)),
    )

-- they end behind it, and no last frame fills them
pub filling_none : (padding : Padding) (h : Head) (b : Body) (bytes : List ℕ) → IsFilling Whole padding h b
    → Takes Whole h b bytes
    → ((n : ℕ) → b.came ≡ body_size (sizes_in h) n + padding_data h.shape.pad → ⊥)
    → IsNone Whole bytes × (fault_at (rule_by h.shape.code h.shape.vbr) b ≡ fault_of Whole bytes)
filling_none padding h b bytes is t none =
    let read = holds_whole is.sized t.holds in
    let all = t.all in
    let sizes = holds_size t.holds in
    let spelled = front_whole h is.sized in
    let front = is.front_is in
    let limit = is.limit_is ∙ ap (bytes_behind (header_in h)) is.last in
    let came = is.came in
    let size : b.front + b.came ≡ length bytes = omega arith in
    let within : length bytes ≤ most_bytes (header_in h) = omega arith in
    let rule : rule_of_part bytes ≡ rule_by h.shape.code h.shape.vbr =
    ap rule_of_part (t.holds.bytes_are ∙ append_assoc (lead h) (spelled_in h) t.holds.behind)
    ∙ lead_rule h h.shape.code refl is.sized.led (spelled_in h ++ t.holds.behind) in
    let rest : length bytes - b.front ≡ b.came = omega arith in (
      λ v s. not_filled (header_in h) bytes v s b.front (padding_data h.shape.pad) read (front ∙ spelled) refl
          (λ n e. none n (sym rest ∙ e)),
      sym (ap (λ r. fault_by r bytes) read
          ∙ ap (λ c. if c then fault (rule_of_part bytes) (length bytes) else fault R2 (most_bytes (header_in h)))
          (le-leb (length bytes) (most_bytes (header_in h)) within)
          ∙ ap (λ r. fault r (length bytes)) rule ∙ ap (fault (rule_by h.shape.code h.shape.vbr)) (sym size)),
    )

-- a self-delimited packet isn't whole
pub filling_cut : (padding : Padding) (h : Head) (b : Body) (bytes : List ℕ) → IsFilling SelfDelimited padding h b
    → b.came < b.limit → Takes SelfDelimited h b bytes
    → IsNone SelfDelimited bytes × (fault_at Cut b ≡ fault_of SelfDelimited bytes)
filling_cut padding h b bytes is going t =
    let read = holds_sized is.sized t.holds in
    let all = t.all in
    let sizes = holds_size t.holds in
    let spelled = front_self h is.sized in
    let front = is.front_is in
    let limit = is.limit_is in
    let size : b.front + b.came ≡ length bytes = omega arith in
    let below : length bytes < self_size (header_in h) h.last = omega arith in (
      λ v s used. not_whole (header_in h) h.last bytes v s used read below,
      sym (ap (λ r. self_fault_by r (length bytes)) read ∙ ap (fault Cut) (sym size)),
    )

-- what a feed stood for when nothing more could come, it stands for at the end
pub over_ends : (framing : Framing) (place : Place) (h : Head) (b : Body) (bytes : List ℕ) → IsOver place
    → AreBytes bytes → StandsAt framing place h b bytes → EndsAt framing place h b bytes
over_ends framing (Opening stage) h b bytes over are at = absurd over
over_ends framing Filling h b bytes over are at = absurd over
over_ends Whole Full h b bytes over are at = absurd at
over_ends SelfDelimited Full h b bytes over are at = at
over_ends framing (Failed rule) h b bytes over are at =
    let here = failed_here framing (fault_at rule b) bytes are at in (here.none, here.fault_is)

-- a packet is whole
pub full_found : (framing : Framing) (padding : Padding) (h : Head) (b : Body) (bytes : List ℕ)
    → IsFull framing padding h b → AreBytes bytes → EndsWhole framing h b bytes → Finishes framing bytes (Ok tt)
full_found Whole padding h b bytes is are t =
    let read = holds_whole is.sized t.holds in
    let all = t.all in
    let sizes = holds_size t.holds in
    let spelled = front_whole h is.sized in
    let came = is.came_is in
    (_, _, (_, found bytes are (header_in h) read h.last is.last (omega arith)))
full_found SelfDelimited padding h b bytes is are holds = (_, _, _, full_begins padding h b bytes is are holds)

-- a place that isn't failed, where nothing more can come
pub full_from_over : (place : Place) → IsOver place → ((rule : Rule) → place ≡ Failed rule → ⊥) → place ≡ Full
full_from_over (Opening stage) over none = absurd over
full_from_over Filling over none = absurd over
full_from_over Full over none = refl
full_from_over (Failed rule) over none = absurd (none rule refl)

-- the same by the framing

pub cut_ends : (framing : Framing) (padding : Padding) (h : Head) (b : Body) (bytes : List ℕ)
    → framing ≡ SelfDelimited → IsFilling framing padding h b → IsGoing framing b → Takes framing h b bytes
    → EndsAt framing (Failed Cut) h b bytes
cut_ends Whole padding h b bytes self is going t = cc
cut_ends SelfDelimited padding h b bytes self is going t = filling_cut padding h b bytes is going t

pub none_ends : (framing : Framing) (padding : Padding) (h : Head) (b : Body) (bytes : List ℕ)
    → framing ≡ Whole → IsFilling framing padding h b → Takes framing h b bytes
    → ((n : ℕ) → b.came ≡ body_size (sizes_in h) n + padding_data h.shape.pad → ⊥)
    → EndsAt framing (Failed (rule_by h.shape.code h.shape.vbr)) h b bytes
none_ends Whole padding h b bytes undelimited is t none = filling_none padding h b bytes is t none
none_ends SelfDelimited padding h b bytes undelimited is t none = cc

pub some_ends : (framing : Framing) (h : Head) (b : Body) (bytes : List ℕ) (last : ℕ)
    → framing ≡ Whole → Takes framing h b bytes → EndsAt framing Full (record h { last = last }) b bytes
some_ends Whole h b bytes last undelimited t =
    let holds : Holds Whole (record h { last = last }) b bytes = record {
      behind = t.holds.behind;
      bytes_are = t.holds.bytes_are;
      came = t.holds.came;
      kept_are = t.holds.kept_are;
    } in
    record { holds = holds; all = t.all }
some_ends SelfDelimited h b bytes last undelimited t = cc

-- a second end changes nothing
pub again_ok : (place : Place) (old new : Feed) → old.place ≡ place → StaysOverAt place old new → new.place ≡ Full
    → AgainEndAt place old (Ok tt) new
again_ok (Opening stage) old new at stays full = tt
again_ok Filling old new at stays full = tt
again_ok Full old new at stays full = (refl, stays)
again_ok (Failed rule) old new at stays full =
    let same : new.place ≡ old.place = ap (λ (f : Feed). f.place) stays in
    cc

pub full_from_whole : (place : Place) → IsWhole place → place ≡ Full
full_from_whole (Opening stage) is = absurd is
full_from_whole Filling is = absurd is
full_from_whole Full is = refl
full_from_whole (Failed rule) is = absurd is
