-- One record more, and what all calls appended.
use Rattle.std.proofs.Common.{◌≡◌, ℕ, ◌+◌, List, [], ◌∷◌, ◌++◌, Option, None, Some, refl, ap, sym, ◌∙◌, append_assoc, append-nil, subst, length-append, arith}
use Rattle.std.specs.List.{sum, concat}
use Rattle.std.proofs.lemmas.List.Folds.{concat-append}
use Rattle.std.proofs.lemmas.List.Sums.{sum_by-append}
use Rattle.opus_packet.specs.Value.{PacketValue}
use Rattle.rtp_packet.specs.declared.packet.RtpFields.{RtpFields}
use Rattle.rtp_ends.specs.Sent.{raise_of, raises_after, last_raise, elapsed_in, packets_of, packets_behind, packets_sent}
use Rattle.rtp_packet.specs.RtpRead.{plain_bytes}
use Rattle.rtp_ends.specs.SentLaws.{text_of, AreAppended}
use Rattle.rtp_ends.specs.Sends.{SenderState, SenderStands, passed}

pub raises_after-more : (before : ℕ) (rs : List (Option PacketValue)) (r : Option PacketValue)
    → raises_after before (rs ++ r ∷ []) ≡ raises_after before rs ++ raise_of (last_raise before rs) r ∷ []
raises_after-more before [] r = refl
raises_after-more before (s ∷ rs) r =
    ap (λ l. raise_of before s ∷ l) (raises_after-more (raise_of before s) rs r)

pub last_raise-more : (before : ℕ) (rs : List (Option PacketValue)) (r : Option PacketValue)
    → last_raise before (rs ++ r ∷ []) ≡ raise_of (last_raise before rs) r
last_raise-more before [] r = refl
last_raise-more before (s ∷ rs) r = last_raise-more (raise_of before s) rs r

pub elapsed_in-more : (rs : List (Option PacketValue)) (r : Option PacketValue)
    → elapsed_in (rs ++ r ∷ []) ≡ elapsed_in rs + raise_of (last_raise 0 rs) r
elapsed_in-more rs r =
    ap sum (raises_after-more 0 rs r)
    ∙ sum_by-append (λ (n : ℕ). n) (raises_after 0 rs) (raise_of (last_raise 0 rs) r ∷ [])
    ∙ ap (λ n. elapsed_in rs + n) (omega arith)

pub packets_behind-more : (first : RtpFields) (before rs : List (Option PacketValue)) (r : Option PacketValue)
    → packets_behind first before (rs ++ r ∷ [])
    ≡ packets_behind first before rs ++ packets_of first (before ++ rs) r
packets_behind-more first before [] r =
    append-nil (packets_of first before r)
    ∙ ap (λ l. packets_of first l r) (sym (append-nil before))
packets_behind-more first before (s ∷ rs) r =
    ap (λ l. packets_of first before s ++ l)
    (packets_behind-more first (before ++ s ∷ []) rs r
    ∙ ap (λ l. packets_behind first (before ++ s ∷ []) rs ++ packets_of first l r) (append_assoc before (s ∷ []) rs))
    ∙ sym (append_assoc (packets_of first before s) (packets_behind first (before ++ s ∷ []) rs) (packets_of first (before ++ s ∷ rs) r))

pub packets_sent-more : (first : RtpFields) (rs : List (Option PacketValue)) (r : Option PacketValue)
    → packets_sent first (rs ++ r ∷ []) ≡ packets_sent first rs ++ packets_of first rs r
packets_sent-more first rs r = packets_behind-more first [] rs r

text_of-joined : (first : RtpFields) (before : List (Option PacketValue)) (r : Option PacketValue)
    → text_of first before r ≡ concat (packets_of first before r)
text_of-joined first before (Some v) = sym (append-nil (text_of first before (Some v)))
text_of-joined first before None = refl

pub appended-joined : (first : RtpFields) (before rs : List (Option PacketValue)) (texts : List (List ℕ))
    → AreAppended first before rs texts → concat texts ≡ concat (packets_behind first before rs)
appended-joined first before [] [] said = refl
appended-joined first before [] (t ∷ ts) said = elim said [ ]
appended-joined first before (r ∷ rs) [] said = elim said [ ]
appended-joined first before (r ∷ rs) (t ∷ ts) said =
    ap (λ l. l ++ concat ts) (said.0 ∙ text_of-joined first before r)
    ∙ ap (λ l. concat (packets_of first before r) ++ l) (appended-joined first (before ++ r ∷ []) rs ts said.1)
    ∙ sym (concat-append (packets_of first before r) (packets_behind first (before ++ r ∷ []) rs))

pub plain-joined : (fields : RtpFields) (payload : List ℕ)
    → plain_bytes fields [] ++ payload ≡ plain_bytes fields payload
plain-joined fields payload = sym (append-nil (plain_bytes fields [] ++ payload))

pub stands-more : (s new : SenderState) (records : List (Option PacketValue)) (r : Option PacketValue) (step : ℕ)
    → SenderStands s records → step ≡ raise_of s.step r → new ≡ passed s step
    → SenderStands new (records ++ r ∷ [])
stands-more s new records r step is lasts moved =
    let raised : step ≡ raise_of (last_raise 0 records) r = lasts ∙ ap (λ n. raise_of n r) is.step_is in
    subst (λ t. SenderStands t (records ++ r ∷ [])) (sym moved) (record {
      sent_is = ap (λ n. n + 1) is.sent_is ∙ sym (length-append records (r ∷ []));
      elapsed_is = ap (λ n. n + step) is.elapsed_is ∙ ap (λ n. elapsed_in records + n) raised ∙ sym (elapsed_in-more records r);
      step_is = raised ∙ sym (last_raise-more 0 records r);
    })
