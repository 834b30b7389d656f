-- What becomes of a line, in terms of what it says.
use Rattle.std.proofs.Common.{◌≡◌, ℕ, ◌+◌, Bool, true, false, if◌then◌else◌, List, [], Option, None, Some, refl, sym, ap, ◌∙◌}
use Rattle.job_loop.specs.Shown.{Shown}
use Rattle.job_loop.specs.Meaning.{Step, goes, stops}
use Rattle.opus_sdp.specs.Text.{is_line}
use Rattle.opus_sdp.specs.Grammar.{are_blank}
use Rattle.opus_sdp.specs.Reading.{fmtp_in, rtpmap_in}
use Rattle.opus_sdp.specs.SdpLine.{SdpValue, OfRtpmap, OfFmtp, IsSdpLine, sdp_fault, sdp_text}
use Rattle.opus_sdp.specs.declared.fault.SdpFault.{SdpFault}
use Rattle.opus_sdp.proofs.LineLemmas.{fmtp-value}
use Rattle.opus_sdp.proofs.RtpmapLemmas.{rtpmap-value}
use Rattle.opus_sdp.proofs.LawLemmas.{rtpmap-begins, fmtp-begins, no_fault, is_some_line, one_line, is_value, printed}
use Rattle.text_jobs.specs.declared.line.Line.{Line}
use Rattle.text_jobs.specs.declared.refusal.SdpRefusal.{SdpRefusal}
use Rattle.text_jobs.specs.Lines.{ended, line_at}
use Rattle.text_jobs.specs.Sdp.{sdp_in, sdp_refusal, line_step, sdp_step}

pub says : (a : SdpValue) (line : List ℕ) → IsSdpLine a line → sdp_in line ≡ a
says (OfRtpmap r) line is =
    ap (λ b. if b then OfRtpmap (rtpmap_in line) else OfFmtp (fmtp_in line)) (rtpmap-begins r line is)
    ∙ ap OfRtpmap (sym (rtpmap-value r line is))
says (OfFmtp m) line is =
    ap (λ b. if b then OfRtpmap (rtpmap_in line) else OfFmtp (fmtp_in line)) (fmtp-begins m line is)
    ∙ ap OfFmtp (sym (fmtp-value m line is))

not_blank : (a : SdpValue) (line : List ℕ) → IsSdpLine a line → are_blank line ≡ false
not_blank (OfRtpmap r) line is = ap are_blank is.spelled
not_blank (OfFmtp m) line is = ap are_blank is.spelled

-- ---- by cases: a line of blanks, one without a fault, one with a fault

abbrev chosen : ℕ → Shown Line → Bool → Option SdpFault → Step ℕ SdpRefusal
chosen number r blank fault =
    if blank then goes [] (number + 1) else line_step number r.item.start r.bytes fault

step_is : (number : ℕ) (r : Shown Line) (blank : Bool) (fault : Option SdpFault) → are_blank r.bytes ≡ blank
    → sdp_fault r.bytes ≡ fault → sdp_step number r ≡ chosen number r blank fault
step_is number r blank fault b f =
    ap (λ b. chosen number r b (sdp_fault r.bytes)) b ∙ ap (chosen number r blank) f

pub step_blank : (number : ℕ) (r : Shown Line) → are_blank r.bytes ≡ true → sdp_step number r ≡ goes [] (number + 1)
step_blank number r blank = step_is number r true (sdp_fault r.bytes) blank refl

pub step_printed : (a : SdpValue) (number : ℕ) (r : Shown Line) → IsSdpLine a r.bytes
    → sdp_step number r ≡ goes (ended (sdp_text a)) (number + 1)
step_printed a number r is =
    step_is number r false None (not_blank a r.bytes is) (no_fault a r.bytes is)
    ∙ ap (λ a. goes (ended (sdp_text a)) (number + 1)) (says a r.bytes is)

pub step_refused : (fault : SdpFault) (number : ℕ) (r : Shown Line) → are_blank r.bytes ≡ false
    → sdp_fault r.bytes ≡ Some fault → sdp_step number r ≡ stops [] (sdp_refusal number r.item.start fault)
step_refused fault number r blank said = step_is number r false (Some fault) blank said

-- a printed line is printed as it is
pub record IsKept (text : List ℕ) : Type 0 where
  pub line : is_line text ≡ true
  pub same : (number start place : ℕ) → sdp_step number (line_at start place text) ≡ goes (ended text) (number + 1)

pub kept_text : (a : SdpValue) (line : List ℕ) → IsSdpLine a line → IsKept (sdp_text a)
kept_text a line is =
    let again = printed a (is_value a line is) in record {
      line = one_line a (sdp_text a) again;
      same = λ number start place. step_printed a number (line_at start place (sdp_text a)) again;
    }

-- what becomes of a line
pub data Becomes (number : ℕ) (step : Step ℕ SdpRefusal) : Type 0 where
  nothing : step ≡ goes [] (number + 1) → Becomes number step
  prints : (text : List ℕ) → IsKept text → step ≡ goes (ended text) (number + 1) → Becomes number step
  refuses : (refusal : SdpRefusal) → step ≡ stops [] refusal → Becomes number step

pub becomes : (number : ℕ) (r : Shown Line) → is_line r.bytes ≡ true → Becomes number (sdp_step number r)
becomes number r line = by_case (are_blank r.bytes) (sdp_fault r.bytes) refl refl where
  by_case : (blank : Bool) (fault : Option SdpFault) → are_blank r.bytes ≡ blank → sdp_fault r.bytes ≡ fault
      → Becomes number (sdp_step number r)
  by_case true fault blank said = nothing (step_blank number r blank)
  by_case false None blank said =
      let some = is_some_line r.bytes line said in
      prints (sdp_text some.0) (kept_text some.0 r.bytes some.1) (step_printed some.0 number r some.1)
  by_case false (Some fault) blank said =
      refuses (sdp_refusal number r.item.start fault) (step_refused fault number r blank said)
