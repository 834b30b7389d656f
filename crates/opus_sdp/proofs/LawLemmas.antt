-- The laws of lines of both kinds.
use Rattle.std.proofs.Common.{◌≡◌, ℕ, Bool, true, false, if◌then◌else◌, List, ◌++◌, take, None, sym, ap, ◌∙◌}
use Rattle.std.specs.Prelude.{codes}
use Rattle.std.specs.Fmt.{decimal}
use Rattle.std.proofs.lemmas.Bool.{both_ways}
use Rattle.std.proofs.Math.Seq.{take-append_seam}
use Rattle.std.proofs.lemmas.Slice.Eq.{bytes_eq-Decides}
use Rattle.opus_sdp.specs.Text.{is_line}
use Rattle.opus_sdp.specs.Grammar.{IsFmtpLine, IsRtpmapLine}
use Rattle.opus_sdp.specs.Fault.{begins_with, fmtp_fault, rtpmap_fault}
use Rattle.opus_sdp.specs.Reading.{fmtp_in, rtpmap_in}
use Rattle.opus_sdp.specs.SdpLine.{SdpValue, OfRtpmap, OfFmtp, IsSdpLine, sdp_fault, sdp_text, IsSdpValue}
use Rattle.opus_sdp.specs.declared.fmtp.Fmtp.{Fmtp}
use Rattle.opus_sdp.specs.declared.fmtp.Rtpmap.{Rtpmap}
use Rattle.opus_sdp.proofs.LineLemmas.{fmtp-none, fmtp-value}
use Rattle.opus_sdp.proofs.LineFoundLemmas.{fmtp-spelled}
use Rattle.opus_sdp.proofs.RtpmapLemmas.{rtpmap-none, rtpmap-value, rtpmap-spelled}
use Rattle.opus_sdp.proofs.ValueLemmas.{line-value}
use Rattle.opus_sdp.proofs.PrintedLineLemmas.{fmtp-printed, rtpmap-printed}
use Rattle.opus_sdp.proofs.NewlineLemmas.{fmtp-line, rtpmap-line}

-- which kind

pub rtpmap-begins : (r : Rtpmap) (line : List ℕ) → IsRtpmapLine r line → begins_with (codes "a=rtpmap:") line ≡ true
rtpmap-begins r line is =
    (bytes_eq-Decides (take 9 line) (codes "a=rtpmap:")).1
    (ap (take 9) is.spelled ∙ take-append_seam (codes "a=rtpmap:") (decimal r.payload_type ++ (is.between ++ (is.codec ++ is.after))))

pub fmtp-begins : (m : Fmtp) (line : List ℕ) → IsFmtpLine m line → begins_with (codes "a=rtpmap:") line ≡ false
fmtp-begins m line is = ap (begins_with (codes "a=rtpmap:")) is.spelled

other_kind : (r : Rtpmap) (m : Fmtp) (line : List ℕ) → IsRtpmapLine r line → IsFmtpLine m line → ⊥
other_kind r m line rtpmap fmtp =
    both_ways (begins_with (codes "a=rtpmap:") line) (fmtp-begins m line fmtp) (rtpmap-begins r line rtpmap)

pub one_thing : (a b : SdpValue) (line : List ℕ) → IsSdpLine a line → IsSdpLine b line → a ≡ b
one_thing (OfRtpmap r) (OfRtpmap s) line p q = ap OfRtpmap (rtpmap-value r line p ∙ sym (rtpmap-value s line q))
one_thing (OfRtpmap r) (OfFmtp m) line p q = absurd (other_kind r m line p q)
one_thing (OfFmtp m) (OfRtpmap r) line p q = absurd (other_kind r m line q p)
one_thing (OfFmtp m) (OfFmtp n) line p q = ap OfFmtp (fmtp-value m line p ∙ sym (fmtp-value n line q))

pub no_fault : (a : SdpValue) (line : List ℕ) → IsSdpLine a line → sdp_fault line ≡ None
no_fault (OfRtpmap r) line is =
    ap (λ b. if b then rtpmap_fault line else fmtp_fault line) (rtpmap-begins r line is) ∙ rtpmap-none r line is
no_fault (OfFmtp m) line is =
    ap (λ b. if b then rtpmap_fault line else fmtp_fault line) (fmtp-begins m line is) ∙ fmtp-none m line is

some-line : (line : List ℕ) (rtpmap : Bool) → is_line line ≡ true → (if rtpmap then rtpmap_fault line else fmtp_fault line) ≡ None
    → (a : SdpValue) × IsSdpLine a line
some-line line true one none = (OfRtpmap (rtpmap_in line), rtpmap-spelled line none)
some-line line false one none = (OfFmtp (fmtp_in line), fmtp-spelled line one none)

pub is_some_line : (line : List ℕ) → is_line line ≡ true → sdp_fault line ≡ None → (a : SdpValue) × IsSdpLine a line
is_some_line line one none = some-line line (begins_with (codes "a=rtpmap:") line) one none

pub one_line : (a : SdpValue) (line : List ℕ) → IsSdpLine a line → is_line line ≡ true
one_line (OfRtpmap r) line is = rtpmap-line r line is
one_line (OfFmtp m) line is = fmtp-line m line is

-- printed lines

pub is_value : (a : SdpValue) (line : List ℕ) → IsSdpLine a line → IsSdpValue a
is_value (OfRtpmap r) line is = is.fits
is_value (OfFmtp m) line is = line-value m line is

pub printed : (a : SdpValue) → IsSdpValue a → IsSdpLine a (sdp_text a)
printed (OfRtpmap r) is = rtpmap-printed r is
printed (OfFmtp m) is = fmtp-printed m is
