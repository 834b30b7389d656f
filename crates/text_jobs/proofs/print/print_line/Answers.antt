use Rattle.std.proofs.Common.{[], ◌∷◌, ◌++◌, sym, ap, ◌∙◌}
use Rattle.opus_sdp.specs.SdpLine.{OfRtpmap, OfFmtp, sdp_text}
use Rattle.opus_sdp.proofs.LawLemmas.{no_fault}
use Rattle.text_jobs.proofs.SdpLemmas.{says}
use Rattle.text_jobs.proofs.print.print_line.Goals as goal

pub returns-in_ok-write_rtpmap-clause-none : goal.returns-in_ok-write_rtpmap-clause-none
returns-in_ok-write_rtpmap-clause-none c =
    no_fault (OfRtpmap c.in_ok-read_rtpmap.field-0) c.args.line.now c.in_ok-read_rtpmap.ensures.found

pub returns-in_ok-write_rtpmap-clause-ok : goal.returns-in_ok-write_rtpmap-clause-ok
returns-in_ok-write_rtpmap-clause-ok c =
    c.in_ok-write_rtpmap.ensures.ok ∙ ap (λ a. c.args.out.now.items ++ (sdp_text a ++ 10 ∷ []))
    (sym (says (OfRtpmap c.in_ok-read_rtpmap.field-0) c.args.line.now c.in_ok-read_rtpmap.ensures.found))

pub returns-in_ok-write_fmtp-clause-none : goal.returns-in_ok-write_fmtp-clause-none
returns-in_ok-write_fmtp-clause-none c =
    no_fault (OfFmtp c.in_ok-read_fmtp.field-0) c.args.line.now c.in_ok-read_fmtp.ensures.found

pub returns-in_ok-write_fmtp-clause-ok : goal.returns-in_ok-write_fmtp-clause-ok
returns-in_ok-write_fmtp-clause-ok c =
    c.in_ok-write_fmtp.ensures.ok ∙ ap (λ a. c.args.out.now.items ++ (sdp_text a ++ 10 ∷ []))
    (sym (says (OfFmtp c.in_ok-read_fmtp.field-0) c.args.line.now c.in_ok-read_fmtp.ensures.found))
