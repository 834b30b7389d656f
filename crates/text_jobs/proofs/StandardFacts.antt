-- Lines and the job over them, computed by the definitions.
use Rattle.std.proofs.Common.{◌≡◌, [], ◌∷◌, ◌++◌, None, refl}
use Rattle.std.specs.Prelude.{codes}
use Rattle.std.specs.Fmt.{digits}
use Rattle.job_loop.specs.Meaning.{goes, stops, broke, outcome}
use Rattle.job_loop.specs.declared.input_end.InputEnd.TheVariants.{Closed}
use Rattle.opus_sdp.specs.Table.{table}
use Rattle.opus_sdp.specs.Fault.{fmtp_fault, rtpmap_fault}
use Rattle.opus_sdp.specs.Printed.{fmtp_text, rtpmap_text}
use Rattle.opus_sdp.specs.declared.fault.SdpFault.TheVariants.{Value, Codec}
use Rattle.text_jobs.specs.Lines.{ended, line_at, lines_at, LineEnds}
use Rattle.text_jobs.specs.Sdp.{sdp, sdp_step}

-- the known parameters stand in front
fmtp : sdp_step 0 (line_at 0 60 (codes "a=fmtp:111 useinbandfec=1; maxplaybackrate=16000;minptime=10"))
    ≡ goes (codes "a=fmtp:111 maxplaybackrate=16000;useinbandfec=1;minptime=10" ++ 10 ∷ []) 1
unfolding fmtp_fault fmtp_text table digits
fmtp = refl

rtpmap : sdp_step 3 (line_at 9 36 (codes "a=rtpmap:111 OPUS/48000/2 "))
    ≡ goes (codes "a=rtpmap:111 opus/48000/2" ++ 10 ∷ []) 4
unfolding rtpmap_fault rtpmap_text table digits
rtpmap = refl

-- a place counts from the input's beginning
value : sdp_step 2 (line_at 30 50 (codes "a=fmtp:111 stereo=2"))
    ≡ stops [] record { index = 2; place = 48; fault = Value 18 }
unfolding fmtp_fault table
value = refl

blanks : sdp_step 7 (line_at 30 33 (32 ∷ 13 ∷ [])) ≡ goes [] 8
blanks = refl

-- a line, one without bytes, and a last one without its newline
three : LineEnds (codes "ab" ++ 10 ∷ 10 ∷ codes "cd")
    (line_at 0 3 (codes "ab") ∷ line_at 3 4 [] ∷ line_at 4 6 (codes "cd") ∷ []) None
three = (codes "ab" ∷ [] ∷ [], codes "cd", record { parts = refl; lines = refl; last = refl }, refl, refl)

-- what stands behind a refused line is neither read nor written
refused : outcome sdp (lines_at 0 (codes "a=fmtp:1" ∷ [] ∷ codes "a=rtpmap:1 PCMU/8000" ∷ codes "a=fmtp:2" ∷ [])) Closed
    ≡ broke (ended (codes "a=fmtp:1")) record { index = 2; place = 20; fault = Codec 10 }
unfolding fmtp_fault rtpmap_fault fmtp_text table digits
refused = refl
