-- The job sdp: each line in its printed form, and lines of blanks alone passed over. Which lines there are, what they
-- say and how they are printed is opus_sdp's (RFC 7587, 6 and 7).
use Rattle.std.specs.Prelude.{◌≡◌, ℕ, ◌+◌, if◌then◌else◌, List, [], ◌∷◌, ◌++◌, codes, Option, None, Some}
use Rattle.job_loop.specs.Shown.{Shown}
use Rattle.job_loop.specs.Meaning.{Meaning, Step, goes, stops}
use Rattle.opus_sdp.specs.Grammar.{are_blank}
use Rattle.opus_sdp.specs.Fault.{begins_with}
use Rattle.opus_sdp.specs.Reading.{fmtp_in, rtpmap_in}
use Rattle.opus_sdp.specs.SdpLine.{SdpValue, OfRtpmap, OfFmtp, sdp_fault, sdp_text}
use Rattle.opus_sdp.specs.declared.fault.SdpFault.{SdpFault}
use Rattle.opus_words.specs.declared.ending.JobFault.{JobFault}
use Rattle.job_ends.specs.Refusal.{told}
use Rattle.text_jobs.specs.declared.line.Line.{Line}
use Rattle.text_jobs.specs.declared.line.NoCut.{NoCut}
use Rattle.text_jobs.specs.declared.refusal.SdpRefusal.{SdpRefusal}
use Rattle.text_jobs.specs.Telling.{fault_place, sdp_fault_text}

-- what a line says in which there is no fault
abbrev pub sdp_in : List ℕ → SdpValue
sdp_in line = if begins_with (codes "a=rtpmap:") line then OfRtpmap (rtpmap_in line) else OfFmtp (fmtp_in line)

-- the refusal for a fault of the line that has this number, from 0, and begins there
abbrev pub sdp_refusal : ℕ → ℕ → SdpFault → SdpRefusal
sdp_refusal number start fault =
    record { index = told number; place = told (start + fault_place fault); fault = fault }

-- what becomes of a line that isn't of blanks alone
abbrev pub line_step : ℕ → ℕ → List ℕ → Option SdpFault → Step ℕ SdpRefusal
line_step number start line None = goes (sdp_text (sdp_in line) ++ 10 ∷ []) (number + 1)
line_step number start line (Some fault) = stops [] (sdp_refusal number start fault)

-- `number` lines came before
abbrev pub sdp_step : ℕ → Shown Line → Step ℕ SdpRefusal
sdp_step number r =
    if are_blank r.bytes then goes [] (number + 1) else line_step number r.item.start r.bytes (sdp_fault r.bytes)

-- it keeps the number of lines so far
abbrev pub sdp : Meaning (Shown Line) ℕ NoCut SdpRefusal
sdp = record {
  opening = [];
  start = 0;
  step = sdp_step;
  finish = λ number end. goes [] tt;
}

-- the program's fault tells the refusal
abbrev pub TellsSdp : JobFault → SdpRefusal → Type 0
TellsSdp f r = (f.index ≡ r.index) × (f.place ≡ r.place) × (f.text.bytes ≡ sdp_fault_text r.fault)
