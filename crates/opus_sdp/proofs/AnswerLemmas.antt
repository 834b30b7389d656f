-- What the two readers answer.
use Rattle.std.proofs.Common.{◌≡◌, ◌⊎◌, inl, inr, ℕ, Bool, true, List, [], map, Some, None, Result, Ok, Err, IfOk, IfErr, if◌then◌else◌, sym, ap, subst, ◌∙◌}
use Rattle.std.specs.Prelude.{codes}
use Rattle.std.specs.Option.{option_or}
use Rattle.opus_sdp.specs.Text.{is_line, trim}
use Rattle.text_numbers.specs.Number.{value_of}
use Rattle.opus_sdp.specs.Table.{same_name}
use Rattle.opus_sdp.specs.Params.{fmtp_of}
use Rattle.opus_sdp.specs.Parts.{parts_of, param_of}
use Rattle.opus_sdp.specs.Grammar.{IsFmtpLine, IsRtpmapLine}
use Rattle.opus_sdp.specs.Fault.{word_in, word_end, rest_in, front_fault, first_fault, parts_in, codec_fault, fmtp_fault, rtpmap_fault}
use Rattle.opus_sdp.specs.Reading.{fmtp_in}
use Rattle.opus_sdp.specs.Found.{Tells}
use Rattle.opus_sdp.specs.declared.fmtp.Fmtp.{Fmtp}
use Rattle.opus_sdp.specs.declared.fmtp.Rtpmap.{Rtpmap}
use Rattle.opus_sdp.specs.declared.fault.SdpFault.{SdpFault}
use Rattle.opus_sdp.specs.declared.fault.SdpFault.TheVariants.{Codec, NoMemory}
use Rattle.opus_sdp.proofs.LineLemmas.{fmtp-none, fmtp-value}
use Rattle.opus_sdp.proofs.LineFoundLemmas.{fmtp-spelled}
use Rattle.opus_sdp.proofs.RtpmapLemmas.{rtpmap_of, rtpmap-value, rtpmap-spelled}

-- a fault of the first bytes is the line's

pub fmtp_fault-front : (line : List ℕ) (fault : SdpFault) → front_fault (codes "a=fmtp:") line ≡ Some fault
    → fmtp_fault line ≡ Some fault
unfolding fmtp_fault
fmtp_fault-front line fault front = ap (λ f. option_or f (first_fault [] (parts_in line))) front

pub rtpmap_fault-front : (line : List ℕ) (fault : SdpFault) → front_fault (codes "a=rtpmap:") line ≡ Some fault
    → rtpmap_fault line ≡ Some fault
unfolding rtpmap_fault
rtpmap_fault-front line fault front = ap (λ f. option_or f (codec_fault line)) front

-- and behind them it is that of the rest

fmtp_fault-behind : (line : List ℕ) → front_fault (codes "a=fmtp:") line ≡ None → fmtp_fault line ≡ first_fault [] (parts_in line)
unfolding fmtp_fault
fmtp_fault-behind line front = ap (λ f. option_or f (first_fault [] (parts_in line))) front

pub rtpmap_fault-behind : (line : List ℕ) → front_fault (codes "a=rtpmap:") line ≡ None → rtpmap_fault line ≡ codec_fault line
unfolding rtpmap_fault
rtpmap_fault-behind line front = ap (λ f. option_or f (codec_fault line)) front

-- what is read of the line's parameters

pub record ReadsParams (line : List ℕ) (end : ℕ) (text : List ℕ) (n : ℕ) (result : Result Fmtp SdpFault) : Type 0 where
  pub front : front_fault (codes "a=fmtp:") line ≡ None
  pub payload_type : n ≡ value_of (word_in 7 line)
  pub ends : end ≡ word_end 7 line
  pub rest : text ≡ rest_in 7 line
  pub none : IfOk result (λ m. first_fault [] (parts_of end text) ≡ None)
  pub ok : IfOk result (λ m. m ≡ fmtp_of n (map param_of (parts_of end text)))
  pub fault : IfErr result (λ fault. Tells fault (first_fault [] (parts_of end text)))

parts-same : (line : List ℕ) (end : ℕ) (text : List ℕ) (n : ℕ) (result : Result Fmtp SdpFault) → ReadsParams line end text n result
    → parts_of end text ≡ parts_in line
parts-same line end text n result reads = ap (λ i. parts_of i text) reads.ends ∙ ap (parts_of (word_end 7 line)) reads.rest

fault-same : (line : List ℕ) (end : ℕ) (text : List ℕ) (n : ℕ) (result : Result Fmtp SdpFault) → ReadsParams line end text n result
    → first_fault [] (parts_of end text) ≡ fmtp_fault line
fault-same line end text n result reads =
    ap (first_fault []) (parts-same line end text n result reads) ∙ sym (fmtp_fault-behind line reads.front)

value-same : (line : List ℕ) (end : ℕ) (text : List ℕ) (n : ℕ) (result : Result Fmtp SdpFault) → ReadsParams line end text n result
    → fmtp_of n (map param_of (parts_of end text)) ≡ fmtp_in line
value-same line end text n result reads =
    ap (λ i. fmtp_of i (map param_of (parts_of end text))) reads.payload_type
    ∙ ap (λ ps. fmtp_of (value_of (word_in 7 line)) (map param_of ps)) (parts-same line end text n result reads)

pub fmtp-found : (line : List ℕ) (end : ℕ) (text : List ℕ) (n : ℕ) (result : Result Fmtp SdpFault) → is_line line ≡ true
    → ReadsParams line end text n result → IfOk result (λ m. IsFmtpLine m line)
fmtp-found line end text n (Ok m) one reads =
    let none = sym (fault-same line end text n (Ok m) reads) ∙ reads.none in
    subst (λ x. IsFmtpLine x line) (sym (reads.ok ∙ value-same line end text n (Ok m) reads)) (fmtp-spelled line one none)
fmtp-found line end text n (Err fault) one reads = tt

pub fmtp-fault : (line : List ℕ) (end : ℕ) (text : List ℕ) (n : ℕ) (result : Result Fmtp SdpFault) → ReadsParams line end text n result
    → IfErr result (λ fault. Tells fault (fmtp_fault line))
fmtp-fault line end text n (Ok m) reads = tt
fmtp-fault line end text n (Err fault) reads = subst (Tells fault) (fault-same line end text n (Err fault) reads) reads.fault

only-fault : (m : Fmtp) (line : List ℕ) (fault : SdpFault) → IsFmtpLine m line → Tells fault (fmtp_fault line) → fault ≡ NoMemory
only-fault m line fault is (inl none) = none
only-fault m line fault is (inr said) = let none = fmtp-none m line is in cc

pub fmtp-only : (line : List ℕ) (end : ℕ) (text : List ℕ) (n : ℕ) (result : Result Fmtp SdpFault) → ReadsParams line end text n result
    → (m : Fmtp) → IsFmtpLine m line → (result ≡ Ok m) ⊎ (result ≡ Err NoMemory)
fmtp-only line end text n (Ok found) reads m is =
    inl (ap Ok (reads.ok ∙ value-same line end text n (Ok found) reads ∙ sym (fmtp-value m line is)))
fmtp-only line end text n (Err fault) reads m is =
    inr (ap Err (only-fault m line fault is (fmtp-fault line end text n (Err fault) reads)))

-- what is read of the codec

pub record ReadsCodec (line : List ℕ) (end : ℕ) (text : List ℕ) (n : ℕ) (same : Bool) : Type 0 where
  pub front : front_fault (codes "a=rtpmap:") line ≡ None
  pub payload_type : n ≡ value_of (word_in 9 line)
  pub ends : end ≡ word_end 9 line
  pub rest : text ≡ rest_in 9 line
  pub tested : same ≡ same_name (trim text) (codes "opus/48000/2")

pub codec-fault : (line : List ℕ) (end : ℕ) (text : List ℕ) (n : ℕ) (same : Bool) → ReadsCodec line end text n same
    → rtpmap_fault line ≡ (if same then None else Some (Codec end))
codec-fault line end text n same reads =
    let test : same_name (trim (rest_in 9 line)) (codes "opus/48000/2") ≡ same =
    ap (λ l. same_name (trim l) (codes "opus/48000/2")) (sym reads.rest) ∙ sym reads.tested in
    rtpmap_fault-behind line reads.front ∙ ap (λ b. if b then None else Some (Codec (word_end 9 line))) test
    ∙ ap (λ i. if same then None else Some (Codec i)) (sym reads.ends)

pub rtpmap-found : (line : List ℕ) (end : ℕ) (text : List ℕ) (n : ℕ) → ReadsCodec line end text n true
    → IsRtpmapLine (rtpmap_of n) line
rtpmap-found line end text n reads =
    subst (λ r. IsRtpmapLine r line) (sym (ap rtpmap_of reads.payload_type))
    (rtpmap-spelled line (codec-fault line end text n true reads))

pub rtpmap-only : (line : List ℕ) (end : ℕ) (text : List ℕ) (n : ℕ) → ReadsCodec line end text n true
    → (r : Rtpmap) → IsRtpmapLine r line → rtpmap_of n ≡ r
rtpmap-only line end text n reads r is = ap rtpmap_of reads.payload_type ∙ sym (rtpmap-value r line is)
