use Rattle.std.proofs.Common.{ℕ, ◌-◌, List, length, take, drop, inr, ap, ◌∙◌, rules}
use Rattle.std.proofs.lemmas.List.{take_rest}
use Rattle.opus_sdp.specs.Fault.{fmtp_fault}
use Rattle.opus_sdp.specs.Found.{Tells}
use Rattle.opus_sdp.proofs.LineLemmas.{fmtp-none}
use Rattle.opus_sdp.proofs.AnswerLemmas.{ReadsParams, fmtp_fault-front, fmtp-found, fmtp-fault, fmtp-only}
use Rattle.opus_sdp.proofs.read.read_fmtp.Goals as goal

pub returns-in_err-payload_type-clause-only : goal.returns-in_err-payload_type-clause-only
returns-in_err-payload_type-clause-only c = λ m is.
    let said = fmtp_fault-front c.args.line.now c.in_err-payload_type.field-0.0 c.in_err-payload_type.ensures.fault in
    let none = fmtp-none m c.args.line.now is in
    cc

pub returns-in_err-payload_type-clause-fault : goal.returns-in_err-payload_type-clause-fault
returns-in_err-payload_type-clause-fault c =
    let said : Tells c.in_err-payload_type.field-0.0 (fmtp_fault c.args.line.now) =
    inr (fmtp_fault-front c.args.line.now c.in_err-payload_type.field-0.0 c.in_err-payload_type.ensures.fault) in
    search rules

-- what lies behind the payload type
abbrev text : goal.After-read_params → List ℕ
text c = take (length c.args.line.now - c.in_ok-payload_type.end) (drop c.in_ok-payload_type.end c.args.line.now)

reads : (c : goal.After-read_params) → ReadsParams c.args.line.now c.in_ok-payload_type.end (text c) c.in_ok-payload_type.payload_type c.read_params.result
reads c = record {
  front = c.in_ok-payload_type.ensures.none;
  payload_type = c.in_ok-payload_type.ensures.payload_type;
  ends = c.in_ok-payload_type.ensures.end;
  rest = take_rest c.args.line.now c.in_ok-payload_type.end ∙ ap (λ n. drop n c.args.line.now) c.in_ok-payload_type.ensures.end;
  none = c.read_params.ensures.none;
  ok = c.read_params.ensures.ok;
  fault = c.read_params.ensures.fault;
}

pub returns-clause-found : goal.returns-clause-found
returns-clause-found c = fmtp-found c.args.line.now c.in_ok-payload_type.end (text c) c.in_ok-payload_type.payload_type c.read_params.result c.requires (reads c)

pub returns-clause-only : goal.returns-clause-only
returns-clause-only c = fmtp-only c.args.line.now c.in_ok-payload_type.end (text c) c.in_ok-payload_type.payload_type c.read_params.result (reads c)

pub returns-clause-fault : goal.returns-clause-fault
returns-clause-fault c = fmtp-fault c.args.line.now c.in_ok-payload_type.end (text c) c.in_ok-payload_type.payload_type c.read_params.result (reads c)
