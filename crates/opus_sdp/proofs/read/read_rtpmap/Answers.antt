use Rattle.std.proofs.Common.{◌≡◌, ℕ, ◌-◌, true, false, List, length, take, drop, Some, Ok, ap, ◌∙◌, rules}
use Rattle.std.proofs.lemmas.List.{take_rest}
use Rattle.opus_sdp.specs.Fault.{rtpmap_fault}
use Rattle.opus_sdp.specs.declared.fault.SdpFault.TheVariants.{Codec}
use Rattle.opus_sdp.proofs.RtpmapLemmas.{rtpmap-none}
use Rattle.opus_sdp.proofs.AnswerLemmas.{ReadsCodec, rtpmap_fault-front, codec-fault, rtpmap-found, rtpmap-only}
use Rattle.opus_sdp.proofs.read.read_rtpmap.Goals as goal

pub returns-in_err-payload_type-clause-only : goal.returns-in_err-payload_type-clause-only
returns-in_err-payload_type-clause-only c = λ r is.
    let said = rtpmap_fault-front c.args.line.now c.in_err-payload_type.field-0.0 c.in_err-payload_type.ensures.fault in
    let none = rtpmap-none r c.args.line.now is in
    cc

pub returns-in_err-payload_type-clause-fault : goal.returns-in_err-payload_type-clause-fault
returns-in_err-payload_type-clause-fault c =
    let said : rtpmap_fault c.args.line.now ≡ Some c.in_err-payload_type.field-0.0 =
    rtpmap_fault-front c.args.line.now c.in_err-payload_type.field-0.0 c.in_err-payload_type.ensures.fault in
    search rules

-- where the codec isn't that of Opus

refused : (c : goal.Then-not-is_opus) → rtpmap_fault c.args.line.now ≡ Some (Codec c.in_ok-payload_type.end)
refused c =
    let line = c.args.line.now in
    let end = c.in_ok-payload_type.end in
    codec-fault line end (take (length line - end) (drop end line)) c.in_ok-payload_type.payload_type false record {
      front = c.in_ok-payload_type.ensures.none;
      payload_type = c.in_ok-payload_type.ensures.payload_type;
      ends = c.in_ok-payload_type.ensures.end;
      rest = take_rest line end ∙ ap (λ n. drop n line) c.in_ok-payload_type.ensures.end;
      tested = c.if-not-is_opus.ensures;
    }

pub returns-then-not-is_opus-clause-only : goal.returns-then-not-is_opus-clause-only
returns-then-not-is_opus-clause-only c = λ r is.
    let said = refused c in
    let none = rtpmap-none r c.args.line.now is in
    cc

pub returns-then-not-is_opus-clause-fault : goal.returns-then-not-is_opus-clause-fault
returns-then-not-is_opus-clause-fault c = refused c

-- and where it is

abbrev text : goal.Else-not-is_opus → List ℕ
text c = take (length c.args.line.now - c.in_ok-payload_type.end) (drop c.in_ok-payload_type.end c.args.line.now)

reads : (c : goal.Else-not-is_opus)
    → ReadsCodec c.args.line.now c.in_ok-payload_type.end (text c) c.in_ok-payload_type.payload_type true
reads c = record {
  front = c.in_ok-payload_type.ensures.none;
  payload_type = c.in_ok-payload_type.ensures.payload_type;
  ends = c.in_ok-payload_type.ensures.end;
  rest = take_rest c.args.line.now c.in_ok-payload_type.end ∙ ap (λ n. drop n c.args.line.now) c.in_ok-payload_type.ensures.end;
  tested = c.if-not-is_opus.ensures;
}

pub returns-clause-found : goal.returns-clause-found
returns-clause-found c =
    rtpmap-found c.args.line.now c.in_ok-payload_type.end (text c) c.in_ok-payload_type.payload_type (reads c)

pub returns-clause-only : goal.returns-clause-only
returns-clause-only c = λ r is.
    ap Ok (rtpmap-only c.args.line.now c.in_ok-payload_type.end (text c) c.in_ok-payload_type.payload_type (reads c) r is)
