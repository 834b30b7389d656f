use Rattle.std.proofs.Common.{subst, sym, ap}
use Rattle.job_loop.specs.Meaning.{step_text}
use Rattle.job_loop.specs.Telling.{Front}
use Rattle.opus_head.specs.HeadBytes.{IsOpusHead}
use Rattle.opuspack.specs.HeadLines.{head_lines}
use Rattle.opuspack.proofs.HeadLemmas.{head_told}
use Rattle.opuspack.proofs.head.HeadJobRecordJobWholeInputNever.take.Goals as goal

pub returns-in-Ok-write_head_lines-clause-ok : goal.returns-in-Ok-write_head_lines-clause-ok
returns-in-Ok-write_head_lines-clause-ok g c = λ k stands.
    let is = subst (IsOpusHead c.in-Ok.head) c.bytes-bytes.ensures c.in-Ok.ensures.found in
    record {
      text = head_lines c.in-Ok.head;
      kept = tt;
      step_is = head_told c.in-Ok.head c.args.item.now.bytes is;
      stands = tt;
      written = c.in-Ok-write_head_lines.ensures.ok;
    }

pub returns-in-Ok-clause-stop : goal.returns-in-Ok-clause-stop
returns-in-Ok-clause-stop g c = λ k stands.
    let is = subst (IsOpusHead c.in-Ok.head) c.bytes-bytes.ensures c.in-Ok.ensures.found in
    let told = head_told c.in-Ok.head c.args.item.now.bytes is in
    subst (λ t. Front t (g.O.Sink.contents c.args.out.now) (g.O.Sink.contents c.write_head_lines.new.out)) (sym (ap step_text told))
    c.in-Err-write_head_lines.ensures.front
