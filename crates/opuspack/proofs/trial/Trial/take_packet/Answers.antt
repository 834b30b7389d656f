use Rattle.std.proofs.Common.{◌≡◌, ℕ, ◌+◌, ◌++◌, List, ap, sym, subst, ◌∙◌, sum, OnOk, OnErr, arith}
use Rattle.std.specs.Io.KnownBytes.{Appends}
use Rattle.job_loop.specs.Telling.{Front}
use Rattle.job_ends.specs.Refusal.{told}
use Rattle.rec_store.specs.DemoStore.{demo_record}
use Rattle.opus_packet.specs.Canonical.{canonical}
use Rattle.opus_writer.specs.Forms.{canonical_header}
use Rattle.std.proofs.lemmas.List.Sums.{sum_by-append}
use Rattle.opus_writer.proofs.FormLemmas.{canonical-joined}
use Rattle.opuspack.proofs.trial.Trial.take_packet.Given.{Over}
use Rattle.opuspack.proofs.trial.Trial.take_packet.Goals as goal

joined : (g : Over) (c : goal.After-write_record g) → c.as_slice-2.result.now ++ c.body-body.result.now ≡ canonical c.args.packet.now.value
joined g c =
    let header = c.as_slice-2.ensures.value ∙ c.push_canon_header.ensures.bytes
    ∙ ap (λ (l : List ℕ). l ++ canonical_header c.args.packet.now.value) c.new-header.ensures in
    canonical-joined c.args.packet.now.value c.as_slice-2.result.now c.body-body.result.now header c.body-body.ensures.bytes

pub returns-clause-ok : goal.returns-clause-ok
returns-clause-ok g c =
    subst (λ (bytes : List ℕ). OnOk c.write_record.result (Appends (g.O.Sink.contents c.args.out.now)
    (g.O.Sink.contents c.write_record.new.out) (demo_record c.args.number bytes))) (joined g c) c.write_record.ensures.ok

pub returns-clause-counted : goal.returns-clause-counted
returns-clause-counted g c =
    let header = c.as_slice-2.result.now in
    let body = c.body-body.result.now in
    let now = c.add_packet.ensures in
    let parts : c.sum_of.result + c.sum_of-2.result ≡ sum (header ++ body) =
    omega (
      arith,
      c.sum_of.ensures.sum,
      c.sum_of-2.ensures.sum,
      ap sum (c.as_slice.ensures.value ∙ sym c.as_slice-2.ensures.value),
      sum_by-append (λ (n : ℕ). n) header body,
    ) in
    let sum_is : c.sum_of.result + c.sum_of-2.result ≡ sum (canonical c.args.packet.now.value) = parts ∙ ap sum (joined g c) in
    record {
      records = now.records;
      lost = now.lost;
      frames = now.frames;
      samples = now.samples;
      size_in = now.size_in;
      size_out = now.size_out;
      sum_is = now.sum ∙ ap (λ (n : ℕ). told (c.args.self.now.totals.sum + n)) sum_is;
    }

pub returns-clause-front : goal.returns-clause-front
returns-clause-front g c =
    subst (λ (bytes : List ℕ). OnErr c.write_record.result (Front (demo_record c.args.number bytes) (g.O.Sink.contents c.args.out.now)
    (g.O.Sink.contents c.write_record.new.out))) (joined g c) c.write_record.ensures.front
