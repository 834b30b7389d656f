use Rattle.std.proofs.Common.{ap, sym, ◌∙◌}
use Rattle.rtp_packet.proofs.ReadingLemmas.{spelled-read, spelled-passes}
use Rattle.net_jobs.specs.Arrive.{packet_sort, rtp_sort}
use Rattle.net_jobs.proofs.stream.sort_rtp.Goals as goal

pub returns-in-Ok : goal.returns-in-Ok
returns-in-Ok c =
    let a = c.args.asked in
    let k = c.args.chosen in
    let b = c.args.bytes.now in
    c.sort_packet.ensures
    ∙ ap (packet_sort a k) (sym (spelled-read _ b c.in-Ok.ensures.found))
    ∙ sym (ap (rtp_sort a k b) (spelled-passes _ b c.in-Ok.ensures.found))

pub returns-in-Err : goal.returns-in-Err
returns-in-Err c =
    sym (ap (rtp_sort c.args.asked c.args.chosen c.args.bytes.now) ((c.read_rtp.ensures.fault c.in-Err.field-0).0 c.in-Err.is))
