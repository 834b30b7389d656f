use Rattle.pack_jobs.proofs.PacketLineLemmas.{spelling_before}
use Rattle.pack_jobs.proofs.packet_lines.push_spelling.Goals as goal

pub returns-clause-text : goal.returns-clause-text
returns-clause-text g c =
    let pieces = spelling_before c.args.shape c.args.count c.args.size c.args.line.now in cc
