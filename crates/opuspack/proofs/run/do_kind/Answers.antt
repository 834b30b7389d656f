use Rattle.opuspack.proofs.RunLemmas.{is_net_job, is_pack_kind, is_parted_job, net_kind}
use Rattle.opuspack.proofs.run.do_kind.Goals as goal

pub net_job-requires : goal.net_job-requires
net_job-requires g c =
    is_net_job c.args.task.job.now (net_kind c.args.task.job.now.kind c.in-Send.is) c.requires

pub stream_job-requires : goal.stream_job-requires
stream_job-requires g c = is_parted_job c.args.task.job.now c.in-Apart.is

pub packet_job-requires-clause-kind : goal.packet_job-requires-clause-kind
packet_job-requires-clause-kind g c =
    is_pack_kind c.args.task.job.now.kind (record {
      head = c.in_default.not-Head;
      send = c.in_default.not-Send;
      recv = c.in_default.not-Recv;
      replay = c.in_default.not-Replay;
      sdp = c.in_default.not-Sdp;
      apart = c.in_default.not-Apart;
      join = c.in_default.not-Join;
      extract = c.in_default.not-Extract;
      make = c.in_default.not-Make;
      trial = c.in_default.not-Trial;
    })
