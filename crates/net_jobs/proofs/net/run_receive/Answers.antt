use Rattle.net_jobs.specs.NetEnds.{asked_in}
use Rattle.net_jobs.specs.Receive.{receive}
use Rattle.net_jobs.proofs.NetLemmas.{receive_unstarted}
use Rattle.net_jobs.proofs.net.run_receive.Goals as goal

pub returns-in_default : goal.returns-in_default
returns-in_default g c =
    receive_unstarted (receive c.args.telling (asked_in c.args.task.job.now)) c.args.task.limit _

pub returns-in-Err : goal.returns-in-Err
returns-in-Err g c =
    receive_unstarted (receive c.args.telling (asked_in c.args.task.job.now)) c.args.task.limit _
