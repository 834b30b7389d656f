-- What the code finds out about a record, as what it is to a receiver.
use Rattle.rtp_packet.specs.RtpRead.{rtp_value}
use Rattle.net_jobs.specs.declared.stream.Sort.{Sort}
use Rattle.net_jobs.specs.declared.stream.Sort.TheVariants.{Passed, Arrival}
use Rattle.net_jobs.specs.Arrive.{RecordSort, passes, arrival_of}

abbrev pub sort_value : Sort → RecordSort
sort_value (Passed passed) = passes passed
sort_value (Arrival r) = arrival_of (rtp_value r)
