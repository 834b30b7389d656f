use Rattle.std.proofs.Common.{◌+◌, ◌%◌, pos, ◌-ℤ◌}
use Rattle.rtp_ends.specs.Numbers.{number_at}
use Rattle.rtp_ends.proofs.UnwrapLemmas.{unwrapped}
use Rattle.rtp_ends.proofs.laws.near_numbers_are_found_again.Goals as goal

pub returns : goal.returns
returns c = record {
  each = λ start k ks heard seqs stays.
      (number_at (65536 + (start + k) % 65536) -ℤ pos k, unwrapped start k ks heard seqs stays);
}
