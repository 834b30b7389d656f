use Rattle.opus_flen.proofs.PaddingLemmas.{SpellsPadding-is, SpellsPadding-from}
use Rattle.opus_flen.proofs.PaddingReadLemmas.{padding_read-found}
use Rattle.opus_flen.proofs.laws.a_padding_length_is_read_in_one_way.Goals as goal

pub returns-clause-read : goal.returns-clause-read
returns-clause-read c = padding_read-found

pub returns-clause-one : goal.returns-clause-one
returns-clause-one c =
    λ total bytes above below.
    (SpellsPadding-is total bytes, SpellsPadding-from total bytes above below)
