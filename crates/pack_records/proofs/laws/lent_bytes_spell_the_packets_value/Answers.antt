use Rattle.pack_records.proofs.LentLemmas.{lent_value-spelled, lent_value-only, lent_value-form, lent_value-held}
use Rattle.pack_records.proofs.laws.lent_bytes_spell_the_packets_value.Goals as goal

pub returns-clause-record : goal.returns-clause-record
returns-clause-record c = lent_value-held

pub returns-clause-form : goal.returns-clause-form
returns-clause-form c = lent_value-form

pub returns-clause-exactly : goal.returns-clause-exactly
returns-clause-exactly c framing v bytes are =
    (lent_value-only framing v bytes are, λ (s, tail, reads). lent_value-spelled framing v s tail bytes reads)
