use Rattle.dump_records.proofs.LawLemmas.{whole_shows, cut_shows, line_shows, length_shows}
use Rattle.dump_records.proofs.laws.each_input_shows_what_it_is.Goals as goal

pub returns : goal.returns
returns c = record { whole = whole_shows; cut = cut_shows; line = line_shows; length = length_shows }
