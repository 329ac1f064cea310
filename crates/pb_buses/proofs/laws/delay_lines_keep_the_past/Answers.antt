use Rattle.pb_buses.proofs.LineLemmas.{line_goes_on, line_shows, pushed-twice}
use Rattle.pb_buses.proofs.laws.delay_lines_keep_the_past.Goals as goal

pub returns : goal.returns
returns c = record { goes_on = line_goes_on; shows = line_shows; parts = pushed-twice }
