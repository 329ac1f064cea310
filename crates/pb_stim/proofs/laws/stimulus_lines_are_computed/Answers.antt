use Rattle.pb_stim.proofs.FormLemmas.{line_says, line_read}
use Rattle.pb_stim.proofs.laws.stimulus_lines_are_computed.Goals as goal

pub returns : goal.returns
returns c text line = (line_read text line, line_says text line)
