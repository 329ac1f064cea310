use Rattle.std.proofs.Common.{codes, ◌+◌}
use Rattle.pb_stim.specs.Making.{line_at}
use Rattle.pb_stim.proofs.MakingLemmas.{two_added}
use Rattle.pb_stim.proofs.making.add_point.Goals as goal

pub returns : goal.returns
returns c =
    two_added c.args.text.now c.add_line.new.text c.add_line-2.new.text (line_at c.args.tick (codes " S TTLIN1 1")) (line_at (c.args.tick + 1) (codes " S TTLIN1 0"))
    c.in_ok-add_line.ensures c.in_ok-add_line-2.ensures
