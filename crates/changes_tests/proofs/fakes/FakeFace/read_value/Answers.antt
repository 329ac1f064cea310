use Rattle.changes_tests.proofs.FakeLemmas.{reads_zero}
use Rattle.changes_tests.proofs.fakes.FakeFace.read_value.Goals as goal

pub returns-clause-range : goal.returns-clause-range
returns-clause-range c = reads_zero c.args._slot c.requires.slot c.requires.read
