use Rattle.pb_model.proofs.ReadLemmas.{readable, read_in_range}
use Rattle.pb_model.proofs.blocks.Block.read.Goals as goal

pub read-requires : goal.read-requires
read-requires c = readable c.args.self.now.unit c.args.slot c.requires.slot c.requires.read c.requires.kind

pub returns-clause-in_range : goal.returns-clause-in_range
returns-clause-in_range c =
    read_in_range c.args.self.now.unit c.args.slot c.read.result c.requires.slot c.requires.read c.requires.kind
    c.read.ensures.value c.read.ensures.small
