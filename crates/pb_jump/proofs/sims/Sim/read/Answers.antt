use Rattle.pb_jump.proofs.sims.Sim.read.Goals as goal

pub value-requires-clause-own : goal.value-requires-clause-own
value-requires-clause-own c = c.requires.awake.own c.args.slot c.requires.slot c.requires.read
