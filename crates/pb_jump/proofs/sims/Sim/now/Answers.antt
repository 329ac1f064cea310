use Rattle.pb_jump.proofs.sims.Sim.now.Goals as goal

pub returns-clause-small : goal.returns-clause-small
returns-clause-small c = c.self.invariant.1.small
