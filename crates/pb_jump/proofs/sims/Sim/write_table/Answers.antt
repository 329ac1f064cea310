use Rattle.pb_tables.specs.Computed.{written}
use Rattle.pb_model.specs.Tables.{table_of}
use Rattle.pb_going.specs.Sims.{now_of}
use Rattle.pb_jump.proofs.AgreeingLemmas.{written_agrees}
use Rattle.pb_jump.proofs.sims.Sim.write_table.Goals as goal

pub returns-clause-agrees : goal.returns-clause-agrees
returns-clause-agrees g c =
    written_agrees c.args.instance (written (table_of (now_of c.args.self.now).blocks c.args.instance) c.args.append c.args.base64 c.args.body.now)
    c.args.self.now c.write.new.self c.args.steps.now c.write.new.steps c.write.ensures.left
