use Rattle.pb_model.proofs.SettingLemmas.{read_block}
use Rattle.pb_jump.proofs.sims.Sim.peek.Goals as goal

pub bring-requires-clause-from_lut : goal.bring-requires-clause-from_lut
bring-requires-clause-from_lut g c = read_block c.args.slot c.requires.slot c.requires.read
