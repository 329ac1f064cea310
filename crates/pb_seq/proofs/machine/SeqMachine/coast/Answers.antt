use Rattle.std.proofs.Common.{◌∙◌, ap, sym, subst}
use Rattle.pb_buses.specs.Rules.{AreCalm, after}
use Rattle.pb_seq.specs.declared.registers.SeqRegisters.{SeqRegisters}
use Rattle.pb_seq.specs.Seq.{Sequencer, rules}
use Rattle.pb_seq.proofs.DeadlineLemmas.{coasts}
use Rattle.pb_seq.proofs.machine.SeqMachine.coast.Goals as goal

pub returns-clause-left : goal.returns-clause-left
returns-clause-left g c =
    let inputs = c.args.inputs.now in
    let before : Sequencer =
    record { settings = c.self.inside.settings; registers = c.self.inside.registers; table = c.self.inside.rows } in
    let are_calm : Sequencer → Type 0 = λ x. AreCalm rules inputs c.args.tick c.args.ticks x in
    let later : Sequencer → Sequencer = λ x. after rules inputs c.args.tick c.args.ticks x in
    let put : SeqRegisters → Sequencer = λ r. record before { registers = r } in
    let calm = subst are_calm (sym c.self.view_is) c.requires.calm in
    ap put c.coasted-self-inside.ensures.value ∙ coasts inputs c.args.ticks c.args.tick before calm
    ∙ ap later c.self.view_is
