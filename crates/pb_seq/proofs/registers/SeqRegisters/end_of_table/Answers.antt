use Rattle.std.proofs.Common.{◌≡◌, true, ◌∙◌, ap, rules}
use Rattle.pb_seq.specs.declared.registers.SeqRegisters.{SeqRegisters}
use Rattle.pb_seq.specs.Seq as definition
use Rattle.pb_seq.proofs.registers.SeqRegisters.end_of_table.Goals as goal

pub returns-then-goes_on-clause-value : goal.returns-then-goes_on-clause-value
returns-then-goes_on-clause-value c =
    let e : definition.goes_on c.args.settings.now.repeats c.args.self.table_repeat ≡ true = search rules in
    let tried : SeqRegisters → SeqRegisters =
    λ r. definition.try c.args.settings.now c.args.rows.now r c.args.inputs.now in
    let s = c.try_trigger.ensures.value ∙ ap tried c.next_table_repeat.ensures in
    rw e s
