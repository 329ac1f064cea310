use Rattle.std.proofs.Common.{List, subst, arith}
use Rattle.std.proofs.lemmas.List.{take_all}
use Rattle.pb_buses.specs.Delay.{BitInput}
use Rattle.pb_model.specs.Parts.{IsNextSight}
use Rattle.pb_model.proofs.blocks.next_sight.Goals as goal

pub returns-clause-next : goal.returns-clause-next
returns-clause-next c =
    subst (λ (l : List BitInput). IsNextSight c.args.buses.now.bus l c.loop-i.first)
    (take_all c.loop-i.i c.args.inputs.now (omega (arith, c.type_inv.inputs)))
    c.loop-i.invariant.next
