use Rattle.pb_lazy.proofs.CallLemmas.{never_due, due_after}
use Rattle.pb_lazy.proofs.lazies.next_due.Goals as goal

pub returns-in-None-clause-due : goal.returns-in-None-clause-due
returns-in-None-clause-due g c = never_due c.args.unit.now c.args.inputs.now c.args.tick c.requires c.in-None.ensures.horizon

pub returns-in-Some-clause-due : goal.returns-in-Some-clause-due
returns-in-Some-clause-due g c =
    due_after c.args.unit.now c.args.inputs.now c.args.tick c.in-Some.ticks c.deadline.result c.requires c.in-Some.ensures.horizon c.deadline.ensures
