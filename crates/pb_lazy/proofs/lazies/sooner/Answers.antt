use Rattle.std.proofs.Common.{ap, ◌∙◌, arith}
use Rattle.pb_buses.specs.Buses.{selected}
use Rattle.pb_lazy.proofs.CallLemmas.{steady_none, steady_some}
use Rattle.pb_lazy.proofs.lazies.sooner.Goals as goal

pub returns-in-None-clause-steady : goal.returns-in-None-clause-steady
returns-in-None-clause-steady c = λ k below.
    steady_none c.args.buses.now.bus c.args.mux.now c.selected-selected.result
    (c.selected-selected.ensures ∙ ap (selected c.args.buses.now.bus) c.select.ensures) c.in-None.ensures.next k

pub returns-in-Some-clause-steady : goal.returns-in-Some-clause-steady
returns-in-Some-clause-steady c = λ k below.
    steady_some c.args.buses.now.bus c.args.mux.now c.selected-selected.result c.in-Some.ticks
    (c.selected-selected.ensures ∙ ap (selected c.args.buses.now.bus) c.select.ensures) c.in-Some.ensures.next k (omega arith)
