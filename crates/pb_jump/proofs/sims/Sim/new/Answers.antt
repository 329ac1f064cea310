use Rattle.std.proofs.Common.{◌≡◌, ap, ◌∙◌}
use Rattle.pb_buses.specs.declared.Buses.{Buses}
use Rattle.pb_buses.specs.Buses.{opening_buses}
use Rattle.pb_still.specs.Current.{buses_with}
use Rattle.pb_jump.proofs.OpeningLemmas.{sim_agrees, sim_going, sim_known, sim_idle}
use Rattle.pb_jump.proofs.sims.Sim.new.Goals as goal

pub invariant_of-result : goal.invariant_of-result
invariant_of-result c =
    let values = c.put_rows-place.new.values in
    let buses : Buses = c.put_values.new.buses in
    let put : buses ≡ buses_with values 0 opening_buses = c.put_values.ensures ∙ ap (buses_with values 0) c.new-buses.ensures in (
      sim_going c.args.stimulus values buses c.in-Ok.lazies.items c.in-Ok.ensures c.put_rows-place.ensures.levels put,
      c.put_rows-place.ensures,
    )

pub returns-clause-opening : goal.returns-clause-opening
returns-clause-opening c =
    let values = c.put_rows-place.new.values in
    let buses : Buses = c.put_values.new.buses in
    let put : buses ≡ buses_with values 0 opening_buses = c.put_values.ensures ∙ ap (buses_with values 0) c.new-buses.ensures in
    sim_agrees c.args.stimulus values buses c.in-Ok.lazies.items c.in-Ok.ensures c.put_rows-place.ensures.levels put

pub returns-clause-known : goal.returns-clause-known
returns-clause-known c =
    let values = c.put_rows-place.new.values in
    let buses : Buses = c.put_values.new.buses in
    let put : buses ≡ buses_with values 0 opening_buses = c.put_values.ensures ∙ ap (buses_with values 0) c.new-buses.ensures in
    sim_known c.args.stimulus values buses c.in-Ok.lazies.items c.in-Ok.ensures c.put_rows-place.ensures.levels put

pub returns-clause-idle : goal.returns-clause-idle
returns-clause-idle c =
    let values = c.put_rows-place.new.values in
    let buses : Buses = c.put_values.new.buses in
    let put : buses ≡ buses_with values 0 opening_buses = c.put_values.ensures ∙ ap (buses_with values 0) c.new-buses.ensures in
    sim_idle c.args.stimulus values buses c.in-Ok.lazies.items c.in-Ok.ensures c.put_rows-place.ensures.levels put
