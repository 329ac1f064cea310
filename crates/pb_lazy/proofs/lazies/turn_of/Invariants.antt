use Rattle.std.proofs.Common.{◌≡◌, ℕ, ◌+◌, ◌<◌, map, take}
use Rattle.pb_model.specs.Tick.{seen_on}
use Rattle.pb_still.specs.Coasting.{input_later}
use Rattle.pb_lazy.proofs.lazies.turn_of.Given as goal

abbrev pub invariant-loop-mux : goal.invariant-loop-mux
invariant-loop-mux l =
    record {
      ahead : l.tick < l.turn;
      steady : (k : ℕ) → l.tick + k < l.turn →
          map (seen_on l.buses.bus) (map (input_later l.buses.bus k) (take l.mux-index l.inputs)) ≡ map (seen_on l.buses.bus) (take l.mux-index l.inputs);
    }
