use Rattle.std.proofs.Common.{◌≡◌, ◌<◌, ◌≤◌, length, sym, subst, arith, rules}
use Rattle.pb_buses.specs.Delay.{BitInput}
use Rattle.pb_model.specs.Tick.{seen_on}
use Rattle.pb_still.specs.Coasting.{input_later}
use Rattle.pb_lazy.proofs.CallLemmas.{steady_more, steady_all}
use Rattle.pb_lazy.proofs.lazies.turn_of.Goals as goal

pub loop-mux-preserved : goal.loop-mux-preserved
loop-mux-preserved c =
    let bus = c.args.buses.now.bus in
    let below : c.loop-mux.mux-index < length c.args.inputs.now = first_of (omega arith, search rules) in
    record {
      ahead = c.sooner-turn.ensures.ahead;
      steady = λ k less.
          steady_more c.args.buses.now.bus k c.loop-mux.mux-index c.args.inputs.now c.mux-item.result below c.mux-item.is
          (c.loop-mux.invariant.steady k (omega (arith, c.sooner-turn.ensures.within)))
          (subst (λ (input : BitInput). seen_on bus (input_later bus k input) ≡ seen_on bus input) (sym c.mux-item.is) (c.sooner-turn.ensures.steady k less));
    }

pub returns : goal.returns
returns c =
    let far : length c.args.inputs.now ≤ c.loop-mux.mux-index = first_of (omega arith, search rules) in
    record {
      ahead = c.loop-mux.invariant.ahead;
      steady = λ k less. steady_all c.args.buses.now.bus k c.loop-mux.mux-index c.args.inputs.now far (c.loop-mux.invariant.steady k less);
    }
