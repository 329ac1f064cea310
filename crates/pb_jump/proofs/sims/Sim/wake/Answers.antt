use Rattle.std.proofs.Common.{arith}
use Rattle.pb_jump.proofs.AgreeingLemmas.{brought_agrees}
use Rattle.pb_jump.proofs.AwakeLemmas.{woken, twelve}
use Rattle.pb_jump.proofs.sims.Sim.wake.Goals as goal

pub returns : goal.returns
returns g c =
    let all =
    woken c.args.self.now c.bring_kind.new.self c.bring_kind-2.new.self c.bring_kind-3.new.self c.bring_kind-4.new.self c.bring_kind.ensures.brought
    c.bring_kind-2.ensures.brought c.bring_kind-3.ensures.brought c.bring_kind-4.ensures.brought c.bring_kind.ensures.awake
    c.bring_kind-2.ensures.awake c.bring_kind-3.ensures.awake c.bring_kind-4.ensures.awake in
    record {
      now = all.0.now;
      agrees = brought_agrees c.args.self.now c.bring_kind-4.new.self all.0;
      known = all.0.known;
      awake = all.1;
      counts =
          omega (
            arith,
            twelve,
            c.bring_kind.ensures.counts,
            c.bring_kind-2.ensures.counts,
            c.bring_kind-3.ensures.counts,
            c.bring_kind-4.ensures.counts,
          );
    }
