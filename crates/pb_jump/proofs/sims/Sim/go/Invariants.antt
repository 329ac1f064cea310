use Rattle.std.proofs.Common.{◌≡◌, ◌-◌, ◌≤◌, true, []}
use Rattle.pb_model.specs.Arming.{is_capture_idle}
use Rattle.pb_still.specs.Eventful.{Moment}
use Rattle.pb_going.specs.Sims.{Agrees, AreKnown, now_of}
use Rattle.pb_going.specs.Coming.{Comes}
use Rattle.pb_jump.proofs.sims.Sim.go.Given as goal

abbrev pub invariant-loop-self : goal.invariant-loop-self
invariant-loop-self g l =
    record {
      onward : l.self.tick ≤ l.to;
      few : l.count ≤ l.most;
      known : AreKnown l.self;
      idle : is_capture_idle (now_of l.self).blocks ≡ true;
      comes : (start : Moment) → Agrees l.fn.self start → Comes start l.self l.count [] l.fn.steps l.steps;
    }

abbrev pub decreases-loop-self : goal.decreases-loop-self
decreases-loop-self g l = l.to - l.self.tick
