use Rattle.std.proofs.Common.{◌≡◌, ℕ, ◌+◌, ◌≤◌}
use Rattle.pb_model.specs.Machines.{name}
use Rattle.pb_jump.specs.Changing.{own_of, IsBrought}
use Rattle.pb_jump.proofs.sims.Sim.bring_kind.Given as goal

abbrev pub invariant-loop-before : goal.invariant-loop-before
invariant-loop-before g l =
    record {
      brought : IsBrought l.fn.self l.self;
      awake : (number : ℕ) → 1 ≤ number → number ≤ l.before → own_of l.self (name l.kind number) ≡ l.self.tick;
      counts : l.steps ≤ l.fn.steps + l.before;
    }
